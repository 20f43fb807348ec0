-- The number, the name and the place of each fault.
-- Source: own (fault): the standard does not number or name the faults of a reader.
use Rattle.std.specs.Prelude.{ℕ, List, Option, Some, None, codes}
use Rattle.kmip_ttlv.specs.declared.ttlv_fault.TtlvFault.{TtlvFault}
use Rattle.kmip_ttlv.specs.declared.ttlv_fault.TtlvFault.TheVariants.{
  Short,
  UnknownType,
  BadLength,
  BadBoolean,
  BadText,
  ChildrenOverrun,
  TooDeep,
  TooLong,
  NoMemory,
}

-- the number of a fault, 1 to 9 in the order of their declaration
abbrev pub fault_number : TtlvFault → ℕ
fault_number (Short at) = 1
fault_number (UnknownType at) = 2
fault_number (BadLength at) = 3
fault_number (BadBoolean at) = 4
fault_number (BadText at) = 5
fault_number (ChildrenOverrun at) = 6
fault_number (TooDeep at) = 7
fault_number (TooLong at) = 8
fault_number NoMemory = 9

-- the name of a fault, as it is declared and as it is printed
abbrev pub fault_name : TtlvFault → List ℕ
fault_name (Short at) = codes "Short"
fault_name (UnknownType at) = codes "UnknownType"
fault_name (BadLength at) = codes "BadLength"
fault_name (BadBoolean at) = codes "BadBoolean"
fault_name (BadText at) = codes "BadText"
fault_name (ChildrenOverrun at) = codes "ChildrenOverrun"
fault_name (TooDeep at) = codes "TooDeep"
fault_name (TooLong at) = codes "TooLong"
fault_name NoMemory = codes "NoMemory"

-- The offset of the first byte of the item at fault. Want of memory has none.
abbrev pub fault_offset : TtlvFault → Option ℕ
fault_offset (Short at) = Some at
fault_offset (UnknownType at) = Some at
fault_offset (BadLength at) = Some at
fault_offset (BadBoolean at) = Some at
fault_offset (BadText at) = Some at
fault_offset (ChildrenOverrun at) = Some at
fault_offset (TooDeep at) = Some at
fault_offset (TooLong at) = Some at
fault_offset NoMemory = None

-- The number and the name of each fault, what it is about, and the fault of a message that is no item.
-- Source: own (fault): the standard does not number or name the faults of a reader.
use Rattle.std.specs.Prelude.{ℕ, Bool, true, false, List, codes, Option, Some, None}
use Rattle.kmip_ttlv.specs.declared.ttlv_fault.TtlvFault.{TtlvFault}
use Rattle.kmip_ttlv.specs.declared.ttlv_fault.TtlvFault.TheVariants as ttlv
use Rattle.kmip_batch_items.specs.declared.message_fault.MessageFault.{MessageFault}
use Rattle.kmip_batch_items.specs.declared.message_fault.MessageFault.TheVariants.{
  Ttlv,
  NotMessage,
  Version,
  BatchCount,
  Missing,
  Twice,
  WrongType,
  OutOfRange,
  UnknownOperation,
  NoMemory,
  Undo,
}

-- The fault of a message whose bytes are no item, for this fault of the item. Want of memory stays that.
abbrev pub message_fault_of : TtlvFault → MessageFault
message_fault_of ttlv.NoMemory = NoMemory
message_fault_of fault = Ttlv fault

-- whether a fault is want of memory, which says nothing of the bytes
abbrev pub is_no_memory : MessageFault → Bool
is_no_memory NoMemory = true
is_no_memory fault = false

-- the number of a fault, 1 to 11 in the order of their declaration
abbrev pub message_fault_number : MessageFault → ℕ
message_fault_number (Ttlv fault) = 1
message_fault_number NotMessage = 2
message_fault_number Version = 3
message_fault_number BatchCount = 4
message_fault_number (Missing tag) = 5
message_fault_number (Twice tag) = 6
message_fault_number (WrongType tag) = 7
message_fault_number (OutOfRange tag) = 8
message_fault_number UnknownOperation = 9
message_fault_number NoMemory = 10
message_fault_number Undo = 11

-- the name of a fault, as it is declared and as it is printed
abbrev pub message_fault_name : MessageFault → List ℕ
message_fault_name (Ttlv fault) = codes "Ttlv"
message_fault_name NotMessage = codes "NotMessage"
message_fault_name Version = codes "Version"
message_fault_name BatchCount = codes "BatchCount"
message_fault_name (Missing tag) = codes "Missing"
message_fault_name (Twice tag) = codes "Twice"
message_fault_name (WrongType tag) = codes "WrongType"
message_fault_name (OutOfRange tag) = codes "OutOfRange"
message_fault_name UnknownOperation = codes "UnknownOperation"
message_fault_name NoMemory = codes "NoMemory"
message_fault_name Undo = codes "Undo"

-- the tag of the item that a fault is about, where it is about one
abbrev pub message_fault_tag : MessageFault → Option ℕ
message_fault_tag (Missing tag) = Some tag
message_fault_tag (Twice tag) = Some tag
message_fault_tag (WrongType tag) = Some tag
message_fault_tag (OutOfRange tag) = Some tag
message_fault_tag fault = None

-- what is wrong with the encoding of the items, where the fault is that
abbrev pub message_fault_items : MessageFault → Option TtlvFault
message_fault_items (Ttlv fault) = Some fault
message_fault_items fault = None

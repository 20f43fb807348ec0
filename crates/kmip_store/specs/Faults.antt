-- The number and the name of each fault of a store.
-- Source: own (fault).
use Rattle.std.specs.Prelude.{ℕ, List, codes}
use Rattle.kmip_store.specs.declared.store_fault.StoreFault.{StoreFault}
use Rattle.kmip_store.specs.declared.store_fault.StoreFault.TheVariants.{NotFound, SameName, WrongState, Full, NoMemory}

-- The number of a fault.
abbrev pub store_fault_number : StoreFault → ℕ
store_fault_number NotFound = 1
store_fault_number SameName = 2
store_fault_number WrongState = 3
store_fault_number Full = 4
store_fault_number NoMemory = 5

-- The name of a fault, as it is printed.
abbrev pub store_fault_name : StoreFault → List ℕ
store_fault_name NotFound = codes "NotFound"
store_fault_name SameName = codes "SameName"
store_fault_name WrongState = codes "WrongState"
store_fault_name Full = codes "Full"
store_fault_name NoMemory = codes "NoMemory"

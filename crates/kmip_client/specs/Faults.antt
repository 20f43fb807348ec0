-- The number and the name of each fault of hearing, and of each clash.
-- Source: own (fault, text).
use Rattle.std.specs.Prelude.{ℕ, List, codes}
use Rattle.kmip_client.specs.declared.clash.Clash.{Clash}
use Rattle.kmip_client.specs.declared.clash.Clash.TheVariants as clashes
use Rattle.kmip_client.specs.declared.hear_fault.HearFault.{HearFault}
use Rattle.kmip_client.specs.declared.hear_fault.HearFault.TheVariants.{
  Unreadable,
  StrangerId,
  WrongOperation,
  OtherIdentifier,
  OtherName,
  NoMemory,
}

-- The number of a fault.
abbrev pub hear_fault_number : HearFault → ℕ
hear_fault_number (Unreadable fault) = 1
hear_fault_number StrangerId = 2
hear_fault_number WrongOperation = 3
hear_fault_number OtherIdentifier = 4
hear_fault_number OtherName = 5
hear_fault_number NoMemory = 6

-- The name of a fault, as it is printed.
abbrev pub hear_fault_name : HearFault → List ℕ
hear_fault_name (Unreadable fault) = codes "Unreadable"
hear_fault_name StrangerId = codes "StrangerId"
hear_fault_name WrongOperation = codes "WrongOperation"
hear_fault_name OtherIdentifier = codes "OtherIdentifier"
hear_fault_name OtherName = codes "OtherName"
hear_fault_name NoMemory = codes "NoMemory"

-- The number of a clash.
abbrev pub clash_number : Clash → ℕ
clash_number clashes.Attributes = 1
clash_number clashes.State = 2
clash_number clashes.TwoObjects = 3

-- The name of a clash, as it is printed.
abbrev pub clash_name : Clash → List ℕ
clash_name clashes.Attributes = codes "Attributes"
clash_name clashes.State = codes "State"
clash_name clashes.TwoObjects = codes "TwoObjects"

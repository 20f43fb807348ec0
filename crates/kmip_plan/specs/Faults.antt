-- The number, the name, the field and the place of each fault of a plan.
-- Source: own (fault, text): the names of the fields are what a person writes.
use Rattle.std.specs.Prelude.{ℕ, List, codes, Option, Some, None}
use Rattle.kmip_plan.specs.declared.field.Field.{Field}
use Rattle.kmip_plan.specs.declared.field.Field.TheVariants as field
use Rattle.kmip_plan.specs.declared.plan_fault.PlanFault.{PlanFault}
use Rattle.kmip_plan.specs.declared.plan_fault.PlanFault.TheVariants.{Toml, NoKeys, TooMany, Missing, Unknown, BadName, BadLength, BadUsage, BadTarget, BadReason, SameName, NoMemory}

-- The name of a field in a plan.
abbrev pub field_word : Field → List ℕ
field_word field.Name = codes "name"
field_word field.Algorithm = codes "algorithm"
field_word field.Length = codes "length"
field_word field.Usage = codes "usage"
field_word field.Target = codes "target"

-- The number of a fault.
abbrev pub plan_fault_number : PlanFault → ℕ
plan_fault_number Toml = 1
plan_fault_number NoKeys = 2
plan_fault_number TooMany = 3
plan_fault_number (Missing f place) = 4
plan_fault_number (Unknown word place) = 5
plan_fault_number (BadName place) = 6
plan_fault_number (BadLength place) = 7
plan_fault_number (BadUsage place) = 8
plan_fault_number (BadTarget place) = 9
plan_fault_number (BadReason place) = 10
plan_fault_number (SameName place) = 11
plan_fault_number NoMemory = 12

-- The name of a fault, as it is printed.
abbrev pub plan_fault_name : PlanFault → List ℕ
plan_fault_name Toml = codes "Toml"
plan_fault_name NoKeys = codes "NoKeys"
plan_fault_name TooMany = codes "TooMany"
plan_fault_name (Missing f place) = codes "Missing"
plan_fault_name (Unknown word place) = codes "Unknown"
plan_fault_name (BadName place) = codes "BadName"
plan_fault_name (BadLength place) = codes "BadLength"
plan_fault_name (BadUsage place) = codes "BadUsage"
plan_fault_name (BadTarget place) = codes "BadTarget"
plan_fault_name (BadReason place) = codes "BadReason"
plan_fault_name (SameName place) = codes "SameName"
plan_fault_name NoMemory = codes "NoMemory"

-- The place of the key that is at fault; none for a fault of the whole text and for want of memory.
abbrev pub plan_fault_place : PlanFault → Option ℕ
plan_fault_place Toml = None
plan_fault_place NoKeys = None
plan_fault_place TooMany = None
plan_fault_place (Missing f place) = Some place
plan_fault_place (Unknown word place) = Some place
plan_fault_place (BadName place) = Some place
plan_fault_place (BadLength place) = Some place
plan_fault_place (BadUsage place) = Some place
plan_fault_place (BadTarget place) = Some place
plan_fault_place (BadReason place) = Some place
plan_fault_place (SameName place) = Some place
plan_fault_place NoMemory = None

-- The name of the field that is missing or unknown; none for any other fault.
abbrev pub plan_fault_field : PlanFault → Option (List ℕ)
plan_fault_field (Missing f place) = Some (field_word f)
plan_fault_field (Unknown word place) = Some word
plan_fault_field fault = None

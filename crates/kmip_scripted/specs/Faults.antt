-- The number and the name of each fault of a script.
-- Source: own (fault): the standard knows no scripts.
use Rattle.std.specs.Prelude.{ℕ, List, codes}
use Rattle.kmip_scripted.specs.declared.script_fault.ScriptFault.{ScriptFault}
use Rattle.kmip_scripted.specs.declared.script_fault.ScriptFault.TheVariants.{Line, NoMemory}

-- The number of a fault.
abbrev pub script_fault_number : ScriptFault → ℕ
script_fault_number (Line line) = 1
script_fault_number NoMemory = 2

-- The name of a fault.
abbrev pub script_fault_name : ScriptFault → List ℕ
script_fault_name (Line line) = codes "Line"
script_fault_name NoMemory = codes "NoMemory"

-- The number and the name of each reason to stop, and whether nothing is left to do.
-- Source: own (text).
use Rattle.std.specs.Prelude.{ℕ, Bool, true, false, List, codes}
use Rattle.kmip_runs.specs.declared.stop.Stop.{Stop}
use Rattle.kmip_runs.specs.declared.stop.Stop.TheVariants.{AllFinished, Limit, Conflict, NoMemory}

-- the number of each reason, 1 to 4
abbrev pub stop_number : Stop → ℕ
stop_number AllFinished = 1
stop_number Limit = 2
stop_number Conflict = 3
stop_number NoMemory = 4

-- the name of each reason, as it is printed
abbrev pub stop_name : Stop → List ℕ
stop_name AllFinished = codes "AllFinished"
stop_name Limit = codes "Limit"
stop_name Conflict = codes "Conflict"
stop_name NoMemory = codes "NoMemory"

-- each key of the plan is finished
abbrev pub is_all_finished : Stop → Bool
is_all_finished AllFinished = true
is_all_finished stop = false

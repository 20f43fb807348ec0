-- How many keys of a plan are finished, worked on, and in conflict.
-- Source: own (view).
use Rattle.std.specs.Prelude.{List, Bool, true, false, count_by}
use Rattle.kmip_client.specs.declared.verdict.Verdict.{Verdict}
use Rattle.kmip_client.specs.declared.verdict.Verdict.TheVariants.{Working, Finished, Conflict}
use Rattle.kmip_tally.specs.declared.standing.Standing.{Standing}

-- The key is finished.
abbrev pub is_finished : Verdict → Bool
is_finished Finished = true
is_finished verdict = false

-- The key is worked on.
abbrev pub is_working : Verdict → Bool
is_working Working = true
is_working verdict = false

-- The key is in conflict.
abbrev pub is_conflict : Verdict → Bool
is_conflict (Conflict clash) = true
is_conflict verdict = false

-- How many of the verdicts are each.
abbrev pub standing_by : List Verdict → Standing
standing_by verdicts = record { finished = count_by is_finished verdicts; working = count_by is_working verdicts; conflict = count_by is_conflict verdicts }

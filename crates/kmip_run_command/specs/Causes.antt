-- What stands in the way of a run.
-- Source: own (text): what the program prints.
use Rattle.std.specs.Prelude.{nat_lt, Bool, true, false, List, Option, Some, None, if◌then◌else◌}
use Rattle.std.specs.List.{list_any}
use Rattle.kmip_client.specs.declared.verdict.Verdict.{Verdict}
use Rattle.kmip_client.specs.declared.verdict.Verdict.TheVariants as verdicts
use Rattle.kmip_runs.specs.Stops.{is_all_finished}
use Rattle.kmip_runs.specs.declared.stop.Stop.{Stop}
use Rattle.kmip_report.specs.declared.cause.Cause.{Cause}
use Rattle.kmip_report.specs.declared.cause.Cause.TheVariants.{Unreachable, Unanswered, Refused, Conflict}
use Rattle.kmip_tally.specs.declared.run_tally.RunTally.{RunTally}
use Rattle.kmip_tally.specs.declared.unanswered.Unanswered.{Unanswered as LookUnanswered}
use Rattle.kmip_tally.specs.declared.unanswered.Unanswered.TheVariants as unanswered

-- The verdict is that a key is in conflict.
abbrev pub is_conflict : Verdict → Bool
is_conflict (verdicts.Conflict clash) = true
is_conflict verdict = false

-- What stands in the way if exchanges brought no reply: the server is not reached if none brought one.
abbrev pub silence_cause : RunTally → Cause
silence_cause tally = if nat_lt tally.lost tally.exchanges then Unanswered else Unreachable

-- What stands in the way of a look before a run.
abbrev pub look_cause : Option LookUnanswered → Option Cause
look_cause None = None
look_cause (Some unanswered.NoReply) = Some Unreachable
look_cause (Some unanswered.Refused) = Some Refused

-- What stands in the way of a run that ended so: nothing if each key is finished. Else it is the first of
-- these: a key in conflict, a question that was refused, an exchange that brought no reply, a look before the
-- run that got no answer.
abbrev pub cause_of : Stop → List Verdict → RunTally → Option Cause
cause_of stop verdicts tally =
    if is_all_finished stop then None
    else if list_any is_conflict verdicts then Some Conflict
    else if nat_lt 0 tally.refused then Some Refused
    else if nat_lt 0 tally.lost then Some (silence_cause tally)
    else look_cause tally.unanswered

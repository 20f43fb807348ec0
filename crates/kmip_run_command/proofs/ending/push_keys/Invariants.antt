-- The lines so far, and then those of the keys that are left, are all of them.
use Rattle.std.proofs.Common.{◌≡◌, ◌++◌, drop, map}
use Rattle.kmip_report.specs.Pieces.{report_in}
use Rattle.kmip_plan_report.specs.Standings.{standing_of}
use Rattle.kmip_run_command.specs.RunReport.{run_key_lines}
use Rattle.kmip_run_command.proofs.ending.push_keys.Given as goal

abbrev pub invariant-loop-standing : goal.invariant-loop-standing
invariant-loop-standing l =
    l.text.items ++ report_in l.input.form (run_key_lines l.input.report (map standing_of (drop l.standing-index l.standings)) l.steps_left)
    ≡ l.initial.text.items ++ report_in l.input.form (run_key_lines l.input.report (map standing_of l.standings) l.steps)

-- The lines so far, and then those of the keys that are left, are all of them.
use Rattle.std.proofs.Common.{◌≡◌, ◌++◌, drop}
use Rattle.kmip_report.specs.Pieces.{report_in}
use Rattle.kmip_plan_report.specs.Checking.{check_lines}
use Rattle.kmip_plan_report.proofs.checking.push_check_lines.Given as goal

abbrev pub invariant-loop-key : goal.invariant-loop-key
invariant-loop-key l =
    l.text.items ++ report_in l.form (check_lines (drop l.key-index l.keys)) ≡ l.initial.text.items ++ report_in l.form (check_lines l.keys)

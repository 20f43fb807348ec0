-- What was appended, and then that of the keys that are left, is all of it.
use Rattle.std.proofs.Common.{◌≡◌, ◌++◌, drop}
use Rattle.kmip_report.specs.Pieces.{report_in}
use Rattle.kmip_look_command.specs.LookReport.{look_lines}
use Rattle.kmip_look_command.proofs.report.push_keys.Given as goal

abbrev pub invariant-loop-key : goal.invariant-loop-key
invariant-loop-key l =
    l.text.items ++ report_in l.form (look_lines (drop l.key-index l.keys) l.left)
    ≡ l.fn.text.items ++ report_in l.form (look_lines l.keys l.lookeds)

-- The lines so far, and then those of the keys that are left, are all of them.
use Rattle.std.proofs.Common.{◌≡◌, ◌++◌, drop, string_bytes}
use Rattle.kmip_runs.specs.Reporting.{report_lines}
use Rattle.kmip_runs.proofs.reporting.push_lines.Given as goal

abbrev pub invariant-loop-key : goal.invariant-loop-key
invariant-loop-key l =
    string_bytes l.text ++ report_lines (drop l.key-index l.keys) l.counts_left l.verdicts_left
    ≡ string_bytes l.initial.text ++ report_lines l.keys l.counts l.verdicts

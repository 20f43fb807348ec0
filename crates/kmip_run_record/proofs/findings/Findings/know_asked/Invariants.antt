-- What is taken in, and then what is left, is all.
use Rattle.std.proofs.Common.{◌≡◌, drop}
use Rattle.kmip_run_record.specs.RunFindings.{asked_known}
use Rattle.kmip_run_record.proofs.findings.Findings.know_asked.Given as goal

abbrev pub invariant-loop-part : goal.invariant-loop-part
invariant-loop-part l = asked_known l.client l.self (drop l.part-index l.asked) ≡ asked_known l.client l.fn.self l.asked

-- What is taken in, and then what is left, is all.
use Rattle.std.proofs.Common.{◌≡◌, drop}
use Rattle.kmip_run_record.specs.RunFindings.{known_from}
use Rattle.kmip_run_record.proofs.findings.Findings.know_all.Given as goal

abbrev pub invariant-loop-place : goal.invariant-loop-place
invariant-loop-place l =
    known_from l.client l.place (drop l.place l.client.keys) l.self ≡ known_from l.client 0 l.client.keys l.fn.self

-- What is pushed, and then what is left, are the stories of all.
use Rattle.std.proofs.Common.{◌≡◌, ◌++◌, drop}
use Rattle.kmip_run_record.specs.RunFindings.{begun_from}
use Rattle.kmip_run_record.proofs.findings.begun_stories.Given as goal

abbrev pub invariant-loop-place : goal.invariant-loop-place
invariant-loop-place l =
    l.stories.items ++ begun_from l.client l.place (drop l.place l.client.keys) ≡ begun_from l.client 0 l.client.keys

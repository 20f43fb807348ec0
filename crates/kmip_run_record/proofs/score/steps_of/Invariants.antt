-- What is pushed, and then what is left, are the steps of all.
use Rattle.std.proofs.Common.{◌≡◌, ◌++◌, drop}
use Rattle.kmip_run_record.specs.Scores.{steps_from}
use Rattle.kmip_run_record.proofs.score.steps_of.Given as goal

abbrev pub invariant-loop-place : goal.invariant-loop-place
invariant-loop-place l = l.steps.items ++ steps_from l.place (drop l.place l.keys) l.courses ≡ steps_from 0 l.keys l.courses

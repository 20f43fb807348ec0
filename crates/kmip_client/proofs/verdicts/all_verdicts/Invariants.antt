-- What is pushed, and then what is left, are the verdicts on all.
use Rattle.std.proofs.Common.{◌≡◌, ◌++◌, drop}
use Rattle.kmip_client.specs.Verdicts.{verdicts_of}
use Rattle.kmip_client.proofs.verdicts.all_verdicts.Given as goal

abbrev pub invariant-loop-place : goal.invariant-loop-place
invariant-loop-place l = l.verdicts.items ++ verdicts_of (drop l.place l.keys) (drop l.place l.knowns) ≡ verdicts_of l.keys l.knowns

-- The keys that are left decide.
use Rattle.std.proofs.Common.{◌↔◌, drop}
use Rattle.kmip_plan.specs.Prolonging.{Prolongs}
use Rattle.kmip_plan.proofs.prolonging.keys_go_on.Given as goal

abbrev pub invariant-loop-place : goal.invariant-loop-place
invariant-loop-place l = Prolongs (drop l.place l.new) (drop l.place l.old) ↔ Prolongs l.new l.old

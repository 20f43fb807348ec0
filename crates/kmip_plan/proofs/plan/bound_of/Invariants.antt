-- The sum so far, and that over the keys that are left, is the whole sum.
use Rattle.std.proofs.Common.{◌≡◌, ◌+◌, ◌*◌, ◌≤◌, drop}
use Rattle.kmip_plan.specs.Chains.{bound}
use Rattle.kmip_plan.proofs.plan.bound_of.Given as goal

abbrev pub invariant-loop-key : goal.invariant-loop-key
invariant-loop-key l = record {
  summed : l.total + bound (drop l.key-index l.keys) ≡ bound l.keys;
  small : l.total ≤ 6 * l.key-index;
}

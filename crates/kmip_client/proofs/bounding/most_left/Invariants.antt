-- The sum so far, and that over the keys that are left, is the whole sum.
use Rattle.std.proofs.Common.{◌≡◌, ◌+◌, ◌*◌, ◌≤◌, drop}
use Rattle.kmip_client.specs.Bounding.{most_left}
use Rattle.kmip_client.proofs.bounding.most_left.Given as goal

abbrev pub invariant-loop-place : goal.invariant-loop-place
invariant-loop-place l = record {
  summed : l.total + most_left (drop l.place l.keys) (drop l.place l.knowns) ≡ most_left l.keys l.knowns;
  small : l.total ≤ 7 * l.place;
}

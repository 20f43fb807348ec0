-- As many as places were passed.
use Rattle.std.proofs.Common.{◌≡◌, ◌≤◌, length}
use Rattle.kmip_runs.specs.PrivateSights.{told_before}
use Rattle.kmip_runs.proofs.sights.Sights.of.Given as goal

abbrev pub invariant-loop-place : goal.invariant-loop-place
invariant-loop-place l = record {
  as_many : length l.items.items ≡ l.place;
  counted : l.told ≡ told_before l.place l.client.knowns;
  within : l.told ≤ l.place;
}

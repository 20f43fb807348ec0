-- What stands behind the place is as before, and it is known whether the run got on by a key before it.
use Rattle.std.proofs.Common.{◌≡◌, ◌<◌, ◌≤◌, ℕ, length, false, IsTrue, Some, slice_get}
use Rattle.kmip_runs.specs.PrivateSights.{GetsOn, gets_on, sight_at, told_before}
use Rattle.kmip_runs.specs.declared.sight.Sight.{Sight}
use Rattle.kmip_runs.proofs.sights.Sights.see.Given as goal

abbrev pub invariant-loop-place : goal.invariant-loop-place
invariant-loop-place l = record {
  as_many : length l.self.items.items ≡ length l.fn.self.items.items;
  rest : (place : ℕ) → l.place ≤ place → slice_get l.self.items.items place ≡ slice_get l.fn.self.items.items place;
  on : IsTrue l.got_on → GetsOn l.client.keys l.client.knowns l.fn.self.items.items;
  nowhere : l.got_on ≡ false
      → (place : ℕ) (sight : Sight) → place < l.place → slice_get l.fn.self.items.items place ≡ Some sight
      → gets_on sight (sight_at l.client.keys l.client.knowns place) ≡ false;
  counted : l.told ≡ told_before l.place l.client.knowns;
  within : l.told ≤ l.place;
}

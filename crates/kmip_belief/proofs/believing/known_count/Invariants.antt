-- If none is counted, no object is known of the keys that were looked at.
use Rattle.std.proofs.Common.{◌≡◌, ◌<◌, ℕ, None}
use Rattle.kmip_client.specs.Clients.{identifier_at}
use Rattle.kmip_belief.specs.Belief.{KnowsNoneFrom}
use Rattle.kmip_belief.proofs.believing.known_count.Given as goal

abbrev pub invariant-loop-place : goal.invariant-loop-place
invariant-loop-place l =
    (l.known ≡ 0 → (place : ℕ) → place < l.place → identifier_at l.client.knowns place ≡ None)
    × (KnowsNoneFrom 0 l.client → l.known ≡ 0)

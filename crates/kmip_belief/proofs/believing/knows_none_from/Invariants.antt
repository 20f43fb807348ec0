-- No object is known of the keys that were looked at.
use Rattle.std.proofs.Common.{◌≡◌, ◌≤◌, ◌<◌, ℕ, None}
use Rattle.kmip_client.specs.Clients.{identifier_at}
use Rattle.kmip_belief.proofs.believing.knows_none_from.Given as goal

abbrev pub invariant-loop-place : goal.invariant-loop-place
invariant-loop-place l = (place : ℕ) → l.first ≤ place → place < l.place → identifier_at l.client.knowns place ≡ None

-- What stands in the message, and then what is left, is all of it.
use Rattle.std.proofs.Common.{◌≡◌, ◌++◌, drop}
use Rattle.kmip_client.specs.Asking.{at_places, part_about, requests_at}
use Rattle.kmip_client.proofs.batching.question_at.Given as goal

abbrev pub invariant-loop-place : goal.invariant-loop-place
invariant-loop-place l =
    (l.parts.items ++ at_places part_about l.keys l.knowns (drop l.place-index l.places) ≡ at_places part_about l.keys l.knowns l.places)
    × (l.requests.items ++ requests_at l.keys l.knowns (drop l.place-index l.places) ≡ requests_at l.keys l.knowns l.places)

-- What is counted, and then what is left, are all that are worked on.
use Rattle.std.proofs.Common.{◌≡◌, ◌≤◌, ◌+◌, drop}
use Rattle.kmip_client.specs.Clients.{working_count}
use Rattle.kmip_client.proofs.saving.count_working.Given as goal

abbrev pub invariant-loop-place : goal.invariant-loop-place
invariant-loop-place l =
    (l.count + working_count (drop l.place l.keys) (drop l.place l.knowns) ≡ working_count l.keys l.knowns) × (l.count ≤ l.place)

-- No key before this place is in conflict.
use Rattle.std.proofs.Common.{◌≢◌, ◌<◌, ℕ}
use Rattle.kmip_client.specs.Clients.{verdict_at}
use Rattle.kmip_client.specs.declared.clash.Clash.{Clash}
use Rattle.kmip_client.specs.declared.verdict.Verdict.TheVariants.{Conflict}
use Rattle.kmip_runs.proofs.driving.stop_of.Given as goal

abbrev pub invariant-loop-place : goal.invariant-loop-place
invariant-loop-place l =
    (place : ℕ) → place < l.place → (clash : Clash) → verdict_at l.client.keys l.client.knowns place ≢ Conflict clash

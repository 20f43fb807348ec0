-- The runs so far, and then those that are left, are all; and each so far asks about so many keys at once.
use Rattle.std.proofs.Common.{◌≡◌, ◌++◌, drop}
use Rattle.kmip_runs.specs.Campaign.{MayBatch}
use Rattle.kmip_simulation.specs.Simulating.{in_batches}
use Rattle.kmip_simulation.proofs.simulation.in_batches.Given as goal

abbrev pub invariant-loop-run : goal.invariant-loop-run
invariant-loop-run l =
    (l.batched.items ++ in_batches l.batch (drop l.run-index l.runs) ≡ in_batches l.batch l.runs) × MayBatch l.batched.items

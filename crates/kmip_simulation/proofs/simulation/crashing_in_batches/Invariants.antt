-- The runs so far, and then those that are left, are all; and each so far asks about so many keys at once.
use Rattle.std.proofs.Common.{◌≡◌, ◌++◌, drop}
use Rattle.kmip_runs.specs.Crashes.{MayCrash}
use Rattle.kmip_simulation.specs.Simulating.{crashing_in_batches}
use Rattle.kmip_simulation.proofs.simulation.crashing_in_batches.Given as goal

abbrev pub invariant-loop-crashing : goal.invariant-loop-crashing
invariant-loop-crashing l =
    (l.batched.items ++ crashing_in_batches l.batch (drop l.crashing-index l.runs) ≡ crashing_in_batches l.batch l.runs) × MayCrash l.batched.items

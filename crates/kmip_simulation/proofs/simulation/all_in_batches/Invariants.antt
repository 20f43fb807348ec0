-- The lists so far, and then those that are left, are all; and each run so far asks about so many keys at once.
use Rattle.std.proofs.Common.{◌≡◌, ◌++◌, drop, length, map}
use Rattle.std.specs.List.{All}
use Rattle.kmip_runs.specs.Campaign.{MayBatch}
use Rattle.kmip_simulation.specs.Simulating.{in_batches}
use Rattle.kmip_simulation.proofs.simulation.all_in_batches.Given as goal

abbrev pub invariant-loop-runs : goal.invariant-loop-runs
invariant-loop-runs l =
    (map (λ list. list.items) l.batched.items ++ map (in_batches l.batch) (map (λ list. list.items) (drop l.runs-index l.lists))
    ≡ map (in_batches l.batch) (map (λ list. list.items) l.lists))
    × All (λ list. MayBatch list.items) l.batched.items × (length l.batched.items ≡ l.runs-index)

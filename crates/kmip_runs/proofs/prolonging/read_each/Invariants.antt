-- What is pushed, and then what is left to read, is what is read of each; and it suits the plan.
use Rattle.std.proofs.Common.{◌≡◌, ◌++◌, map, drop}
use Rattle.std.specs.List.{All}
use Rattle.kmip_progress.specs.Suiting.{Suits}
use Rattle.kmip_runs.specs.Campaigns.{carried_over}
use Rattle.kmip_runs.proofs.prolonging.read_each.Given as goal

abbrev pub invariant-loop-progress : goal.invariant-loop-progress
invariant-loop-progress l =
    (l.read.items ++ map (carried_over l.next) (drop l.progress-index l.saved) ≡ map (carried_over l.next) l.saved) × All (Suits l.next) l.read.items

-- The exchanges so far, and then those that are left, are all.
use Rattle.std.proofs.Common.{◌≡◌, ◌++◌, ◌-◌}
use Rattle.kmip_simulation.specs.Moments.{exchanges_from}
use Rattle.kmip_simulation.proofs.moments.push_exchanges.Given as goal

abbrev pub invariant-loop-place : goal.invariant-loop-place
invariant-loop-place l =
    l.moments.items ++ exchanges_from (l.end - l.place) l.place l.left ≡ l.fn.moments.items ++ exchanges_from (l.end - l.made) l.made l.words

-- The moments so far are told.
use Rattle.std.proofs.Common.{◌≡◌, ◌++◌, take}
use Rattle.std.specs.List.{flat_map}
use Rattle.kmip_simulation.specs.Tracing.{told_moment}
use Rattle.kmip_simulation.proofs.tracing.push_moments.Given as goal

abbrev pub invariant-loop-moment : goal.invariant-loop-moment
invariant-loop-moment g l = l.text.items ≡ l.fn.text.items ++ flat_map (told_moment g.T.Tell.telling l.link) (take l.moment-index l.moments)

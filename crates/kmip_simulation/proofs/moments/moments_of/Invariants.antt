-- The runs so far, and then those that are left, are all.
use Rattle.std.proofs.Common.{◌≡◌, ◌++◌, ◌+◌, drop}
use Rattle.kmip_scripted.specs.Words.{next_words}
use Rattle.kmip_simulation.specs.Moments.{moments_from}
use Rattle.kmip_simulation.proofs.moments.moments_of.Given as goal

abbrev pub invariant-loop-place : goal.invariant-loop-place
invariant-loop-place l =
    l.moments.items ++ moments_from (l.place + 1) l.made l.left (drop l.place l.ended) ≡ moments_from 1 0 (next_words l.words) l.ended

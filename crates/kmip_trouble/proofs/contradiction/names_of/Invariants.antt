-- The names so far, and then those of the keys that are left, are all of them.
use Rattle.std.proofs.Common.{◌≡◌, ◌++◌, drop, map}
use Rattle.kmip_trouble.specs.ObstacleLines.{names_of}
use Rattle.kmip_trouble.proofs.contradiction.names_of.Given as goal

abbrev pub invariant-loop-key : goal.invariant-loop-key
invariant-loop-key l =
    map (λ name. name.now) l.names.items ++ names_of (drop l.key-index l.keys) ≡ names_of l.keys

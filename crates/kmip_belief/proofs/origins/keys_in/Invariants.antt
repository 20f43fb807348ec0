-- The lines are those of the keys so far, and then the rest.
use Rattle.std.proofs.Common.{◌≡◌, ◌++◌, drop, take}
use Rattle.kmip_belief.specs.Origins.{key_lines}
use Rattle.kmip_belief.proofs.origins.keys_in.Given as goal

abbrev pub invariant-loop-place : goal.invariant-loop-place
invariant-loop-place l =
    (l.lines ≡ key_lines (take l.place l.keys) ++ l.rest) × (l.lines ≡ key_lines l.keys → l.rest ≡ key_lines (drop l.place l.keys))

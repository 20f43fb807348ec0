-- What was copied, and then what is left, are all known keys.
use Rattle.std.proofs.Common.{◌≡◌, ◌++◌, drop}
use Rattle.kmip_refresh.specs.KnownKeys.{keys_of, known_from, known_keys}
use Rattle.kmip_refresh.proofs.known_keys.known_keys.Given as goal

abbrev pub invariant-loop-place : goal.invariant-loop-place
invariant-loop-place l =
    l.copies.items ++ keys_of (known_from l.place (drop l.place l.keys) (drop l.place l.known)) ≡ keys_of (known_keys l.keys l.known)

-- What is known so far, and nothing of the keys that are left, is all of it.
use Rattle.std.proofs.Common.{◌≡◌, ◌++◌, drop, map}
use Rattle.kmip_progress.specs.Suiting.{nothing_known}
use Rattle.kmip_progress.proofs.reading.push_nothing.Given as goal

abbrev pub invariant-loop-key : goal.invariant-loop-key
invariant-loop-key l =
    l.known.items ++ map (λ key. nothing_known) (drop l._key-index l.keys) ≡ l.initial.known.items ++ map (λ key. nothing_known) l.keys

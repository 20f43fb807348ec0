-- What is taken, and then what is left to be taken, is all that is.
use Rattle.std.proofs.Common.{◌≡◌, ◌++◌, drop}
use Rattle.kmip_simulation.specs.Moments.{next_restarts}
use Rattle.kmip_simulation.proofs.words.push_restarts.Given as goal

abbrev pub invariant-loop-word : goal.invariant-loop-word
invariant-loop-word l = l.taken.items ++ next_restarts (drop l.word-index l.words) ≡ l.fn.taken.items ++ next_restarts l.words

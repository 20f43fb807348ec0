-- The words of the runs to come are the same, whether the first `restart` was passed or not.
use Rattle.std.proofs.Common.{◌≡◌, length}
use Rattle.kmip_scripted.specs.Words.{next_words}
use Rattle.kmip_simulation.proofs.words.next_words.Given as goal

abbrev pub invariant-loop-word : goal.invariant-loop-word
invariant-loop-word l = next_words l.left ≡ next_words l.words

abbrev pub decreases-loop-word : goal.decreases-loop-word
decreases-loop-word l = length l.left

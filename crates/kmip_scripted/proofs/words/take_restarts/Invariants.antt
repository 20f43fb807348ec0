-- What is left of the words is the same, whether the first of them was taken or not.
use Rattle.std.proofs.Common.{◌≡◌, length}
use Rattle.kmip_scripted.specs.Words.{next_words}
use Rattle.kmip_scripted.proofs.words.take_restarts.Given as goal

abbrev pub invariant-loop-word : goal.invariant-loop-word
invariant-loop-word l = next_words l.words.items ≡ next_words l.fn.words.items

abbrev pub decreases-loop-word : goal.decreases-loop-word
decreases-loop-word l = length l.words.items

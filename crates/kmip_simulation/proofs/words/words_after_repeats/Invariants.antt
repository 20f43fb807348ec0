-- The words after those that are done are the same, whether the first of them was passed or not.
use Rattle.std.proofs.Common.{◌≡◌, length}
use Rattle.kmip_simulation.specs.Moments.{words_after_repeats}
use Rattle.kmip_simulation.proofs.words.words_after_repeats.Given as goal

abbrev pub invariant-loop-word : goal.invariant-loop-word
invariant-loop-word l = words_after_repeats l.at_end l.left ≡ words_after_repeats l.at_end l.words

abbrev pub decreases-loop-word : goal.decreases-loop-word
decreases-loop-word l = length l.left

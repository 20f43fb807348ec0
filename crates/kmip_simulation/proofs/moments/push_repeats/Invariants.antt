-- What was done, and then what the words that are left do, is all that is done.
use Rattle.std.proofs.Common.{◌≡◌, ◌++◌, drop}
use Rattle.kmip_simulation.specs.Moments.{all_repeats}
use Rattle.kmip_simulation.proofs.moments.push_repeats.Given as goal

abbrev pub invariant-loop-word : goal.invariant-loop-word
invariant-loop-word l =
    l.moments.items ++ all_repeats l.at_end l.asked (drop l.word-index l.words) ≡ l.fn.moments.items ++ all_repeats l.at_end l.asked l.words

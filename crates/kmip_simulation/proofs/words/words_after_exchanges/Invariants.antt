-- The exchanges that are left lead to the words that all of them lead to.
use Rattle.std.proofs.Common.{◌≡◌, ◌-◌}
use Rattle.kmip_simulation.specs.Moments.{words_after_exchanges}
use Rattle.kmip_simulation.proofs.words.words_after_exchanges.Given as goal

abbrev pub invariant-loop-place : goal.invariant-loop-place
invariant-loop-place l = words_after_exchanges (l.count - l.place) l.left ≡ words_after_exchanges l.count l.words

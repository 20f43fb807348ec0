-- What is found among the words that are left is what is found among all.
use Rattle.std.proofs.Common.{◌≡◌, drop}
use Rattle.kmip_scripted.specs.Disturbing.{is_repeated}
use Rattle.kmip_scripted.proofs.disturbing.is_repeated.Given as goal

abbrev pub invariant-loop-place : goal.invariant-loop-place
invariant-loop-place l = is_repeated l.count l.words.items ≡ is_repeated l.count (drop l.place l.words.items)

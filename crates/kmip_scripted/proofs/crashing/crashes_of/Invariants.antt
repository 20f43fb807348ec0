-- What is noted so far, and then what the words that are left say, is what all words say.
use Rattle.std.proofs.Common.{◌≡◌, ◌++◌, drop}
use Rattle.kmip_scripted.specs.Runs.{crashes_from, crashes_of}
use Rattle.kmip_scripted.proofs.crashing.crashes_of.Given as goal

abbrev pub invariant-loop-word : goal.invariant-loop-word
invariant-loop-word l = l.crashes.items ++ crashes_from l.begun (drop l.word-index l.words) ≡ crashes_of l.words

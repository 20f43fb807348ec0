-- The runs so far, and then those of the words that are left, are those of all words.
use Rattle.kmip_scripted.proofs.RunsLemmas.{AreTaken}
use Rattle.kmip_scripted.proofs.runs.runs_from.Given as goal

abbrev pub invariant-loop-word : goal.invariant-loop-word
invariant-loop-word l = AreTaken l.fn.start l.words l.word-index l.part l.runs.items

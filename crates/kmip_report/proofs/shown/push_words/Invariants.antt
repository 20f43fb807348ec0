-- What is appended so far, and then the texts that are left, is the text of all of them.
use Rattle.std.proofs.Common.{◌≡◌, ◌++◌, drop, map}
use Rattle.kmip_report.specs.Pieces.{spaced}
use Rattle.kmip_report.proofs.shown.push_words.Given as goal

abbrev pub invariant-loop-word : goal.invariant-loop-word
invariant-loop-word l =
    l.text.items ++ spaced (map (λ word. word.now) (drop l.word-index l.words))
    ≡ l.initial.text.items ++ spaced (map (λ word. word.now) l.words)

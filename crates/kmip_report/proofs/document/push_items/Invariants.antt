-- What is appended so far, and then the texts that are left, is the text of all of them.
use Rattle.std.proofs.Common.{◌≡◌, ◌++◌, drop, false, map}
use Rattle.serde_json.specs.Written.{items_text}
use Rattle.kmip_report.specs.Documents.{strings}
use Rattle.kmip_report.proofs.document.push_items.Given as goal

abbrev pub invariant-loop-word : goal.invariant-loop-word
invariant-loop-word l =
    l.text.items ++ items_text l.is_later (strings (map (λ word. word.now) (drop l.word-index l.words)))
    ≡ l.initial.text.items ++ items_text false (strings (map (λ word. word.now) l.words))

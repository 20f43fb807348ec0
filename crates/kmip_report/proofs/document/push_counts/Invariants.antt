-- What is appended so far, and then the numbers that are left, is the text of all of them.
use Rattle.std.proofs.Common.{◌≡◌, ◌++◌, drop, false}
use Rattle.serde_json.specs.Written.{items_text}
use Rattle.kmip_report.specs.Documents.{counts}
use Rattle.kmip_report.proofs.document.push_counts.Given as goal

abbrev pub invariant-loop-number : goal.invariant-loop-number
invariant-loop-number l =
    l.text.items ++ items_text l.is_later (counts (drop l.number-index l.numbers))
    ≡ l.initial.text.items ++ items_text false (counts l.numbers)

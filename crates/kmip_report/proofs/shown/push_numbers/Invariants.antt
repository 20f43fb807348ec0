-- What is appended so far, and then the numbers that are left, is the text of all of them.
use Rattle.std.proofs.Common.{◌≡◌, ◌++◌, drop}
use Rattle.kmip_report.specs.Pieces.{spaced_numbers}
use Rattle.kmip_report.proofs.shown.push_numbers.Given as goal

abbrev pub invariant-loop-number : goal.invariant-loop-number
invariant-loop-number l =
    l.text.items ++ spaced_numbers (drop l.number-index l.numbers)
    ≡ l.initial.text.items ++ spaced_numbers l.numbers

-- What is appended so far, and then the lines that are left, is the text of all of them.
use Rattle.std.proofs.Common.{◌≡◌, ◌++◌, drop, map}
use Rattle.kmip_report.specs.Pieces.{fed_lines}
use Rattle.kmip_report.proofs.shown.push_lines.Given as goal

abbrev pub invariant-loop-line : goal.invariant-loop-line
invariant-loop-line l =
    l.text.items ++ fed_lines (map (λ text. text.now) (drop l.line-index l.lines))
    ≡ l.initial.text.items ++ fed_lines (map (λ text. text.now) l.lines)

-- The pieces are these.
use Rattle.std.proofs.Common.{ℕ, List, [], codes, ap, refl, ◌∙◌}
use Rattle.kmip_report.specs.Documents.{numbers_of}
use Rattle.kmip_report.specs.Pieces.{noted, word}
use Rattle.kmip_report.proofs.ForCallers.{last_piece, line_of, then_pieces}
use Rattle.kmip_probe_command.specs.Lines.{sum_line}
use Rattle.kmip_probe_command.proofs.PieceLemmas.{noted_as}
use Rattle.kmip_probe_command.proofs.lines.push_sum.Goals as goal

pub returns : goal.returns
unfolding sum_line
returns c =
    let said =
    then_pieces refl
    (then_pieces (noted_as c.numbers.result c.numbers.ensures ∙ ap (λ (reasons : List ℕ). noted (codes "reasons") (numbers_of reasons)) c.as_slice.ensures.value)
    (then_pieces refl
    (last_piece (c.word.ensures ∙ ap (word [] (codes "sum")) c.sum_text.ensures)))) in
    line_of c.push_line.result c.args.form c.args.text.now.items c.push_line.new.text.items said c.push_line.ensures

-- The pieces are those of the fault.
use Rattle.std.proofs.Common.{codes, ap, ◌∙◌}
use Rattle.kmip_report.specs.Pieces.{number, number_or, shown_or, word}
use Rattle.kmip_report.proofs.ForCallers.{last_piece, line_of, noted_piece, then_pieces}
use Rattle.kmip_plan_report.specs.Refusals.{plan_refusal}
use Rattle.kmip_plan_report.proofs.refusing.push_plan_refusal.Goals as goal

pub returns-clause-text : goal.returns-clause-text
unfolding plan_refusal
returns-clause-text c =
    let said =
    then_pieces c.word.ensures
    (then_pieces (c.number-2.ensures ∙ ap (number (codes ": ") (codes "number")) (c.from.ensures ∙ c.number.ensures))
    (then_pieces (c.word-2.ensures ∙ ap (word (codes " ") (codes "name")) c.name.ensures)
    (then_pieces (c.shown_or.ensures ∙ ap (shown_or (codes " ") (codes "field") (codes "")) c.field.ensures)
    (then_pieces (c.number_or.ensures ∙ ap (number_or (codes " at key ") (codes "key") (codes "")) c.place.ensures)
    (then_pieces (noted_piece c.count_or_null.ensures)
    (then_pieces (noted_piece c.text_or_null.ensures)
    (then_pieces (noted_piece c.text_or_null-2.ensures)
    (last_piece (noted_piece c.text_or_null-3.ensures))))))))) in
    line_of c.push_line.result c.args.form c.args.text.now.items c.push_line.new.text.items said c.push_line.ensures

-- The pieces are these.
use Rattle.std.proofs.Common.{codes, ap, ◌∙◌}
use Rattle.kmip_report.specs.Pieces.{Piece, number, shown_or, told_if, word}
use Rattle.kmip_report.proofs.ForCallers.{last_piece, then_pieces}
use Rattle.kmip_plan_report.specs.Listing.{key_line_with}
use Rattle.kmip_plan_report.proofs.listing.pieces_of_key.Goals as goal

pub returns : goal.returns
unfolding key_line_with
returns c =
    then_pieces (c.word.ensures ∙ ap (word (codes "") (codes "key")) c.as_str.ensures)
    (then_pieces (c.word-3.ensures ∙ ap (word (codes " ") (codes "target")) c.word-2.ensures)
    (then_pieces c.number.ensures
    (then_pieces (c.number-2.ensures ∙ ap (number (codes "/") (codes "of")) c.chain_length.ensures.steps)
    (then_pieces (c.word-5.ensures ∙ ap (word (codes " ") (codes "verdict")) c.word-4.ensures)
    (last_piece
    (c.told_if.ensures
    ∙ ap (λ (piece : Piece). told_if c.args.is_told piece) (c.shown_or.ensures ∙ ap (shown_or (codes " ") (codes "identifier") (codes " -")) c.text_of.ensures)))))))

-- The pieces are these.
use Rattle.std.proofs.Common.{◌≡◌, codes, rules, ap, ◌∙◌}
use Rattle.std.proofs.Math.Facts.{to_z-of_z}
use Rattle.std.specs.Int.{w32, cast_unsigned}
use Rattle.kmip_report.specs.Pieces.{mask, signed, word, word_or, words}
use Rattle.kmip_report.proofs.ForCallers.{last_piece, then_pieces}
use Rattle.kmip_plan_report.specs.Checking.{check_line}
use Rattle.kmip_plan_report.proofs.checking.pieces_of_key.Goals as goal

pub returns : goal.returns
unfolding check_line
returns c =
    let usage : c.cast_unsigned.result ≡ cast_unsigned w32 c.args.key.now.attrs.usage =
    c.cast_unsigned.ensures ∙ ap (cast_unsigned w32) (to_z-of_z {w = w32} {z = c.args.key.now.attrs.usage} (search rules)) in
    then_pieces (c.word.ensures ∙ ap (word (codes "") (codes "key")) c.as_str.ensures)
    (then_pieces (c.word_or.ensures ∙ ap (word_or (codes " ") (codes "algorithm") (codes " ")) c.algorithm_word.ensures)
    (then_pieces (c.signed.ensures ∙ ap (signed (codes " ") (codes "length")) (to_z-of_z {w = w32} {z = c.args.key.now.attrs.length} (search rules)))
    (then_pieces (c.mask.ensures ∙ ap (mask (codes " ") (codes "usage")) usage)
    (then_pieces (c.word-3.ensures ∙ ap (word (codes " ") (codes "target")) c.word-2.ensures)
    (last_piece (c.words.ensures ∙ ap (words (codes ":") (codes "steps")) c.requires))))))

-- The pieces are these.
use Rattle.kmip_report.proofs.ForCallers.{last_piece, line_of, noted_piece, then_pieces}
use Rattle.kmip_trouble.specs.ObstacleLines.{longer_than_line}
use Rattle.kmip_trouble.proofs.obstacle_line.push_longer_than.Goals as goal
use Rattle.std.proofs.Common.{refl}

pub returns : goal.returns
unfolding longer_than_line
returns c =
    let pieces =
    then_pieces (noted_piece c.text.ensures)
    (then_pieces refl
    (then_pieces refl
    (then_pieces refl
    (then_pieces c.word.ensures
    (then_pieces (noted_piece c.text-2.ensures)
    (last_piece (noted_piece c.text_or_null.ensures))))))) in
    line_of c.push_line.result c.args.form c.args.text.now.items c.push_line.new.text.items pieces c.push_line.ensures

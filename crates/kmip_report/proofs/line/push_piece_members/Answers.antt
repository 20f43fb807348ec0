-- One piece more.
use Rattle.std.proofs.Common.{◌∙◌}
use Rattle.kmip_report.proofs.LineLemmas.{piece_more}
use Rattle.kmip_report.proofs.line.push_piece_members.Goals as goal

pub loop-piece-preserved : goal.loop-piece-preserved
loop-piece-preserved c =
    piece_more c.loop-piece.text.items c.push_noted.new.text.items c.args.pieces.now c.loop-piece.piece-index _
    c.loop-piece-test.true c.in_ok-push_noted.ensures
    ∙ c.loop-piece.invariant

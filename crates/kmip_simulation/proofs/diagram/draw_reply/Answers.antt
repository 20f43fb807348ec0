-- Piece by piece.
use Rattle.std.proofs.Common.{codes}
use Rattle.kmip_simulation.proofs.MomentLemmas.{three_joined}
use Rattle.kmip_simulation.proofs.diagram.draw_reply.Goals as goal

pub returns : goal.returns
returns c =
    three_joined c.args.front.now _ (codes "\n") c.args.text.now.items _ _ _
    c.in_ok-extend_from_slice.ensures.items c.in_ok-draw_answer.ensures c.in_ok-push.ensures.items

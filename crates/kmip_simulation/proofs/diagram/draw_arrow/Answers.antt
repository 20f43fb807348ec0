-- Piece by piece.
use Rattle.kmip_simulation.specs.Diagram.{drawn_request}
use Rattle.kmip_simulation.proofs.MomentLemmas.{three_joined}
use Rattle.kmip_simulation.proofs.diagram.draw_arrow.Goals as goal

pub returns : goal.returns
returns c =
    three_joined c.args.front.now (drawn_request c.args.number c.args.request.now) c.args.behind.now c.args.text.now.items _ _ _
    c.in_ok-extend_from_slice.ensures.items c.in_ok-draw_request.ensures c.in_ok-extend_from_slice-2.ensures.items

-- Piece by piece.
use Rattle.std.proofs.Common.{codes}
use Rattle.kmip_simulation.specs.Tracing.{ended_text}
use Rattle.kmip_simulation.proofs.MomentLemmas.{three_joined}
use Rattle.kmip_simulation.proofs.diagram.ArrowsTell.push_end.Goals as goal

pub returns : goal.returns
returns c =
    three_joined (codes "    Note over C,S: ") (ended_text c.args.number c.args.words.now) (codes "\n") c.args.text.now.items _ _ _
    c.in_ok-extend_from_slice.ensures.items c.in_ok-push_ended.ensures c.in_ok-push.ensures.items

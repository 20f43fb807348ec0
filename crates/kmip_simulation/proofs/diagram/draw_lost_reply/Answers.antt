-- The request, and then its reply, which is lost.
use Rattle.std.proofs.Common.{rules, append_assoc}
use Rattle.kmip_simulation.proofs.diagram.draw_lost_reply.Goals as goal

pub returns : goal.returns
returns c = search (rules, append_assoc)

-- The bytes of a piece that are left.
use Rattle.std.proofs.Common.{Some, length}
use Rattle.kmip_message_commands.proofs.AdvancingLemmas.{HasAdvanced}
use Rattle.kmip_message_commands.proofs.streamer.StreamerRespond.respond.Given as goal

abbrev pub invariant-loop-self : goal.invariant-loop-self
invariant-loop-self l =
    HasAdvanced (l.fn.self.server, l.fn.self.framer) (l.self.server, l.self.framer) l.message l.rest
    (Some l.fn.text.items) (Some l.text.items)

abbrev pub decreases-loop-self : goal.decreases-loop-self
decreases-loop-self l = length l.rest

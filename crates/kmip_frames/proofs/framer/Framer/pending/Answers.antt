use Rattle.std.proofs.Common.{length, ap, ◌∙◌}
use Rattle.kmip_frames.proofs.Feeding.{is_within, pending_most, pending_held}
use Rattle.kmip_frames.proofs.framer.Framer.pending.Goals as goal

pub returns-clause-at_most : goal.returns-clause-at_most
returns-clause-at_most c =
    pending_most c.args.self.now c.len.result (c.len.ensures ∙ c.self.inside.held.ok.0 ∙ ap length c.self.view_is) (is_within c.self.inside.held.items c.args.self.now c.self.view_is c.self.invariant.1)

pub returns-clause-held : goal.returns-clause-held
returns-clause-held c = pending_held c.args.self.now (is_within c.self.inside.held.items c.args.self.now c.self.view_is c.self.invariant.1)

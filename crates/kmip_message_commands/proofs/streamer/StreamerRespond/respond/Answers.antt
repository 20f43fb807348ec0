-- Each advance is one more.
use Rattle.std.proofs.Common.{Some, inr, rules, sym, subst}
use Rattle.kmip_message_commands.proofs.AdvancingLemmas.{HasAdvanced, advanced_more, advanced_all}
use Rattle.kmip_message_commands.proofs.streamer.StreamerRespond.respond.Goals as goal

pub loop-self-init : goal.loop-self-init
loop-self-init c = search rules

pub loop-self-preserved : goal.loop-self-preserved
loop-self-preserved c =
    let more = advanced_more _ _ _ _ _ c.in_ok-count.count _ _ _ c.loop-self.invariant c.in_ok-count.ensures.text c.in_ok-count.ensures.after in
    subst (λ rest. HasAdvanced (c.args.self.now.server, c.args.self.now.framer) (c.advance.new.self.server, c.advance.new.self.framer) c.args.message.now rest (Some c.args.text.now.items) (Some c.advance.new.text.items)) (sym c.split_at.ensures.back) more

pub returns-else-not-is_over-clause-text : goal.returns-else-not-is_over-clause-text
returns-else-not-is_over-clause-text c =
    (advanced_all _ _ _ _ _ _ c.loop-self.invariant (inr (sym c.if-not-is_over.ensures))).0

pub returns-else-not-is_over-clause-after : goal.returns-else-not-is_over-clause-after
returns-else-not-is_over-clause-after c =
    (advanced_all _ _ _ _ _ _ c.loop-self.invariant (inr (sym c.if-not-is_over.ensures))).1

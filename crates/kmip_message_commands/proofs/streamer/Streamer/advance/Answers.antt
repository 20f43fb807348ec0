-- The three ways of an advance: a fault, a piece of a message, and a message's end.
use Rattle.std.proofs.Common.{Ok, Some, ◌∙◌, subst, take}
use Rattle.kmip_frames.specs.Framing.{Hands}
use Rattle.kmip_message_commands.proofs.AdvancingLemmas.{advance_refused, advance_quiet, advance_answered, taken_lawful}
use Rattle.kmip_message_commands.proofs.streamer.Streamer.advance.Goals as goal

pub returns-in-Err-clause-text : goal.returns-in-Err-clause-text
returns-in-Err-clause-text c =
    (advance_refused c.args.self.now.server _ _ _ _ (Some c.args.text.now.items) (Some c.push_refusal.new.text.items) c.requires.lawful (c.in-Err.ensures.refused c.requires.lawful) c.feed.ensures.held c.in_ok-push_refusal-in-Err.ensures).text

pub returns-in-Err-clause-after : goal.returns-in-Err-clause-after
returns-in-Err-clause-after c =
    (advance_refused c.args.self.now.server _ _ _ _ (Some c.args.text.now.items) (Some c.push_refusal.new.text.items) c.requires.lawful (c.in-Err.ensures.refused c.requires.lawful) c.feed.ensures.held c.in_ok-push_refusal-in-Err.ensures).after

pub next_message-requires : goal.next_message-requires
next_message-requires c = taken_lawful c.args.self.now.framer _ c.args.piece.now c.in-Ok.count c.in-Ok.ensures.answer c.in-Ok.ensures.taken.1

pub returns-in_default-clause-text : goal.returns-in_default-clause-text
returns-in_default-clause-text c =
    let hands = subst (λ next. Hands (λ m. m.items) (Ok next) c.feed.new.self c.next_message.new.framer) c.in_default.is c.in_ok-next.ensures in
    (advance_quiet c.args.self.now.server _ _ _ _ (Some c.args.text.now.items) c.in-Ok.ensures.taken.1 hands).text

pub returns-in_default-clause-after : goal.returns-in_default-clause-after
returns-in_default-clause-after c =
    let hands = subst (λ next. Hands (λ m. m.items) (Ok next) c.feed.new.self c.next_message.new.framer) c.in_default.is c.in_ok-next.ensures in
    (advance_quiet c.args.self.now.server c.args.self.now.framer _ _ (take c.in-Ok.count c.args.piece.now) (Some c.args.text.now.items) c.in-Ok.ensures.taken.1 hands).after

pub returns-clause-text : goal.returns-clause-text
returns-clause-text c =
    let hands = subst (λ next. Hands (λ m. m.items) (Ok next) c.feed.new.self c.next_message.new.framer) c.in-Some.is c.in_ok-next.ensures in
    let same = c.as_slice.ensures.value ∙ hands.1 in
    (advance_answered c.args.self.now.server _ _ _ _ _ _ (Some c.args.text.now.items) (Some c.push_reply.new.text.items) c.requires.begins c.in-Ok.ensures.taken.1 (hands.0, same, hands.2) c.in_ok-push_reply.ensures.text c.in_ok-push_reply.ensures.after).text

pub returns-clause-after : goal.returns-clause-after
returns-clause-after c =
    let hands = subst (λ next. Hands (λ m. m.items) (Ok next) c.feed.new.self c.next_message.new.framer) c.in-Some.is c.in_ok-next.ensures in
    let same = c.as_slice.ensures.value ∙ hands.1 in
    (advance_answered c.args.self.now.server _ _ _ _ _ _ (Some c.args.text.now.items) (Some c.push_reply.new.text.items) c.requires.begins c.in-Ok.ensures.taken.1 (hands.0, same, hands.2) c.in_ok-push_reply.ensures.text c.in_ok-push_reply.ensures.after).after

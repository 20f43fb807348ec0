-- What a step does to a connection: it writes, answers, or reads.
use Rattle.std.proofs.Common.{◌≡◌, [], ◌∙◌, ap, rules, arith}
use Rattle.std.proofs.Math.Facts.{to_z-of_z}
use Rattle.kmip_server.specs.Batching.{batch_reply}
use Rattle.kmip_transport.proofs.ConversationLemmas.{wrote, took, stayed, answered, still_held, all_written, no_message_waits}
use Rattle.kmip_transport.proofs.conversation.Conversation.take_step.Goals as goal

pub returns-in-Ok-clause-talks : goal.returns-in-Ok-clause-talks
returns-in-Ok-clause-talks g c = λ other. wrote _ _ _ _ _ _ _ c.write_some.ensures.held c.write_some.ensures.put

pub returns-in-Err-clause-talks : goal.returns-in-Err-clause-talks
returns-in-Err-clause-talks g c = λ other. wrote _ _ _ _ _ _ _ c.write_some.ensures.held c.write_some.ensures.put

pub returns-in-Ok-answer-clause-talks : goal.returns-in-Ok-answer-clause-talks
returns-in-Ok-answer-clause-talks g c = λ other.
    answered _ _ _ _ _ _ _ c.self.inside.framer _ _ _ (search rules) (rw c.in-Ok-Some.field-0-is at c.in-Ok-Some.ensures) c.answer.ensures.held
    (all_written c.self.inside.written c.self.inside.reply.items _ (search rules) (omega (arith, c.if-self-len.false, c.len.ensures))) c.as_slice.ensures.value c.in-Ok-answer.ensures.served
    (c.in-Ok-answer.ensures.reply ∙ ap (batch_reply c.args.server.now c.as_slice.result.now) (to_z-of_z c.ranges.now))

pub returns-in-Ok-None-clause-talks : goal.returns-in-Ok-None-clause-talks
returns-in-Ok-None-clause-talks g c = λ other.
    took _ _ _ _ _ _ _ c.self.inside.framer _ (search rules) (rw c.in-Ok-None.field-0-is at c.in-Ok-None.ensures) (search rules) c.take_piece.ensures.taken

pub returns-clause-talks : goal.returns-clause-talks
returns-clause-talks g c = λ other. stayed _ _ _ _ _ _ (still_held _ c.hand_over.result c.in-Err-hand_over.fault _ _ c.in-Err-hand_over.is c.hand_over.ensures ∙ search rules) (search rules)

pub returns-in-Ok-None-clause-answered : goal.returns-in-Ok-None-clause-answered
returns-in-Ok-None-clause-answered g c = λ unsent is other.
    absurd (no_message_waits c.args.self.now.held c.self.inside.framer _ (search rules) (rw c.in-Ok-None.field-0-is at c.in-Ok-None.ensures) is)

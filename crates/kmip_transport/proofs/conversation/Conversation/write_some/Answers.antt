-- What one write leaves to be written.
use Rattle.std.proofs.Common.{◌≡◌, ◌∙◌, ap, drop, rules}
use Rattle.std.proofs.lemmas.List.{take_rest}
use Rattle.kmip_transport.proofs.ConversationLemmas.{put_some}
use Rattle.kmip_transport.proofs.conversation.Conversation.write_some.Goals as goal

pub returns-in-Ok-clause-put : goal.returns-in-Ok-clause-put
returns-in-Ok-clause-put g c =
    put_some c.self.inside.written c.in-Ok.count c.self.inside.reply.items _ _ _ _ _ (search rules)
    (take_rest c.deref.result.now c.self.inside.written ∙ ap (λ b. drop c.self.inside.written b) c.deref.ensures.value) c.in-Ok.ensures.bytes c.send_on.ensures.kept

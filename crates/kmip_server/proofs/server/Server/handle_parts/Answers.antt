-- Where the message is refused whole nothing happens.
use Rattle.std.proofs.Common.{append-nil, refl, sym}
use Rattle.kmip_server.proofs.BatchLemmas.{begun_so, nothing_begun}
use Rattle.kmip_server.proofs.server.Server.handle_parts.Goals as goal

pub returns-in-Err-clause-begun : goal.returns-in-Err-clause-begun
returns-in-Err-clause-begun g c =
    begun_so c.refuse_batch.result _ _ c.args.self.now c.args.self.now c.args.self.now c.args.effects.now.items
    c.args.effects.now.items _
    (sym (append-nil c.args.effects.now.items)) refl
    (nothing_begun _ _ c.args.self.now (c.the_laws_of_messages_hold.ensures.few_questions c.args.message.now))

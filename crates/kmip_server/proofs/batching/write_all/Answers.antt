-- Short replies have a written form together.
use Rattle.kmip_messages.proofs.ForCallers.{short_replies_fit}
use Rattle.kmip_server.proofs.batching.write_all.Goals as goal

pub write_reply-requires : goal.write_reply-requires
write_reply-requires c = short_replies_fit c.args.replies.now c.requires.some c.requires.short

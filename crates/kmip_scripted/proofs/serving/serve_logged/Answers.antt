-- Where there was no room for the reply, nothing is a beginning. What was done is what the server did.
use Rattle.kmip_scripted.proofs.ArrivalLemmas.{none_grown}
use Rattle.kmip_scripted.proofs.WordLemmas.{on_err}
use Rattle.kmip_scripted.proofs.serving.serve_logged.Goals as goal

pub returns-in_err-reserve-clause-begun : goal.returns-in_err-reserve-clause-begun
returns-in_err-reserve-clause-begun g c =
    on_err c.from_residual.result (none_grown c.the_laws_of_messages_hold.ensures.few_questions c.args.message.now
    c.args.server.now c.args.effects.now.items)

pub returns-in_err-reply-clause-begun : goal.returns-in_err-reply-clause-begun
returns-in_err-reply-clause-begun g c = on_err c.from_residual-in_err-reply.result c.in_err-reply.ensures.begun

pub returns-clause-effects : goal.returns-clause-effects
returns-clause-effects g c = c.in_ok-reply.ensures.effects

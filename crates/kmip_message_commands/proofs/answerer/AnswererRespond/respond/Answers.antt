-- The reply is that of the server, which stands as it is then.
use Rattle.kmip_message_commands.proofs.answerer.AnswererRespond.respond.Goals as goal

pub returns-clause-text : goal.returns-clause-text
returns-clause-text c = c.in_ok-push_reply.ensures.text

pub returns-clause-after : goal.returns-clause-after
returns-clause-after c = c.in_ok-push_reply.ensures.after

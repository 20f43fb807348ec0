-- The command is never over: it reads all lines.
use Rattle.std.proofs.Common.{Some, false}
use Rattle.kmip_server.specs.Batching.{stock_after_batch}
use Rattle.kmip_message_commands.specs.AnswerText.{reply_text}
use Rattle.kmip_message_commands.proofs.FinishingLemmas.{all_text, all_refused, all_front}
use Rattle.kmip_message_commands.proofs.answering.answer_bytes.Goals as goal

pub returns-clause-text : goal.returns-clause-text
returns-clause-text c =
    all_text reply_text stock_after_batch (λ _. false) c.respond_to_bytes.result (Some c.args.input.now) (Some c.args.output.now.items) (Some c.respond_to_bytes.new.output.items) _ _ _ c.new_server-server.ensures c.respond_to_bytes.ensures.whole

pub returns-clause-refused : goal.returns-clause-refused
returns-clause-refused c =
    all_refused reply_text stock_after_batch (λ _. false) c.respond_to_bytes.result (Some c.args.input.now) (Some c.args.output.now.items) (Some c.respond_to_bytes.new.output.items) _ _ c.respond_to_bytes.ensures.whole

pub returns-clause-broken : goal.returns-clause-broken
returns-clause-broken c =
    all_front reply_text stock_after_batch (λ _. false) c.respond_to_bytes.result c.args.input.now (Some c.args.output.now.items) (Some c.respond_to_bytes.new.output.items) _ _ c.new_server-server.ensures c.respond_to_bytes.ensures.broken

-- The command is never over: it reads all lines.
use Rattle.std.proofs.Common.{false}
use Rattle.kmip_server.specs.Batching.{stock_after_batch}
use Rattle.kmip_message_commands.specs.AnswerText.{reply_text}
use Rattle.kmip_message_commands.proofs.FinishingLemmas.{all_text, all_refused, all_broken}
use Rattle.kmip_message_commands.proofs.answering.answer.Goals as goal

pub returns-clause-text : goal.returns-clause-text
returns-clause-text g c =
    all_text reply_text stock_after_batch (λ _. false) c.respond_to_lines.result _ _ _ _ _ _ c.new_server-server.ensures c.respond_to_lines.ensures.whole

pub returns-clause-refused : goal.returns-clause-refused
returns-clause-refused g c =
    all_refused reply_text stock_after_batch (λ _. false) c.respond_to_lines.result _ _ _ _ _ c.respond_to_lines.ensures.whole

pub returns-clause-broken : goal.returns-clause-broken
returns-clause-broken g c =
    all_broken reply_text stock_after_batch (λ _. false) c.respond_to_lines.result _ _ _ _ _ c.new_server-server.ensures c.respond_to_lines.ensures.broken

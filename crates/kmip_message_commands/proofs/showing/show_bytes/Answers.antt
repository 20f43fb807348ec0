-- The command is never over: it reads all lines.
use Rattle.std.proofs.Common.{Some, refl}
use Rattle.kmip_message_commands.specs.Showing.{is_no_item, show_text}
use Rattle.kmip_message_commands.proofs.FinishingLemmas.{all_text, all_refused, all_front}
use Rattle.kmip_message_commands.proofs.showing.show_bytes.Goals as goal

pub returns-clause-text : goal.returns-clause-text
returns-clause-text c =
    all_text show_text (λ form message. form) is_no_item c.respond_to_bytes.result (Some c.args.input.now) (Some c.args.output.now.items) (Some c.respond_to_bytes.new.output.items) _ _ _ refl c.respond_to_bytes.ensures.whole

pub returns-clause-refused : goal.returns-clause-refused
returns-clause-refused c =
    all_refused show_text (λ form message. form) is_no_item c.respond_to_bytes.result (Some c.args.input.now) (Some c.args.output.now.items) (Some c.respond_to_bytes.new.output.items) _ _ c.respond_to_bytes.ensures.whole

pub returns-clause-broken : goal.returns-clause-broken
returns-clause-broken c =
    all_front show_text (λ form message. form) is_no_item c.respond_to_bytes.result c.args.input.now (Some c.args.output.now.items) (Some c.respond_to_bytes.new.output.items) _ _ refl c.respond_to_bytes.ensures.broken

-- The command is never over: it reads all lines.
use Rattle.std.proofs.Common.{refl}
use Rattle.kmip_message_commands.specs.Showing.{is_no_item, show_text}
use Rattle.kmip_message_commands.proofs.FinishingLemmas.{all_text, all_refused, all_broken}
use Rattle.kmip_message_commands.proofs.showing.show_lines.Goals as goal

pub returns-clause-text : goal.returns-clause-text
returns-clause-text g c =
    all_text show_text (λ form message. form) is_no_item c.respond_to_lines.result _ _ _ _ _ _ refl c.respond_to_lines.ensures.whole

pub returns-clause-refused : goal.returns-clause-refused
returns-clause-refused g c =
    all_refused show_text (λ form message. form) is_no_item c.respond_to_lines.result _ _ _ _ _ c.respond_to_lines.ensures.whole

pub returns-clause-broken : goal.returns-clause-broken
returns-clause-broken g c =
    all_broken show_text (λ form message. form) is_no_item c.respond_to_lines.result _ _ _ _ _ refl c.respond_to_lines.ensures.broken

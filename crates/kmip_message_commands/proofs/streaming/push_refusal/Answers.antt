-- The line is made of its parts.
use Rattle.std.proofs.Common.{◌≡◌, ◌++◌, ◌∙◌, OnOk, subst}
use Rattle.kmip_message_commands.proofs.StreamingLemmas.{refusal_line}
use Rattle.kmip_message_commands.proofs.streaming.push_refusal.Goals as goal

pub returns : goal.returns
returns c =
    let line = c.as_bytes.ensures.value ∙ c.as_str.ensures.value ∙ c.in_ok-line.ensures.ok ∙ refusal_line c.args.fault _ _ c.number-number.ensures c.name-name.ensures in
    subst (λ t. OnOk c.push_text.result (c.push_text.new.text.items ≡ c.args.text.now.items ++ t)) line c.push_text.ensures.ok

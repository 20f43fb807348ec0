-- A lost reply is written as one.
use Rattle.std.proofs.Common.{sym, ap, ◌∙◌}
use Rattle.kmip_simulation.specs.Tracing.{word_text}
use Rattle.kmip_simulation.proofs.tracing.word_text.Goals as goal

pub returns-in_ok-from_str-in-LoseReply : goal.returns-in_ok-from_str-in-LoseReply
returns-in_ok-from_str-in-LoseReply c = c.in_ok-from_str-in-LoseReply.ensures.ok ∙ sym (ap word_text c.in-LoseReply.is)

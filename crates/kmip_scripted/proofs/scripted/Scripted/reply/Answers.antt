-- The message of the number among those given.
use Rattle.std.proofs.Common.{ap, ◌∙◌}
use Rattle.kmip_scripted.specs.Words.{message_at}
use Rattle.kmip_scripted.proofs.scripted.Scripted.reply.Goals as goal

pub returns : goal.returns
returns g c = c.message_at.ensures ∙ ap (message_at c.args.number) (c.as_slice.ensures.value ∙ ap (λ s. s.given) c.self.view_is)

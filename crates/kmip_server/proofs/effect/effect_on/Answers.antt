-- By the row with the identifier.
use Rattle.std.proofs.Common.{ap, ◌∙◌}
use Rattle.kmip_server.proofs.PromiseLemmas.{an_effect, no_effect}
use Rattle.kmip_server.proofs.effect.effect_on.Goals as goal

pub returns-in_default : goal.returns-in_default
returns-in_default g c = no_effect c.args.step c.args.uid.now (g.S.Records.stock c.args.store.now).rows c.in_default.ensures.value

pub returns : goal.returns
returns g c =
    an_effect c.args.step c.args.uid.now (g.S.Records.stock c.args.store.now).rows c.in-Some.row.now c.in_ok-effect.effect c.in-Some.ensures.value
    (c.in_ok-effect.ensures ∙ ap (λ name. record { name = name; step = c.args.step }) c.as_str.ensures)

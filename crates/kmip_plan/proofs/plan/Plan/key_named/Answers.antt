-- What is found is one of the keys.
use Rattle.std.proofs.Common.{ap, ◌∙◌}
use Rattle.kmip_plan.specs.Plans.{key_named}
use Rattle.kmip_plan.proofs.NameLemmas.{taken_fits, named_fits}
use Rattle.kmip_plan.proofs.plan.Plan.key_named.Goals as goal

pub returns-clause-fits : goal.returns-clause-fits
returns-clause-fits c =
    taken_fits c.named.result _ (c.named.ensures ∙ ap (λ keys. key_named c.args.name.now keys) c.as_slice.ensures.value)
    (λ key is. named_fits c.self.inside.keys.items c.args.name.now key c.self.invariant.fit is)

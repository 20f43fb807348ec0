-- Each key of a plan is in its ranges.
use Rattle.std.proofs.Common.{ap, ◌∙◌}
use Rattle.std.specs.List.{slice_get}
use Rattle.kmip_plan.proofs.NameLemmas.{fits_at, taken_fits}
use Rattle.kmip_plan.proofs.plan.Plan.key.Goals as goal

pub returns-clause-fits : goal.returns-clause-fits
returns-clause-fits c =
    taken_fits c.key_at.result _ (c.key_at.ensures ∙ ap (λ keys. slice_get keys c.args.place) c.as_slice.ensures.value)
    (λ key is. fits_at c.self.inside.keys.items c.args.place key c.self.invariant.fit is)

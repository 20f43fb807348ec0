-- Key by key.
use Rattle.std.proofs.Common.{◌≡◌, Some}
use Rattle.std.specs.List.{slice_get}
use Rattle.kmip_plan.proofs.NameLemmas.{fits_at}
use Rattle.kmip_plan.proofs.plan.Plan.keys.Goals as goal

pub returns-clause-fits : goal.returns-clause-fits
returns-clause-fits c = λ place key is.
    let here : slice_get c.self.inside.keys.items place ≡ Some key = cc in
    fits_at c.self.inside.keys.items place key c.self.invariant.fit here

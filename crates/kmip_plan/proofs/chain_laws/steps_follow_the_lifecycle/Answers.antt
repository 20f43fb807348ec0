-- Case by case.
use Rattle.kmip_plan.proofs.ChainLemmas.{leads_on}
use Rattle.kmip_plan.proofs.chain_laws.steps_follow_the_lifecycle.Goals as goal

pub returns : goal.returns
returns c = λ target i step stands. leads_on target i step stands

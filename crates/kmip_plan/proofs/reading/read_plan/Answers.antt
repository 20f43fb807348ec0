-- Reading is the reading function, whose laws are these.
use Rattle.kmip_plan.proofs.PlanLemmas.{is_found, is_only}
use Rattle.kmip_plan.proofs.reading.read_plan.Goals as goal

pub returns-clause-found : goal.returns-clause-found
returns-clause-found c = is_found c.args.text.now c.whole_plan.result c.whole_plan.ensures

pub returns-clause-only : goal.returns-clause-only
returns-clause-only c = λ ms keys is plan. is_only c.args.text.now c.whole_plan.result ms keys c.whole_plan.ensures is plan

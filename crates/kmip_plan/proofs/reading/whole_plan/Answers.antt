-- The keys are those of a plan.
use Rattle.kmip_plan.proofs.PlanLemmas.{plan_lawful}
use Rattle.kmip_plan.proofs.reading.whole_plan.Goals as goal

pub new-requires : goal.new-requires
new-requires c = plan_lawful c.args.text.now c.in_ok-keys.keys.items c.in_ok-keys.ensures

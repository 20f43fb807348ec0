-- Both places are that of the step.
use Rattle.std.proofs.Common.{sym, ◌∙◌}
use Rattle.kmip_plan.proofs.ChainLemmas.{step_placed}
use Rattle.kmip_plan.proofs.chain_laws.steps_are_distinct.Goals as goal

pub returns : goal.returns
returns c = λ target i j step here there. sym (step_placed target i step here).0 ∙ (step_placed target j step there).0

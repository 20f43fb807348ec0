-- Both places are that of the state.
use Rattle.std.proofs.Common.{sym, ◌∙◌}
use Rattle.kmip_plan.proofs.ChainLemmas.{same_some, state_placed}
use Rattle.kmip_plan.proofs.chain_laws.states_are_distinct.Goals as goal

pub returns : goal.returns
returns c = λ target i j state here there. same_some i j (sym (state_placed target i state here) ∙ state_placed target j state there)

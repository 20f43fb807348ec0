-- Case by case.
use Rattle.kmip_plan.proofs.ChainLemmas.{state_placed, placed_state}
use Rattle.kmip_plan.proofs.chain_laws.places_and_states.Goals as goal

pub returns : goal.returns
returns c = λ target place state. (state_placed target place state, placed_state target place state)

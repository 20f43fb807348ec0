-- The place of the step is not behind that of the state.
use Rattle.std.proofs.Common.{◌≡◌, ◌≤◌, ap, arith}
use Rattle.kmip_plan.specs.Chains.{step_place, place_reached, or_zero}
use Rattle.kmip_plan.proofs.ChainLemmas.{step_placed, state_placed, no_row}
use Rattle.kmip_plan.proofs.chain_laws.done_steps_are_no_rows.Goals as goal

pub returns : goal.returns
returns c = λ target i j step state done now behind.
    let placed = step_placed target i step done in
    let here : place_reached target state ≡ j = ap or_zero (state_placed target j state now) in
    let some : 1 ≤ step_place target step = omega (arith, placed.0, placed.1) in
    let within : step_place target step ≤ place_reached target state = omega (arith, placed.0, here, behind) in
    no_row target step state some within

-- The places of steps and of states are those from 1 to the length of the chain.
use Rattle.std.proofs.Common.{◌≡◌, ℕ, zero, suc, ◌+◌, ◌≤◌, ◌<◌, List, [], ◌∷◌, length, Some, refl, arith}
use Rattle.kmip_objects.specs.declared.key_state.KeyState.{KeyState}
use Rattle.kmip_objects.specs.declared.step.Step.{Step}
use Rattle.kmip_plan.specs.declared.target.Target.{Target}
use Rattle.kmip_plan.specs.declared.target.Target.TheVariants.{Created, Active, Revoked, Destroyed, Discarded}
use Rattle.kmip_plan.specs.Chains.{chain, states, place_from_one, step_at, state_after, step_place}
use Rattle.kmip_plan.proofs.ChainLemmas.{not_some, step_placed}

-- a list has an element at each place from 1 to its length
pub stands_at : {A : Type 0} (xs : List A) (place : ℕ) → 1 ≤ place → place ≤ length xs → (x : A) × (place_from_one xs place ≡ Some x)
stands_at xs zero from within = absurd (omega arith)
stands_at [] (suc place) from within = absurd (omega arith)
stands_at (x ∷ xs) (suc zero) from within = (x, refl)
stands_at (x ∷ xs) (suc (suc place)) from within = stands_at xs (suc place) (omega arith) (omega arith)

-- and at no other place
pub stands_within : {A : Type 0} (xs : List A) (place : ℕ) (x : A) → place_from_one xs place ≡ Some x → (1 ≤ place) × (place ≤ length xs)
stands_within xs zero x is = not_some x is
stands_within [] (suc place) x is = not_some x is
stands_within (y ∷ ys) (suc zero) x is = (omega arith, omega arith)
stands_within (y ∷ ys) (suc (suc place)) x is =
    let rest = stands_within ys (suc place) x is in
    (omega arith, omega (arith, rest.1))

pub next_step : (target : Target) (count : ℕ) → count < length (chain target)
    → (step : Step) × (step_at target (count + 1) ≡ Some step) × (step_place target step ≡ count + 1)
next_step target count more =
    let (step, stands) = stands_at (chain target) (count + 1) (omega arith) (omega arith) in
    (step, stands, (step_placed target (count + 1) step stands).0)

as_many_states : (target : Target) → length (states target) ≡ length (chain target)
as_many_states Created = refl
as_many_states Active = refl
as_many_states Revoked = refl
as_many_states Destroyed = refl
as_many_states Discarded = refl

pub state_stands : (target : Target) (steps : ℕ) → 1 ≤ steps → steps ≤ length (chain target) → (state : KeyState) × (state_after target steps ≡ Some state)
state_stands target steps from within = stands_at (states target) steps from (omega (arith, as_many_states target))

pub state_within : (target : Target) (steps : ℕ) (state : KeyState) → state_after target steps ≡ Some state → (1 ≤ steps) × (steps ≤ length (chain target))
state_within target steps state is =
    let within = stands_within (states target) steps state is in
    (within.0, omega (arith, within.1, as_many_states target))

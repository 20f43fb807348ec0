-- The finite facts of the five chains, case by case.
use Rattle.std.proofs.Common.{◌≡◌, ℕ, zero, suc, ◌≤◌, Option, Some, None, subst, refl, arith}
use Rattle.kmip_objects.specs.Lifecycle.{after}
use Rattle.kmip_objects.specs.States.{state_number}
use Rattle.kmip_objects.specs.declared.key_state.KeyState.{KeyState}
use Rattle.kmip_objects.specs.declared.key_state.KeyState.TheVariants as passed
use Rattle.kmip_objects.specs.declared.step.Step.{Step}
use Rattle.kmip_objects.specs.declared.step.Step.TheVariants as done
use Rattle.kmip_plan.specs.declared.target.Target.{Target}
use Rattle.kmip_plan.specs.declared.target.Target.TheVariants.{Created, Active, Revoked, Destroyed, Discarded}
use Rattle.kmip_plan.specs.Chains.{step_at, state_after, moved_by, place_of, place_reached, step_place}

abbrev none : (A : Type 0) → Option A
none A = None

abbrev some : (A : Type 0) → A → Option A
some A a = Some a

pub same_some : {A : Type 0} (x y : A) → some A x ≡ some A y → x ≡ y
same_some x y e = cc

pub not_some : {A X : Type 0} (a : A) → none A ≡ some A a → X
not_some a is = absurd cc

-- a step that stands at a place has that place
abbrev IsPlaced : Target → ℕ → Step → Type 0
IsPlaced target place step = (step_place target step ≡ place) × (1 ≤ place)

as_step : (target : Target) (place : ℕ) (known step : Step) → IsPlaced target place known → some Step known ≡ some Step step → IsPlaced target place step
as_step target place known step placed is = subst (IsPlaced target place) (same_some known step is) placed

pub step_placed : (target : Target) (place : ℕ) (step : Step) → step_at target place ≡ Some step → IsPlaced target place step
step_placed Created zero step is = not_some step is
step_placed Created (suc zero) step is = as_step Created 1 done.Create step (refl, omega arith) is
step_placed Created (suc (suc i)) step is = not_some step is
step_placed Active zero step is = not_some step is
step_placed Active (suc zero) step is = as_step Active 1 done.Create step (refl, omega arith) is
step_placed Active (suc (suc zero)) step is = as_step Active 2 done.Activate step (refl, omega arith) is
step_placed Active (suc (suc (suc i))) step is = not_some step is
step_placed Revoked zero step is = not_some step is
step_placed Revoked (suc zero) step is = as_step Revoked 1 done.Create step (refl, omega arith) is
step_placed Revoked (suc (suc zero)) step is = as_step Revoked 2 done.Activate step (refl, omega arith) is
step_placed Revoked (suc (suc (suc zero))) step is = as_step Revoked 3 done.Revoke step (refl, omega arith) is
step_placed Revoked (suc (suc (suc (suc i)))) step is = not_some step is
step_placed Destroyed zero step is = not_some step is
step_placed Destroyed (suc zero) step is = as_step Destroyed 1 done.Create step (refl, omega arith) is
step_placed Destroyed (suc (suc zero)) step is = as_step Destroyed 2 done.Activate step (refl, omega arith) is
step_placed Destroyed (suc (suc (suc zero))) step is = as_step Destroyed 3 done.Revoke step (refl, omega arith) is
step_placed Destroyed (suc (suc (suc (suc zero)))) step is = as_step Destroyed 4 done.Destroy step (refl, omega arith) is
step_placed Destroyed (suc (suc (suc (suc (suc i))))) step is = not_some step is
step_placed Discarded zero step is = not_some step is
step_placed Discarded (suc zero) step is = as_step Discarded 1 done.Create step (refl, omega arith) is
step_placed Discarded (suc (suc zero)) step is = as_step Discarded 2 done.Destroy step (refl, omega arith) is
step_placed Discarded (suc (suc (suc i))) step is = not_some step is

-- a state that is passed at a place has that place
as_state : (target : Target) (place : ℕ) (known state : KeyState) → place_of target (state_number known) ≡ Some place → some KeyState known ≡ some KeyState state
    → place_of target (state_number state) ≡ Some place
as_state target place known state placed is = subst (λ s. place_of target (state_number s) ≡ Some place) (same_some known state is) placed

pub state_placed : (target : Target) (place : ℕ) (state : KeyState) → state_after target place ≡ Some state → place_of target (state_number state) ≡ Some place
state_placed Created zero state is = not_some state is
state_placed Created (suc zero) state is = as_state Created 1 passed.PreActive state refl is
state_placed Created (suc (suc i)) state is = not_some state is
state_placed Active zero state is = not_some state is
state_placed Active (suc zero) state is = as_state Active 1 passed.PreActive state refl is
state_placed Active (suc (suc zero)) state is = as_state Active 2 passed.Active state refl is
state_placed Active (suc (suc (suc i))) state is = not_some state is
state_placed Revoked zero state is = not_some state is
state_placed Revoked (suc zero) state is = as_state Revoked 1 passed.PreActive state refl is
state_placed Revoked (suc (suc zero)) state is = as_state Revoked 2 passed.Active state refl is
state_placed Revoked (suc (suc (suc zero))) state is = as_state Revoked 3 passed.Deactivated state refl is
state_placed Revoked (suc (suc (suc (suc i)))) state is = not_some state is
state_placed Destroyed zero state is = not_some state is
state_placed Destroyed (suc zero) state is = as_state Destroyed 1 passed.PreActive state refl is
state_placed Destroyed (suc (suc zero)) state is = as_state Destroyed 2 passed.Active state refl is
state_placed Destroyed (suc (suc (suc zero))) state is = as_state Destroyed 3 passed.Deactivated state refl is
state_placed Destroyed (suc (suc (suc (suc zero)))) state is = as_state Destroyed 4 passed.Destroyed state refl is
state_placed Destroyed (suc (suc (suc (suc (suc i))))) state is = not_some state is
state_placed Discarded zero state is = not_some state is
state_placed Discarded (suc zero) state is = as_state Discarded 1 passed.PreActive state refl is
state_placed Discarded (suc (suc zero)) state is = as_state Discarded 2 passed.Destroyed state refl is
state_placed Discarded (suc (suc (suc i))) state is = not_some state is

-- and the other way round
at_place : (target : Target) (known place : ℕ) (state : KeyState) → state_after target known ≡ Some state → some ℕ known ≡ some ℕ place → state_after target place ≡ Some state
at_place target known place state stands is = subst (λ p. state_after target p ≡ Some state) (same_some known place is) stands

pub placed_state : (target : Target) (place : ℕ) (state : KeyState) → place_of target (state_number state) ≡ Some place → state_after target place ≡ Some state
placed_state Created place passed.PreActive is = at_place Created 1 place passed.PreActive refl is
placed_state Created place passed.Active is = not_some place is
placed_state Created place passed.Deactivated is = not_some place is
placed_state Created place passed.Compromised is = not_some place is
placed_state Created place passed.Destroyed is = not_some place is
placed_state Created place passed.DestroyedCompromised is = not_some place is
placed_state Active place passed.PreActive is = at_place Active 1 place passed.PreActive refl is
placed_state Active place passed.Active is = at_place Active 2 place passed.Active refl is
placed_state Active place passed.Deactivated is = not_some place is
placed_state Active place passed.Compromised is = not_some place is
placed_state Active place passed.Destroyed is = not_some place is
placed_state Active place passed.DestroyedCompromised is = not_some place is
placed_state Revoked place passed.PreActive is = at_place Revoked 1 place passed.PreActive refl is
placed_state Revoked place passed.Active is = at_place Revoked 2 place passed.Active refl is
placed_state Revoked place passed.Deactivated is = at_place Revoked 3 place passed.Deactivated refl is
placed_state Revoked place passed.Compromised is = not_some place is
placed_state Revoked place passed.Destroyed is = not_some place is
placed_state Revoked place passed.DestroyedCompromised is = not_some place is
placed_state Destroyed place passed.PreActive is = at_place Destroyed 1 place passed.PreActive refl is
placed_state Destroyed place passed.Active is = at_place Destroyed 2 place passed.Active refl is
placed_state Destroyed place passed.Deactivated is = at_place Destroyed 3 place passed.Deactivated refl is
placed_state Destroyed place passed.Compromised is = not_some place is
placed_state Destroyed place passed.Destroyed is = at_place Destroyed 4 place passed.Destroyed refl is
placed_state Destroyed place passed.DestroyedCompromised is = not_some place is
placed_state Discarded place passed.PreActive is = at_place Discarded 1 place passed.PreActive refl is
placed_state Discarded place passed.Active is = not_some place is
placed_state Discarded place passed.Deactivated is = not_some place is
placed_state Discarded place passed.Compromised is = not_some place is
placed_state Discarded place passed.Destroyed is = at_place Discarded 2 place passed.Destroyed refl is
placed_state Discarded place passed.DestroyedCompromised is = not_some place is

-- each step leads on by a row of the lifecycle
abbrev LeadsOn : Target → ℕ → Step → Type 0
LeadsOn target place step = (state : KeyState) × (state_after target (suc place) ≡ Some state) × (moved_by (state_after target place) step ≡ Some state)

on_step : (target : Target) (place : ℕ) (known step : Step) → LeadsOn target place known → some Step known ≡ some Step step → LeadsOn target place step
on_step target place known step leads is = subst (LeadsOn target place) (same_some known step is) leads

pub leads_on : (target : Target) (place : ℕ) (step : Step) → step_at target (suc place) ≡ Some step → LeadsOn target place step
leads_on Created zero step is = on_step Created 0 done.Create step (passed.PreActive, refl, refl) is
leads_on Created (suc i) step is = not_some step is
leads_on Active zero step is = on_step Active 0 done.Create step (passed.PreActive, refl, refl) is
leads_on Active (suc zero) step is = on_step Active 1 done.Activate step (passed.Active, refl, refl) is
leads_on Active (suc (suc i)) step is = not_some step is
leads_on Revoked zero step is = on_step Revoked 0 done.Create step (passed.PreActive, refl, refl) is
leads_on Revoked (suc zero) step is = on_step Revoked 1 done.Activate step (passed.Active, refl, refl) is
leads_on Revoked (suc (suc zero)) step is = on_step Revoked 2 done.Revoke step (passed.Deactivated, refl, refl) is
leads_on Revoked (suc (suc (suc i))) step is = not_some step is
leads_on Destroyed zero step is = on_step Destroyed 0 done.Create step (passed.PreActive, refl, refl) is
leads_on Destroyed (suc zero) step is = on_step Destroyed 1 done.Activate step (passed.Active, refl, refl) is
leads_on Destroyed (suc (suc zero)) step is = on_step Destroyed 2 done.Revoke step (passed.Deactivated, refl, refl) is
leads_on Destroyed (suc (suc (suc zero))) step is = on_step Destroyed 3 done.Destroy step (passed.Destroyed, refl, refl) is
leads_on Destroyed (suc (suc (suc (suc i)))) step is = not_some step is
leads_on Discarded zero step is = on_step Discarded 0 done.Create step (passed.PreActive, refl, refl) is
leads_on Discarded (suc zero) step is = on_step Discarded 1 done.Destroy step (passed.Destroyed, refl, refl) is
leads_on Discarded (suc (suc i)) step is = not_some step is

-- a step whose place is not behind that of a state is no row from this state
pub no_row : (target : Target) (step : Step) (state : KeyState) → 1 ≤ step_place target step → step_place target step ≤ place_reached target state → after state step ≡ None
no_row Created done.Activate passed.PreActive some within = absurd (omega (arith, some, within))
no_row Active done.Activate passed.PreActive some within = absurd (omega (arith, some, within))
no_row Revoked done.Activate passed.PreActive some within = absurd (omega (arith, some, within))
no_row Destroyed done.Activate passed.PreActive some within = absurd (omega (arith, some, within))
no_row Discarded done.Activate passed.PreActive some within = absurd (omega (arith, some, within))
no_row Created done.Revoke passed.Active some within = absurd (omega (arith, some, within))
no_row Active done.Revoke passed.Active some within = absurd (omega (arith, some, within))
no_row Revoked done.Revoke passed.Active some within = absurd (omega (arith, some, within))
no_row Destroyed done.Revoke passed.Active some within = absurd (omega (arith, some, within))
no_row Discarded done.Revoke passed.Active some within = absurd (omega (arith, some, within))
no_row Created done.Destroy passed.PreActive some within = absurd (omega (arith, some, within))
no_row Active done.Destroy passed.PreActive some within = absurd (omega (arith, some, within))
no_row Revoked done.Destroy passed.PreActive some within = absurd (omega (arith, some, within))
no_row Destroyed done.Destroy passed.PreActive some within = absurd (omega (arith, some, within))
no_row Discarded done.Destroy passed.PreActive some within = absurd (omega (arith, some, within))
no_row Created done.Destroy passed.Deactivated some within = absurd (omega (arith, some, within))
no_row Active done.Destroy passed.Deactivated some within = absurd (omega (arith, some, within))
no_row Revoked done.Destroy passed.Deactivated some within = absurd (omega (arith, some, within))
no_row Destroyed done.Destroy passed.Deactivated some within = absurd (omega (arith, some, within))
no_row Discarded done.Destroy passed.Deactivated some within = absurd (omega (arith, some, within))
no_row target done.Create passed.PreActive some within = refl
no_row target done.Create passed.Active some within = refl
no_row target done.Create passed.Deactivated some within = refl
no_row target done.Create passed.Compromised some within = refl
no_row target done.Create passed.Destroyed some within = refl
no_row target done.Create passed.DestroyedCompromised some within = refl
no_row target done.Activate passed.Active some within = refl
no_row target done.Activate passed.Deactivated some within = refl
no_row target done.Activate passed.Compromised some within = refl
no_row target done.Activate passed.Destroyed some within = refl
no_row target done.Activate passed.DestroyedCompromised some within = refl
no_row target done.Revoke passed.PreActive some within = refl
no_row target done.Revoke passed.Deactivated some within = refl
no_row target done.Revoke passed.Compromised some within = refl
no_row target done.Revoke passed.Destroyed some within = refl
no_row target done.Revoke passed.DestroyedCompromised some within = refl
no_row target done.Destroy passed.Active some within = refl
no_row target done.Destroy passed.Compromised some within = refl
no_row target done.Destroy passed.Destroyed some within = refl
no_row target done.Destroy passed.DestroyedCompromised some within = refl

-- The way of a key to its target: its steps, and the states that the lifecycle leads it through.
-- Source: KMIP 2.1, Object Attributes, State; the targets are own (text).
use Rattle.std.specs.Prelude.{◌≡◌, ℕ, zero, suc, ◌+◌, ◌==◌, List, [], ◌∷◌, length, map, sum, take, Bool, true, false, Option, Some, None, option_map}
use Rattle.std.specs.List.{slice_get, list_any, position}
use Rattle.kmip_objects.specs.Lifecycle.{after}
use Rattle.kmip_objects.specs.States.{state_number}
use Rattle.kmip_objects.specs.declared.key_state.KeyState.{KeyState}
use Rattle.kmip_objects.specs.declared.key_state.KeyState.TheVariants.{PreActive}
use Rattle.kmip_objects.specs.declared.step.Step.{Step}
use Rattle.kmip_objects.specs.declared.step.Step.TheVariants.{Create, Activate, Revoke, Destroy}
use Rattle.kmip_plan.specs.declared.key.Key.{Key}
use Rattle.kmip_plan.specs.declared.target.Target.{Target}
use Rattle.kmip_plan.specs.declared.target.Target.TheVariants.{Created, Active, Revoked, Destroyed, Discarded}

-- The steps that lead to a target.
abbrev pub chain : Target → List Step
chain Created = Create ∷ []
chain Active = Create ∷ Activate ∷ []
chain Revoked = Create ∷ Activate ∷ Revoke ∷ []
chain Destroyed = Create ∷ Activate ∷ Revoke ∷ Destroy ∷ []
chain Discarded = Create ∷ Destroy ∷ []

-- The state after a step of a key in a state, or of a key that is still to be made; none where the lifecycle
-- does not have the step.
abbrev pub moved_by : Option KeyState → Step → Option KeyState
moved_by None Create = Some PreActive
moved_by None step = None
moved_by (Some state) step = after state step

-- A state, where there is one, and the states after it.
abbrev pub with_states : Option KeyState → List KeyState → List KeyState
with_states None states = []
with_states (Some state) states = state ∷ states

-- The states after each of the steps, from a state or from none, as long as the lifecycle has the steps.
abbrev pub states_along : Option KeyState → List Step → List KeyState
states_along at [] = []
states_along at (step ∷ steps) = with_states (moved_by at step) (states_along (moved_by at step) steps)

-- The states on the way to a target, from its first step on.
abbrev pub states : Target → List KeyState
states target = states_along None (chain target)

-- The element of a list at a place from 1.
abbrev pub place_from_one : {A : Type 0} → List A → ℕ → Option A
place_from_one xs zero = None
place_from_one xs (suc place) = slice_get xs place

-- The step at a place from 1 of the chain of a target.
abbrev pub step_at : Target → ℕ → Option Step
step_at target place = place_from_one (chain target) place

-- The state after a number of steps of the chain of a target; none after no step.
abbrev pub state_after : Target → ℕ → Option KeyState
state_after target steps = place_from_one (states target) steps

-- After how many steps of the chain the state has this number; none where the way does not lead through it.
abbrev pub place_of : Target → ℕ → Option ℕ
place_of target number = option_map (λ index. index + 1) (position (λ state. state_number state == number) (states target))

-- A number, or 0 where there is none.
abbrev pub or_zero : Option ℕ → ℕ
or_zero None = 0
or_zero (Some place) = place

-- How far a key in this state has come: the place of the state on the way to the target, and 0 where the way
-- does not lead through it.
abbrev pub place_reached : Target → KeyState → ℕ
place_reached target state = or_zero (place_of target (state_number state))

-- The place of a step from 1, and 0 where the chain does not have it.
abbrev pub step_place : Target → Step → ℕ
step_place target Create = 1
step_place Active Activate = 2
step_place Revoked Activate = 2
step_place Destroyed Activate = 2
step_place Revoked Revoke = 3
step_place Destroyed Revoke = 3
step_place Destroyed Destroy = 4
step_place Discarded Destroy = 2
step_place target step = 0

-- The step is a Revoke.
abbrev pub is_revoke : Step → Bool
is_revoke Revoke = true
is_revoke step = false

-- The chain of the target has a Revoke.
abbrev pub is_revoked : Target → Bool
is_revoked target = list_any is_revoke (chain target)

-- The way to a target is a beginning of the way to a further one, or all of it: its steps are the first steps
-- there. Own (choice): a plan that is changed may take a key further only on its old way.
abbrev pub LeadsOn : Target → Target → Type 0
LeadsOn target further = take (length (chain target)) (chain further) ≡ chain target

-- What a run takes at most for one key, where nothing is lost: its steps, and two more questions. Own (law).
abbrev pub key_bound : Key → ℕ
key_bound key = length (chain key.target) + 2

-- What a run takes at most for all of these keys, where nothing is lost: the sum over them. Own (law).
abbrev pub bound : List Key → ℕ
bound keys = sum (map key_bound keys)

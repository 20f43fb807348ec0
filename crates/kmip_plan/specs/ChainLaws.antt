-- What holds of the five chains and of their words.
-- Source: own (law): each is proved of all targets.
use Rattle.std.specs.Prelude.{◌≡◌, ◌≢◌, ◌≤◌, ◌<◌, ◌+◌, ℕ, suc, true, false, List, [], ◌∷◌, ◌++◌, length, take, Some, None, MatchOption}
use Rattle.std.specs.List.{slice_get}
use Rattle.kmip_objects.specs.Lifecycle.{after}
use Rattle.kmip_objects.specs.States.{state_number}
use Rattle.kmip_objects.specs.declared.key_state.KeyState.{KeyState}
use Rattle.kmip_objects.specs.declared.key_state.KeyState.TheVariants.{PreActive}
use Rattle.kmip_objects.specs.declared.step.Step.{Step}
use Rattle.kmip_objects.specs.declared.step.Step.TheVariants.{Create, Revoke}
use Rattle.kmip_plan.specs.declared.target.Target.{Target}
use Rattle.kmip_plan.specs.Chains.{chain, states, step_at, state_after, moved_by, place_of, place_reached, step_place, is_revoked, LeadsOn}
use Rattle.kmip_plan.specs.TargetWords.{target_word, target_of_word}

-- No step is at two places of a chain.
abbrev pub StepsAreDistinct : Type 0
StepsAreDistinct = (target : Target) (i j : ℕ) (step : Step) → step_at target i ≡ Some step → step_at target j ≡ Some step → i ≡ j

-- No state is at two places of a chain.
abbrev pub StatesAreDistinct : Type 0
StatesAreDistinct = (target : Target) (i j : ℕ) (state : KeyState) → state_after target i ≡ Some state → state_after target j ≡ Some state → i ≡ j

-- After each step there is a state: the state before it, moved by a row of the lifecycle. After Create, where
-- there is none before, it is Pre-Active.
abbrev pub StepsFollowTheLifecycle : Type 0
StepsFollowTheLifecycle =
    (target : Target) (i : ℕ) (step : Step) → step_at target (suc i) ≡ Some step
    → (state : KeyState) × (state_after target (suc i) ≡ Some state) × (moved_by (state_after target i) step ≡ Some state)

-- A step that was done has no row of the lifecycle from any state that the chain has come to since.
abbrev pub DoneStepsAreNoRows : Type 0
DoneStepsAreNoRows =
    (target : Target) (i j : ℕ) (step : Step) (state : KeyState) → step_at target i ≡ Some step → state_after target j ≡ Some state → i ≤ j
    → after state step ≡ None

-- The place of a state and the state at a place lead to one another.
abbrev pub PlacesAndStates : Type 0
PlacesAndStates =
    (target : Target) (place : ℕ) (state : KeyState)
    → ((state_after target place ≡ Some state) → (place_of target (state_number state) ≡ Some place))
    × ((place_of target (state_number state) ≡ Some place) → (state_after target place ≡ Some state))

-- Each target has a word that names it, and only that word names it.
abbrev pub TargetsAndWords : Type 0
TargetsAndWords =
    (target : Target) (word : List ℕ)
    → ((target_of_word word ≡ Some target) → (word ≡ target_word target)) × ((word ≡ target_word target) → (target_of_word word ≡ Some target))

-- The place of a step and the step at a place from 1 lead to one another.
abbrev pub PlacesAndSteps : Type 0
PlacesAndSteps =
    (target : Target) (place : ℕ) (step : Step) → 1 ≤ place
    → ((step_at target place ≡ Some step) → (step_place target step ≡ place))
    × ((step_place target step ≡ place) → (step_at target place ≡ Some step))

-- A chain has a step at each place from 1 to its length, and at no other.
abbrev pub StepsStandFromOne : Type 0
StepsStandFromOne =
    (target : Target) (place : ℕ)
    → (1 ≤ place → place ≤ length (chain target) → (step : Step) × (step_at target place ≡ Some step))
    × ((step : Step) → step_at target place ≡ Some step → (1 ≤ place) × (place ≤ length (chain target)))

-- No step has a place beyond the end of the chain.
abbrev pub StepsAreWithin : Type 0
StepsAreWithin = (target : Target) (step : Step) → step_place target step ≤ length (chain target)

-- Where fewer steps are done than the chain has, the next step is at the next place.
abbrev pub NextStepsStand : Type 0
NextStepsStand =
    (target : Target) (done : ℕ) → done < length (chain target)
    → (step : Step) × (step_at target (done + 1) ≡ Some step) × (step_place target step ≡ done + 1)

-- The first step is Create, and no other step is.
abbrev pub CreateIsFirst : Type 0
CreateIsFirst =
    (target : Target) (place : ℕ)
    → ((step_at target place ≡ Some Create) → (place ≡ 1))
    × ((place ≡ 1) → (step_at target place ≡ Some Create))

-- A chain with a Revoke is that of a target that is revoked.
abbrev pub RevokesAreOfTheRevoked : Type 0
RevokesAreOfTheRevoked =
    (target : Target) (place : ℕ) → step_at target place ≡ Some Revoke → is_revoked target ≡ true

-- There are as many states on the way as steps.
abbrev pub StatesAreAsMany : Type 0
StatesAreAsMany = (target : Target) → length (states target) ≡ length (chain target)

-- There is a state after each number of steps from 1 to the length of the chain, and after no other.
abbrev pub StatesStandFromOne : Type 0
StatesStandFromOne =
    (target : Target) (steps : ℕ)
    → (1 ≤ steps → steps ≤ length (chain target) → (state : KeyState) × (state_after target steps ≡ Some state))
    × ((state : KeyState) → state_after target steps ≡ Some state → (1 ≤ steps) × (steps ≤ length (chain target)))

-- The place of a state, by its number, is from 1 to the length of the chain.
abbrev pub PlacesAreWithin : Type 0
PlacesAreWithin =
    (target : Target) (number place : ℕ) → place_of target number ≡ Some place
    → (1 ≤ place) × (place ≤ length (chain target))

-- No state has come further than the end of the chain.
abbrev pub ReachedIsWithin : Type 0
ReachedIsWithin = (target : Target) (state : KeyState) → place_reached target state ≤ length (chain target)

-- A key that is Pre-Active has come one step.
abbrev pub PreActiveIsFirst : Type 0
PreActiveIsFirst = (target : Target) → place_reached target PreActive ≡ 1

-- A step after Create is due for a key that was made where all steps before it were done. Such a step has no
-- row of the lifecycle from the key's state, or it is the next step and leads to the next place.
abbrev pub DueStepsAdvance : Type 0
DueStepsAdvance =
    (target : Target) (old : KeyState) (step : Step) → 1 < step_place target step
    → step_place target step ≤ place_reached target old + 1 → 1 ≤ place_reached target old
    → MatchOption (after old step) (Unit {0}) (λ new.
    (step_place target step ≡ place_reached target old + 1)
    × (place_reached target new ≡ place_reached target old + 1))

-- For a key that was made, the next step of its chain has a row of the lifecycle from the key's state.
abbrev pub NextStepsAreRows : Type 0
NextStepsAreRows =
    (target : Target) (old : KeyState) (step : Step) → 1 < step_place target step
    → step_place target step ≡ place_reached target old + 1 → 1 ≤ place_reached target old
    → after old step ≢ None

-- A step that is due, where the lifecycle has it, is the one after the steps that were done.
abbrev pub DueStepsJoinTheDone : Type 0
DueStepsJoinTheDone =
    (target : Target) (old new : KeyState) (step : Step) → 1 < step_place target step
    → step_place target step ≤ place_reached target old + 1 → 1 ≤ place_reached target old
    → after old step ≡ Some new
    → take (place_reached target new) (chain target) ≡ take (place_reached target old) (chain target) ++ step ∷ []

-- A way leads on to itself.
abbrev pub WaysLeadToThemselves : Type 0
WaysLeadToThemselves = (target : Target) → LeadsOn target target

-- A way that leads on to a second, which leads on to a third, leads on to the third.
abbrev pub WaysLeadOnAgain : Type 0
WaysLeadOnAgain = (first next last : Target) → LeadsOn first next → LeadsOn next last → LeadsOn first last

-- The further way has no fewer steps.
abbrev pub FurtherWaysAreNoShorter : Type 0
FurtherWaysAreNoShorter = (target further : Target) → LeadsOn target further → length (chain target) ≤ length (chain further)

-- The step at a place of the way is the step at that place of the further way.
abbrev pub StepsStandOnward : Type 0
StepsStandOnward =
    (target further : Target) (place : ℕ) (step : Step) → LeadsOn target further
    → step_at target place ≡ Some step → step_at further place ≡ Some step

-- A step that is on the way has the same place on the further way.
abbrev pub StepsKeepTheirPlaces : Type 0
StepsKeepTheirPlaces =
    (target further : Target) (step : Step) → LeadsOn target further → 1 ≤ step_place target step
    → step_place further step ≡ step_place target step

-- The state after a number of steps of the way is the state after that number of the further way.
abbrev pub StatesStandOnward : Type 0
StatesStandOnward =
    (target further : Target) (steps : ℕ) (state : KeyState) → LeadsOn target further
    → state_after target steps ≡ Some state → state_after further steps ≡ Some state

-- A state that is on the way, by its number, has the same place on the further way.
abbrev pub StatesKeepTheirPlaces : Type 0
StatesKeepTheirPlaces =
    (target further : Target) (number place : ℕ) → LeadsOn target further
    → place_of target number ≡ Some place → place_of further number ≡ Some place

-- No state has come less far on the further way: one that the way does not come through may be on it.
abbrev pub ReachedIsNoLess : Type 0
ReachedIsNoLess =
    (target further : Target) (state : KeyState) → LeadsOn target further
    → place_reached target state ≤ place_reached further state

-- Where a Revoke is on the way, one is on the further way.
abbrev pub RevokesStay : Type 0
RevokesStay = (target further : Target) → LeadsOn target further → is_revoked target ≡ true → is_revoked further ≡ true

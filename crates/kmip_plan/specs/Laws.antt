-- What holds of the keys of every plan, and of a plan that takes over from another.
-- Source: own (law): each is proved of all keys and plans.
use Rattle.std.specs.Prelude.{◌≡◌, ◌≢◌, ◌≤◌, ◌<◌, ◌+◌, ℕ, suc, true, false, List, [], ◌∷◌, ◌++◌, length, take, Some, None, MatchOption}
use Rattle.std.specs.List.{slice_get}
use Rattle.kmip_objects.specs.Lifecycle.{after}
use Rattle.kmip_objects.specs.Ranges.{is_compromise}
use Rattle.kmip_objects.specs.States.{state_number}
use Rattle.kmip_objects.specs.declared.key_state.KeyState.{KeyState}
use Rattle.kmip_objects.specs.declared.key_state.KeyState.TheVariants.{PreActive}
use Rattle.kmip_objects.specs.declared.step.Step.{Step}
use Rattle.kmip_objects.specs.declared.step.Step.TheVariants.{Create, Revoke}
use Rattle.kmip_plan.specs.declared.key.Key.{Key}
use Rattle.kmip_plan.specs.declared.target.Target.{Target}
use Rattle.kmip_plan.specs.Chains.{chain, states, step_at, state_after, moved_by, place_of, place_reached, step_place, is_revoked, key_bound, bound}
use Rattle.kmip_plan.specs.Plans.{IsLawful, EachFits, key_fits, key_named, IsPlanned}
use Rattle.kmip_plan.specs.Chains.{LeadsOn}
use Rattle.kmip_plan.specs.ChainLaws.{
  WaysLeadToThemselves,
  WaysLeadOnAgain,
  PlacesAndSteps,
  StepsStandFromOne,
  StepsAreWithin,
  NextStepsStand,
  CreateIsFirst,
  RevokesAreOfTheRevoked,
  StatesAreAsMany,
  StatesStandFromOne,
  PlacesAreWithin,
  ReachedIsWithin,
  PreActiveIsFirst,
  DueStepsAdvance,
  NextStepsAreRows,
  DueStepsJoinTheDone,
  FurtherWaysAreNoShorter,
  StepsStandOnward,
  StepsKeepTheirPlaces,
  StatesStandOnward,
  StatesKeepTheirPlaces,
  ReachedIsNoLess,
  RevokesStay,
}
use Rattle.kmip_plan.specs.Prolonging.{GoesOn, Prolongs}
use Rattle.kmip_plan.specs.TargetWords.{target_word, target_of_word}

-- A key at a place of a lawful plan is found by its name.
abbrev pub KeysAreFound : Type 0
KeysAreFound =
    (keys : List Key) (place : ℕ) (key : Key) → IsLawful keys → slice_get keys place ≡ Some key
    → IsPlanned keys key

-- A key that is found has the name, and is at a place of the list.
abbrev pub FoundKeysStand : Type 0
FoundKeysStand =
    (keys : List Key) (name : List ℕ) (key : Key) → key_named name keys ≡ Some key
    → (key.attrs.name ≡ name) × ((place : ℕ) × (slice_get keys place ≡ Some key))

-- The keys of a lawful plan at two places have two names.
abbrev pub NamesAreDistinct : Type 0
NamesAreDistinct =
    (keys : List Key) (i j : ℕ) (key other : Key) → IsLawful keys
    → slice_get keys i ≡ Some key → slice_get keys j ≡ Some other
    → key.attrs.name ≡ other.attrs.name → i ≡ j

-- Each key of a lawful plan has its values in their ranges.
abbrev pub KeysFit : Type 0
KeysFit = (keys : List Key) → IsLawful keys → EachFits keys

-- A key whose values are in their ranges is not revoked for a compromise.
abbrev pub ReasonsAreNoCompromise : Type 0
ReasonsAreNoCompromise = (key : Key) → key_fits key ≡ true → is_compromise key.reason ≡ false

-- The bound of no keys is 0, and with one key more in front it is the bound of that key more.
abbrev pub BoundsAddUp : Type 0
BoundsAddUp =
    (bound [] ≡ 0) × ((key : Key) (keys : List Key) → bound (key ∷ keys) ≡ key_bound key + bound keys)

-- A key goes on from itself.
abbrev pub KeysGoOnFromThemselves : Type 0
KeysGoOnFromThemselves = (key : Key) → GoesOn key key

-- A key that goes on from a second, which goes on from a third, goes on from the third.
abbrev pub KeysGoOnAgain : Type 0
KeysGoOnAgain = (first next last : Key) → GoesOn next first → GoesOn last next → GoesOn last first

-- A plan prolongs itself.
abbrev pub PlansProlongThemselves : Type 0
PlansProlongThemselves = (keys : List Key) → Prolongs keys keys

-- A plan that prolongs a second, which prolongs a third, prolongs the third.
abbrev pub PlansProlongAgain : Type 0
PlansProlongAgain = (first next last : List Key) → Prolongs next first → Prolongs last next → Prolongs last first

-- Each key of the old plan goes on in the key that the new plan has at its place.
abbrev pub OldKeysStand : Type 0
OldKeysStand =
    (new old : List Key) (place : ℕ) (key : Key) → Prolongs new old → slice_get old place ≡ Some key
    → (newer : Key) × (slice_get new place ≡ Some newer) × GoesOn newer key

-- A key that the old plan has under its name goes on in the key that a lawful new plan has under that name.
abbrev pub OldKeysAreFound : Type 0
OldKeysAreFound =
    (new old : List Key) (key : Key) → IsLawful new → Prolongs new old → IsPlanned old key
    → (newer : Key) × IsPlanned new newer × (newer.attrs.name ≡ key.attrs.name) × GoesOn newer key

-- The new plan has no fewer keys.
abbrev pub NewPlansAreNoShorter : Type 0
NewPlansAreNoShorter = (new old : List Key) → Prolongs new old → length old ≤ length new

-- What holds of the keys and the chains of all plans, as the crates above need it.
pub record PlanLaws : Type 0 where
  pub found : KeysAreFound
  pub stand : FoundKeysStand
  pub distinct : NamesAreDistinct
  pub fit : KeysFit
  pub reasons : ReasonsAreNoCompromise
  pub bounds : BoundsAddUp
  pub way_itself : WaysLeadToThemselves
  pub way_again : WaysLeadOnAgain
  pub key_itself : KeysGoOnFromThemselves
  pub key_again : KeysGoOnAgain
  pub plan_itself : PlansProlongThemselves
  pub plan_again : PlansProlongAgain
  pub old_stand : OldKeysStand
  pub old_found : OldKeysAreFound
  pub no_shorter : NewPlansAreNoShorter
  pub places : PlacesAndSteps
  pub steps_stand : StepsStandFromOne
  pub steps_within : StepsAreWithin
  pub next_step : NextStepsStand
  pub create : CreateIsFirst
  pub revoke : RevokesAreOfTheRevoked
  pub states_as_many : StatesAreAsMany
  pub states_stand : StatesStandFromOne
  pub places_within : PlacesAreWithin
  pub reached : ReachedIsWithin
  pub first : PreActiveIsFirst
  pub advance : DueStepsAdvance
  pub row : NextStepsAreRows
  pub join : DueStepsJoinTheDone
  pub ways_no_shorter : FurtherWaysAreNoShorter
  pub steps_onward : StepsStandOnward
  pub step_places : StepsKeepTheirPlaces
  pub states_onward : StatesStandOnward
  pub state_places : StatesKeepTheirPlaces
  pub no_less : ReachedIsNoLess
  pub revokes_stay : RevokesStay

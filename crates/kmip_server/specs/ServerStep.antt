-- The step of the server: what it may answer a question over its objects, and the objects after it, a rule
-- for each case.
-- Source: KMIP 2.1, Operations; Object Attributes, State. Which reason answers which refusal is own (choice),
-- and that a compromise is refused.
use Rattle.std.specs.Prelude.{◌≡◌, ℕ, ◌<◌, ◌≤◌, ℤ, List, [], ◌∷◌, ◌++◌, length, Option, Some, None, IsTrue, IsSome, if◌then◌else◌}
use Rattle.kmip_objects.specs.Lifecycle.{after}
use Rattle.kmip_objects.specs.Objects.{Object, object_named, object_with, all_restated}
use Rattle.kmip_objects.specs.Ranges.{is_compromise, is_identifier}
use Rattle.kmip_batch_items.specs.declared.outcome.Outcome.{Outcome}
use Rattle.kmip_batch_items.specs.declared.outcome.Outcome.TheVariants.{Created, Located, Attributes, Activated, Revoked, Destroyed, Failed}
use Rattle.kmip_batch_items.specs.declared.ask.Ask.{Ask}
use Rattle.kmip_batch_items.specs.declared.ask.Ask.TheVariants.{Create, Locate, GetAttributes, Activate, Revoke, Destroy}
use Rattle.kmip_objects.specs.declared.attrs.Attrs.{Attrs}
use Rattle.kmip_objects.specs.declared.key_attrs.KeyAttrs.{KeyAttrs}
use Rattle.kmip_batch_items.specs.declared.standard.TheConstants.{
  REASON_FEATURE_NOT_SUPPORTED,
  REASON_ITEM_NOT_FOUND,
  REASON_NON_UNIQUE_NAME,
  REASON_SERVER_FULL,
  REASON_WRONG_STATE,
}
use Rattle.kmip_objects.specs.declared.key_state.KeyState.{KeyState}
use Rattle.kmip_objects.specs.declared.key_state.KeyState.TheVariants.{PreActive}
use Rattle.kmip_objects.specs.declared.step.Step.{Step}
use Rattle.kmip_objects.specs.declared.step.Step.TheVariants as steps
use Rattle.kmip_store.specs.Locating.{locate}
use Rattle.kmip_objects.specs.Attributes.{attributes_of}

-- the step that a question asks of an object, and the object's identifier; a Revoke for a compromise asks
-- none
abbrev pub step_asked : Ask → Option (Step × List ℕ)
step_asked (Activate uid) = Some (steps.Activate, uid)
step_asked (Revoke uid code) = if is_compromise code then None else Some (steps.Revoke, uid)
step_asked (Destroy uid) = Some (steps.Destroy, uid)
step_asked ask = None

-- the outcome of a step that succeeds
abbrev pub success_of : Step → List ℕ → Outcome
success_of steps.Create uid = Created uid
success_of steps.Activate uid = Activated uid
success_of steps.Revoke uid = Revoked uid
success_of steps.Destroy uid = Destroyed uid

-- Over these objects the question may have this outcome, and leave these objects.
pub data ServerStep (room : ℕ) (objects : List Object) : Ask → Outcome → List Object → Type 0 where
  -- a Create is refused where its name is used
  name_taken : {attrs : KeyAttrs} → IsSome (object_named attrs.name objects)
      → ServerStep room objects (Create attrs) (Failed (Some REASON_NON_UNIQUE_NAME)) objects
  -- a Create under a free name is refused where there is no room
  full : {attrs : KeyAttrs} → object_named attrs.name objects ≡ None → room ≤ length objects
      → ServerStep room objects (Create attrs) (Failed (Some REASON_SERVER_FULL)) objects
  -- else a Create makes an object, with an identifier that is free and in its range
  created : {attrs : KeyAttrs} {uid : List ℕ} → object_named attrs.name objects ≡ None → length objects < room
      → object_with uid objects ≡ None → IsTrue (is_identifier uid)
      → ServerStep room objects (Create attrs) (Created uid) (objects ++ record { uid = uid; attrs = attrs; state = PreActive } ∷ [])
  -- a Locate answers what it finds
  searched : {mask : Option ℤ} {given : Attrs} → ServerStep room objects (Locate mask given) (Located (locate mask given objects)) objects
  -- Get Attributes tells the attributes of an object
  told : {uid : List ℕ} {o : Object} → object_with uid objects ≡ Some o
      → ServerStep room objects (GetAttributes uid) (Attributes uid (attributes_of o)) objects
  -- Get Attributes is refused where no object has the identifier
  unknown : {uid : List ℕ} → object_with uid objects ≡ None
      → ServerStep room objects (GetAttributes uid) (Failed (Some REASON_ITEM_NOT_FOUND)) objects
  -- a Revoke for a compromise is refused
  compromised : {uid : List ℕ} {code : ℕ} → IsTrue (is_compromise code)
      → ServerStep room objects (Revoke uid code) (Failed (Some REASON_FEATURE_NOT_SUPPORTED)) objects
  -- a step is refused where no object has the identifier
  not_found : {ask : Ask} {step : Step} {uid : List ℕ} → step_asked ask ≡ Some (step, uid) → object_with uid objects ≡ None
      → ServerStep room objects ask (Failed (Some REASON_ITEM_NOT_FOUND)) objects
  -- a step is refused where the lifecycle has none in that state
  wrong_state : {ask : Ask} {step : Step} {uid : List ℕ} {o : Object} → step_asked ask ≡ Some (step, uid)
      → object_with uid objects ≡ Some o → after o.state step ≡ None
      → ServerStep room objects ask (Failed (Some REASON_WRONG_STATE)) objects
  -- else a step puts the object in its next state
  done : {ask : Ask} {step : Step} {uid : List ℕ} {o : Object} {state : KeyState} → step_asked ask ≡ Some (step, uid)
      → object_with uid objects ≡ Some o → after o.state step ≡ Some state
      → ServerStep room objects ask (success_of step uid) (all_restated uid state objects)

-- What may be said of a key for good: it was so once, and so it is still.
-- Source: KMIP 2.1, Operations; own (law).
use Rattle.std.specs.Prelude.{◌≡◌, ◌≤◌, ℕ, List, [], ◌∷◌, Option, Some, ⊤}
use Rattle.std.specs.List.{All}
use Rattle.kmip_messages.specs.Items.{replies_in}
use Rattle.kmip_objects.specs.Objects.{Object}
use Rattle.kmip_batch_items.specs.declared.outcome.Outcome.{Outcome}
use Rattle.kmip_batch_items.specs.declared.outcome.Outcome.TheVariants.{Created, Located, Attributes, Activated, Revoked, Destroyed, Failed}
use Rattle.kmip_batch_items.specs.declared.reply.Reply.{Reply}
use Rattle.kmip_objects.specs.declared.attrs.Attrs.{Attrs}
use Rattle.kmip_objects.specs.declared.standard.TheConstants.{OBJECT_TYPE_SYMMETRIC_KEY}
use Rattle.kmip_objects.specs.declared.step.Step.{Step}
use Rattle.kmip_objects.specs.declared.step.Step.TheVariants as steps
use Rattle.kmip_plan.specs.Chains.{step_place, place_of}
use Rattle.kmip_plan.specs.Plans.{key_named}
use Rattle.kmip_plan.specs.declared.key.Key.{Key}
use Rattle.kmip_client.specs.Places.{uid_of, position}

-- What Get Attributes told is the plan's, and a state that the object of the key has had.
pub record IsShown (objects : List Object) (key : Key) (shown : Attrs) : Type 0 where
  pub object_type_is : shown.object_type ≡ Some OBJECT_TYPE_SYMMETRIC_KEY
  pub name_is : shown.name ≡ Some key.attrs.name
  pub algorithm_is : shown.algorithm ≡ Some key.attrs.algorithm
  pub length_is : shown.length ≡ Some key.attrs.length
  pub usage_is : shown.usage ≡ Some key.attrs.usage
  pub state : ℕ
  pub state_is : shown.state ≡ Some state
  pub place : ℕ
  pub place_is : place_of key.target state ≡ Some place
  pub had : place ≤ position key objects

-- A step of the key's chain has taken effect on its object, which has this identifier.
pub record StepIsDone (objects : List Object) (key : Key) (step : Step) (uid : List ℕ) : Type 0 where
  pub uid_is : uid_of key objects ≡ Some uid
  pub in_chain : 1 ≤ step_place key.target step
  pub done : step_place key.target step ≤ position key objects

-- What was found is nothing, or the key's object alone.
abbrev pub AreFound : Option (List ℕ) → List (List ℕ) → Type 0
AreFound own [] = ⊤
AreFound own (uid ∷ []) = own ≡ Some uid
AreFound own (uid ∷ other ∷ uids) = ⊥

-- What an outcome says of a key holds for these objects. A failure says nothing.
abbrev pub TrueOutcome : List Object → Key → Outcome → Type 0
TrueOutcome objects key (Created uid) = StepIsDone objects key steps.Create uid
TrueOutcome objects key (Located uids) = AreFound (uid_of key objects) uids
TrueOutcome objects key (Attributes uid shown) = (uid_of key objects ≡ Some uid) × IsShown objects key shown
TrueOutcome objects key (Activated uid) = StepIsDone objects key steps.Activate uid
TrueOutcome objects key (Revoked uid) = StepIsDone objects key steps.Revoke uid
TrueOutcome objects key (Destroyed uid) = StepIsDone objects key steps.Destroy uid
TrueOutcome objects key (Failed reason) = ⊤

-- What a reply says of the key in its id holds; one whose id names no key of the plan says nothing.
abbrev pub TrueReply : List Key → List Object → Reply → Type 0
TrueReply keys objects reply =
    (operation : ℕ) (name : List ℕ) (key : Key) → reply.id ≡ Some (operation ∷ name) → key_named name keys ≡ Some key
    → TrueOutcome objects key reply.outcome

-- Each reply in a message tells the truth about these objects. A reply that shows other attributes than the
-- plan's does not. So where the object of a key's name is not the plan's, nothing is promised of what is
-- known: the key is to come into conflict.
abbrev pub TrueMessage : List Key → List Object → List ℕ → Type 0
TrueMessage keys objects given = All (TrueReply keys objects) (replies_in given)

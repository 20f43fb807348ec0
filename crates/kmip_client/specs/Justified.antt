-- What may be asked of a key for good: as objects go onward, it may be asked still.
-- Source: KMIP 2.1, Operations; own (law).
use Rattle.std.specs.Prelude.{◌≡◌, ◌≤◌, ◌<◌, ◌+◌, ℕ, List, Some}
use Rattle.std.specs.List.{All}
use Rattle.kmip_messages.specs.Items.{requests_in}
use Rattle.kmip_objects.specs.Objects.{Object}
use Rattle.kmip_batch_items.specs.Operations.{operation_of}
use Rattle.kmip_objects.specs.Attributes.{by_name}
use Rattle.kmip_objects.specs.Searching.{every_state}
use Rattle.kmip_batch_items.specs.declared.ask.Ask.{Ask}
use Rattle.kmip_batch_items.specs.declared.ask.Ask.TheVariants.{Create, Locate, GetAttributes, Activate, Revoke, Destroy}
use Rattle.kmip_batch_items.specs.declared.request.Request.{Request}
use Rattle.kmip_objects.specs.declared.step.Step.{Step}
use Rattle.kmip_objects.specs.declared.step.Step.TheVariants as steps
use Rattle.kmip_plan.specs.Chains.{step_place}
use Rattle.kmip_plan.specs.Plans.{IsPlanned}
use Rattle.kmip_plan.specs.declared.key.Key.{Key}
use Rattle.kmip_client.specs.Places.{uid_of, position}
use Rattle.kmip_client.specs.Questions.{id_of}

-- A step of the key's chain after Create may be asked: the identifier is that of its object, and the steps
-- before it are done.
pub record StepIsDue (objects : List Object) (key : Key) (step : Step) (uid : List ℕ) : Type 0 where
  pub uid_is : uid_of key objects ≡ Some uid
  pub in_chain : 1 < step_place key.target step
  pub due : step_place key.target step ≤ position key objects + 1

-- What may be asked of the key. A Create has the attributes of the plan, and a Locate asks for its name in
-- every state. A Get Attributes asks for the identifier of its object. A step of its chain is due, and a
-- Revoke has the reason of the plan.
abbrev pub MayAsk : List Object → Key → Ask → Type 0
MayAsk objects key (Create attrs) = attrs ≡ key.attrs
MayAsk objects key (Locate mask filter) = (mask ≡ Some every_state) × (filter ≡ by_name key.attrs.name)
MayAsk objects key (GetAttributes uid) = uid_of key objects ≡ Some uid
MayAsk objects key (Activate uid) = StepIsDue objects key steps.Activate uid
MayAsk objects key (Revoke uid code) = StepIsDue objects key steps.Revoke uid × (code ≡ key.reason)
MayAsk objects key (Destroy uid) = StepIsDue objects key steps.Destroy uid

-- A request about a key of the plan may be asked. Its id is the operation and the name.
pub record Justified (keys : List Key) (objects : List Object) (request : Request) : Type 0 where
  pub key : Key
  pub is_planned : IsPlanned keys key
  pub id_is : request.id ≡ Some (id_of (operation_of request.ask) key)
  pub may : MayAsk objects key request.ask

-- Each request in a message may be asked.
abbrev pub JustifiedMessage : List Key → List Object → List ℕ → Type 0
JustifiedMessage keys objects sent = All (Justified keys objects) (requests_in sent)

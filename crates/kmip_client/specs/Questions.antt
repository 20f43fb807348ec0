-- What is asked about a key, by its phase.
-- Source: KMIP 2.1, Operations (Create, Locate, Get Attributes, Activate, Revoke, Destroy); when each is
-- asked is own (choice).
use Rattle.std.specs.Prelude.{ℕ, ◌+◌, List, [], ◌∷◌, Option, Some, None}
use Rattle.std.specs.Option.{unwrap_or}
use Rattle.kmip_batch_items.specs.Operations.{operation_of}
use Rattle.kmip_objects.specs.Attributes.{by_name}
use Rattle.kmip_objects.specs.Searching.{every_state}
use Rattle.kmip_batch_items.specs.declared.ask.Ask.{Ask}
use Rattle.kmip_batch_items.specs.declared.ask.Ask.TheVariants as asks
use Rattle.kmip_batch_items.specs.declared.request.Request.{Request}
use Rattle.kmip_objects.specs.declared.step.Step.{Step}
use Rattle.kmip_objects.specs.declared.step.Step.TheVariants.{Create, Activate, Revoke, Destroy}
use Rattle.kmip_plan.specs.Chains.{step_at}
use Rattle.kmip_plan.specs.declared.key.Key.{Key}
use Rattle.kmip_client.specs.declared.knowledge.Knowledge.{Knowledge}
use Rattle.kmip_client.specs.declared.phase.Phase.{Phase}
use Rattle.kmip_client.specs.declared.phase.Phase.TheVariants.{Look, Make, Check, Go}

-- A step of the key on the object with the identifier.
abbrev pub step_ask : Key → List ℕ → Step → Ask
step_ask key uid Create = asks.Create key.attrs
step_ask key uid Activate = asks.Activate uid
step_ask key uid Revoke = asks.Revoke uid key.reason
step_ask key uid Destroy = asks.Destroy uid

-- The next step of the chain; where there is none, a look at the attributes of the object.
abbrev pub next_ask : Key → List ℕ → Option Step → Ask
next_ask key uid None = asks.GetAttributes uid
next_ask key uid (Some step) = step_ask key uid step

-- What a phase asks, with the identifier and the count of steps that are known.
abbrev pub phase_ask : Key → Phase → List ℕ → ℕ → Ask
phase_ask key Look uid done = asks.Locate (Some every_state) (by_name key.attrs.name)
phase_ask key Make uid done = asks.Create key.attrs
phase_ask key Check uid done = asks.GetAttributes uid
phase_ask key Go uid done = next_ask key uid (step_at key.target (done + 1))

-- What is asked about a key, by what is known of it.
abbrev pub ask_about : Key → Knowledge → Ask
ask_about key known = phase_ask key known.phase (unwrap_or known.identifier []) known.done

-- The id of a question: its operation in one byte, and the name of the key. KMIP 2.1, Message Structure,
-- Unique Batch Item ID; what is in it is own (choice).
abbrev pub id_of : ℕ → Key → List ℕ
id_of operation key = operation ∷ key.attrs.name

-- What is asked about a key, with the id of that operation and key.
abbrev pub request_about : Key → Knowledge → Request
request_about key known = record { id = Some (id_of (operation_of (ask_about key known)) key); ask = ask_about key known }

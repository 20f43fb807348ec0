-- The headline: what holds of the server's objects whatever the network did. Open this file first.
-- It is said in the words of these files, each below those that it needs:
--     Past       all that was ever asked, answered and done, and the objects that are there
--     Moves      what may happen next, whatever the network and the server do
--     Exchanges  what an exchange over an honest link does to the past
--     Sound      what holds of the past for the keys of a plan at all times
--     Amid       what an exchange does among other clients of the plan
--     Clean      which exchanges go as they should, and what a link counts of the others
--     Faults     the faults of a link, and how many failures there may be
--     Seen       all that a contract sees of a link, as one value
-- Source: own (law), over KMIP 2.1, Operations.
use Rattle.std.specs.Prelude.{◌≡◌, ◌≤◌, ℕ, nat_eq, List, ◌∷◌, length, filter, take, Option, Some, None}
use Rattle.std.specs.Cmp.Lexicographic.{pointwise}
use Rattle.std.specs.List.{All, Contains}
use Rattle.kmip_objects.specs.Objects.{Object, object_named}
use Rattle.kmip_batch_items.specs.declared.outcome.Outcome.{Outcome}
use Rattle.kmip_batch_items.specs.declared.ask.Ask.{Ask}
use Rattle.kmip_batch_items.specs.declared.ask.Ask.TheVariants as asks
use Rattle.kmip_batch_items.specs.declared.request.Request.{Request}
use Rattle.kmip_objects.specs.declared.step.Step.{Step}
use Rattle.kmip_objects.specs.declared.step.Step.TheVariants.{Create, Activate, Revoke, Destroy}
use Rattle.kmip_plan.specs.Chains.{chain}
use Rattle.kmip_plan.specs.Plans.{IsPlanned}
use Rattle.kmip_plan.specs.declared.key.Key.{Key}
use Rattle.kmip_client.specs.Places.{position}
use Rattle.kmip_server.specs.ServerStep.{ServerStep}
use Rattle.kmip_server.specs.declared.effect.Effect.{Effect}
use Rattle.kmip_protocol.specs.Past.{Past, steps_on}

-- the step that a request asks, if it asks one
abbrev pub step_of_ask : Ask → Option Step
step_of_ask (asks.Create attrs) = Some Create
step_of_ask (asks.Locate mask filter) = None
step_of_ask (asks.GetAttributes uid) = None
step_of_ask (asks.Activate uid) = Some Activate
step_of_ask (asks.Revoke uid code) = Some Revoke
step_of_ask (asks.Destroy uid) = Some Destroy

-- the objects with the name
abbrev pub all_named : List ℕ → List Object → List Object
all_named name objects = filter (λ o. pointwise nat_eq name o.attrs.name) objects

-- a request that comes again after its step took effect changes no object, whichever way the server answers
-- it
abbrev pub AgainChangesNothing : Past → Type 0
AgainChangesNothing p =
    (request : Request) (operation : ℕ) (name : List ℕ) (step : Step) (outcome : Outcome) (objects : List Object)
    → Contains p.requests request → request.id ≡ Some (operation ∷ name) → step_of_ask request.ask ≡ Some step
    → Contains (steps_on name p.effects) step → ServerStep p.room p.objects request.ask outcome objects → objects ≡ p.objects

-- The headline. Each planned name is on at most one object, with the plan's attributes. What took effect on
-- it is the first steps of its chain, each once and in order, and every step reported done is among these.
-- And nothing changes when a request comes again whose step took effect.
pub record Safe (keys : List Key) (p : Past) (reported : List Effect) : Type 0 where
  -- each planned name is on at most one object
  pub one_object : (key : Key) → IsPlanned keys key → length (all_named key.attrs.name p.objects) ≤ 1
  -- with the attributes of the plan
  pub attrs : (key : Key) (o : Object) → IsPlanned keys key → object_named key.attrs.name p.objects ≡ Some o → o.attrs ≡ key.attrs
  -- what took effect on it is the first steps of its chain, each once and in order
  pub effects : (key : Key) → IsPlanned keys key → steps_on key.attrs.name p.effects ≡ take (position key p.objects) (chain key.target)
  -- every step that was reported done is among it
  pub reported_true : All (λ (effect : Effect). Contains (steps_on effect.name p.effects) effect.step) reported
  -- a request that comes again after its step took effect changes no object
  pub again : AgainChangesNothing p

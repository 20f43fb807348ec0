-- What has happened between a client and its server: all that was ever asked, answered, done and handed over,
-- and the objects that are there now. Messages are held as the single requests and replies in them.
-- Source: own (view), over KMIP 2.1, Operations. `steps_on`, `step_between` and `change`: KMIP 2.1, Object
-- Attributes, State.
use Rattle.std.specs.Prelude.{◌≡◌, ℕ, nat_eq, Bool, true, List, [], ◌∷◌, Option, Some, None, if◌then◌else◌}
use Rattle.std.specs.Cmp.Lexicographic.{pointwise}
use Rattle.std.specs.Option.{is_some}
use Rattle.kmip_objects.specs.Objects.{Object}
use Rattle.kmip_batch_items.specs.declared.reply.Reply.{Reply}
use Rattle.kmip_batch_items.specs.declared.request.Request.{Request}
use Rattle.kmip_objects.specs.declared.key_state.KeyState.{KeyState}
use Rattle.kmip_objects.specs.declared.key_state.KeyState.TheVariants as states
use Rattle.kmip_objects.specs.declared.step.Step.{Step}
use Rattle.kmip_objects.specs.declared.step.Step.TheVariants.{Create, Activate, Revoke, Destroy}
use Rattle.kmip_plan.specs.Plans.{key_named}
use Rattle.kmip_plan.specs.declared.key.Key.{Key}
use Rattle.kmip_server.specs.declared.effect.Effect.{Effect}

-- All that has happened between a client and its server so far.
pub record Past : Type 0 where
  -- how many objects there may be, and those that there are
  pub room : ℕ
  pub objects : List Object
  -- each request ever asked, and each reply ever given
  pub requests : List Request
  pub replies : List Reply
  -- what took effect, in order
  pub effects : List Effect
  -- the bytes that each exchange sent, and what it handed over: bytes, or none for a loss
  pub sent : List (List ℕ)
  pub handed : List (Option (List ℕ))

-- some names, as a test
abbrev pub Names : Type 0
Names = List ℕ → Bool

-- the names that a plan has
abbrev pub is_planned : List Key → Names
is_planned keys name = is_some (key_named name keys)

-- each name of the first is one of the second
abbrev pub AreAmong : Names → Names → Type 0
AreAmong fewer names = (name : List ℕ) → fewer name ≡ true → names name ≡ true

-- the steps that took effect on the object with the name, in order
abbrev pub steps_on : List ℕ → List Effect → List Step
steps_on name [] = []
steps_on name (effect ∷ effects) = if pointwise nat_eq name effect.name then effect.step ∷ steps_on name effects else steps_on name effects

-- the step that leads from the one state to the other; none where they are equal, or no step does
abbrev pub step_between : KeyState → KeyState → Option Step
step_between states.PreActive states.Active = Some Activate
step_between states.PreActive states.Destroyed = Some Destroy
step_between states.Active states.Deactivated = Some Revoke
step_between states.Deactivated states.Destroyed = Some Destroy
step_between old new = None

-- the step that the object of a name has had between two looks at it
abbrev pub change : Option Object → Option Object → Option Step
change None None = None
change None (Some new) = Some Create
change (Some old) None = None
change (Some old) (Some new) = step_between old.state new.state

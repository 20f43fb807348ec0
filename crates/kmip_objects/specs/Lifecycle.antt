-- The lifecycle of an object: which step leads from which state to which.
-- Source: KMIP 2.1, Object Attributes, State. Own (choice): the steps that a compromise takes are left out.
use Rattle.std.specs.Prelude.{ℕ, List, codes, Option, Some, None}
use Rattle.kmip_objects.specs.declared.key_state.KeyState.{KeyState}
use Rattle.kmip_objects.specs.declared.key_state.KeyState.TheVariants.{PreActive, Active, Deactivated, Destroyed}
use Rattle.kmip_objects.specs.declared.step.Step.{Step}
use Rattle.kmip_objects.specs.declared.step.Step.TheVariants.{Create, Activate, Revoke, Destroy}

-- The state after a step, in the four rows of the lifecycle. There is none in any other case.
abbrev pub after : KeyState → Step → Option KeyState
after PreActive Activate = Some Active
after Active Revoke = Some Deactivated
after PreActive Destroy = Some Destroyed
after Deactivated Destroy = Some Destroyed
after state step = None

-- the name of a step, as it is printed
abbrev pub step_word : Step → List ℕ
step_word Create = codes "Create"
step_word Activate = codes "Activate"
step_word Revoke = codes "Revoke"
step_word Destroy = codes "Destroy"

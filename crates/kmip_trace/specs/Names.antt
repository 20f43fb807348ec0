-- The names of operations and of states, as they are printed.
-- Source: KMIP 2.1, Operations, and Object Attributes, State; that a name is one word is own.
use Rattle.std.specs.Prelude.{ℕ, ◌==◌, List, [], ◌∷◌, codes, Option, option_map, find}
use Rattle.kmip_objects.specs.States.{state_number}
use Rattle.kmip_batch_items.specs.declared.operation.Operation.{Operation}
use Rattle.kmip_batch_items.specs.declared.operation.Operation.TheVariants as operations
use Rattle.kmip_batch_items.specs.Operations.{operation_with}
use Rattle.kmip_objects.specs.declared.key_state.KeyState.{KeyState}
use Rattle.kmip_objects.specs.declared.key_state.KeyState.TheVariants as states

-- the name of an operation
abbrev pub operation_word : Operation → List ℕ
operation_word operations.Create = codes "Create"
operation_word operations.Locate = codes "Locate"
operation_word operations.GetAttributes = codes "GetAttributes"
operation_word operations.Activate = codes "Activate"
operation_word operations.Revoke = codes "Revoke"
operation_word operations.Destroy = codes "Destroy"

-- the name of the operation of a number; none where the profile has no such operation
abbrev pub number_word : ℕ → Option (List ℕ)
number_word number = option_map operation_word (operation_with number)

-- the standard's name of a state
abbrev pub state_word : KeyState → List ℕ
state_word states.PreActive = codes "PreActive"
state_word states.Active = codes "Active"
state_word states.Deactivated = codes "Deactivated"
state_word states.Compromised = codes "Compromised"
state_word states.Destroyed = codes "Destroyed"
state_word states.DestroyedCompromised = codes "DestroyedCompromised"

-- all the states that a key can be in
abbrev pub all_states : List KeyState
all_states =
    states.PreActive ∷ states.Active ∷ states.Deactivated ∷ states.Compromised ∷ states.Destroyed ∷ states.DestroyedCompromised ∷ []

-- the state of a number; none where no state has it
abbrev pub state_of : ℕ → Option KeyState
state_of number = find (λ state. state_number state == number) all_states

-- The operations of the profile, and their numbers.
-- Source: KMIP 2.1, Operations, and Enumerations, Operation.
use Rattle.std.specs.Prelude.{ℕ, ◌==◌, List, [], ◌∷◌, Option, find}
use Rattle.kmip_batch_items.specs.declared.operation.Operation.{Operation}
use Rattle.kmip_batch_items.specs.declared.operation.Operation.TheVariants as operations
use Rattle.kmip_batch_items.specs.declared.ask.Ask.{Ask}
use Rattle.kmip_batch_items.specs.declared.ask.Ask.TheVariants.{Create, Locate, GetAttributes, Activate, Revoke, Destroy}
use Rattle.kmip_batch_items.specs.declared.standard.TheConstants.{
  OPERATION_CREATE,
  OPERATION_LOCATE,
  OPERATION_GET_ATTRIBUTES,
  OPERATION_ACTIVATE,
  OPERATION_REVOKE,
  OPERATION_DESTROY,
}

-- the number of an operation
abbrev pub operation_number : Operation → ℕ
operation_number operations.Create = OPERATION_CREATE
operation_number operations.Locate = OPERATION_LOCATE
operation_number operations.GetAttributes = OPERATION_GET_ATTRIBUTES
operation_number operations.Activate = OPERATION_ACTIVATE
operation_number operations.Revoke = OPERATION_REVOKE
operation_number operations.Destroy = OPERATION_DESTROY

-- all operations of the profile
abbrev pub all_operations : List Operation
all_operations =
    operations.Create ∷ operations.Locate ∷ operations.GetAttributes ∷ operations.Activate ∷ operations.Revoke ∷ operations.Destroy ∷ []

-- the operation of a number; none where the profile has no such operation
abbrev pub operation_with : ℕ → Option Operation
operation_with number = find (λ operation. number == operation_number operation) all_operations

-- the operation that is asked
abbrev pub ask_operation : Ask → Operation
ask_operation (Create attrs) = operations.Create
ask_operation (Locate mask filter) = operations.Locate
ask_operation (GetAttributes uid) = operations.GetAttributes
ask_operation (Activate uid) = operations.Activate
ask_operation (Revoke uid code) = operations.Revoke
ask_operation (Destroy uid) = operations.Destroy

-- the number of the operation that is asked
abbrev pub operation_of : Ask → ℕ
operation_of ask = operation_number (ask_operation ask)

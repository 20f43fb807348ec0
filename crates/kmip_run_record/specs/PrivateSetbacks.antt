-- Private: which setback of a key is left after an answer.
-- Source: own (choice).
use Rattle.std.specs.Prelude.{◌==◌, Option, Some, None, if◌then◌else◌}
use Rattle.kmip_batch_items.specs.Operations.{operation_number}
use Rattle.kmip_batch_items.specs.declared.operation.Operation.{Operation}
use Rattle.kmip_run_record.specs.declared.setback.Setback.{Setback}
use Rattle.kmip_run_record.specs.declared.setback.Setback.TheVariants.{Refused, Lost}

-- The setback that is left after an answer to an operation. A refusal ends with an answer to the operation that was
-- refused, and a loss with any answer.
abbrev pub left_by : Operation → Setback → Option Setback
left_by answered (Refused operation reason) =
    if operation_number operation == operation_number answered then None else Some (Refused operation reason)
left_by answered (Lost operation) = None

-- Private: what an exchange makes of a story.
-- Source: own (choice).
use Rattle.std.specs.Prelude.{Option, Some, None}
use Rattle.std.specs.Option.{option_and_then}
use Rattle.kmip_batch_items.specs.declared.operation.Operation.{Operation}
use Rattle.kmip_batch_items.specs.declared.outcome.Outcome.{Outcome}
use Rattle.kmip_batch_items.specs.declared.outcome.Outcome.TheVariants.{Failed}
use Rattle.kmip_run_record.specs.PrivateCounts.{counting}
use Rattle.kmip_run_record.specs.PrivateSetbacks.{left_by}
use Rattle.kmip_run_record.specs.declared.counts.Counts.{Counts}
use Rattle.kmip_run_record.specs.declared.setback.Setback.{Setback}
use Rattle.kmip_run_record.specs.declared.setback.Setback.TheVariants.{Refused, Lost}

-- The refusals, once this came of an operation.
abbrev pub refusals_after : Operation → Option Outcome → Counts → Counts
refusals_after operation (Some (Failed reason)) counts = counting operation counts
refusals_after operation outcome counts = counts

-- The questions without an answer, once this came of an operation.
abbrev pub losses_after : Operation → Option Outcome → Counts → Counts
losses_after operation None counts = counting operation counts
losses_after operation outcome counts = counts

-- The last setback, once this came of an operation.
abbrev pub setback_after : Operation → Option Outcome → Option Setback → Option Setback
setback_after operation None setback = Some (Lost operation)
setback_after operation (Some (Failed reason)) setback = Some (Refused operation reason)
setback_after operation outcome setback = option_and_then (left_by operation) setback

-- What was answered last, once this came of an operation. A refusal is no answer.
abbrev pub answered_after : Operation → Option Outcome → Option Operation → Option Operation
answered_after operation None answered = answered
answered_after operation (Some (Failed reason)) answered = answered
answered_after operation outcome answered = Some operation

-- What the server answers a question, and what its records are after it.
-- Source: KMIP 2.1, Message Structure; Operations. Which reason answers which refusal is own (choice), and
-- that a compromise is refused.
use Rattle.std.specs.Prelude.{ℕ, List, length, Option, Some, None, Result, Ok, Err, if◌then◌else◌}
use Rattle.kmip_objects.specs.Attributes.{attributes_of}
use Rattle.kmip_batch_items.specs.Operations.{operation_of}
use Rattle.kmip_objects.specs.Ranges.{is_compromise}
use Rattle.kmip_batch_items.specs.declared.refusal.Refusal.{Refusal}
use Rattle.kmip_batch_items.specs.declared.outcome.Outcome.{Outcome}
use Rattle.kmip_batch_items.specs.declared.outcome.Outcome.TheVariants.{Created, Located, Attributes, Activated, Revoked, Destroyed, Failed}
use Rattle.kmip_batch_items.specs.declared.reply.Reply.{Reply}
use Rattle.kmip_batch_items.specs.declared.ask.Ask.{Ask}
use Rattle.kmip_batch_items.specs.declared.ask.Ask.TheVariants.{Create, Locate, GetAttributes, Activate, Revoke, Destroy}
use Rattle.kmip_batch_items.specs.declared.request.Request.{Request}
use Rattle.kmip_batch_items.specs.declared.standard.TheConstants.{REASON_FEATURE_NOT_SUPPORTED}
use Rattle.kmip_objects.specs.declared.step.Step.TheVariants as steps
use Rattle.kmip_store.specs.declared.store_fault.StoreFault.{StoreFault}
use Rattle.kmip_store.specs.declared.store_fault.StoreFault.TheVariants.{NotFound}
use Rattle.kmip_store.specs.declared.row.Row.{Row}
use Rattle.kmip_store.specs.Stock.{Stock, create, identifier_at, object_of, objects_of}
use Rattle.kmip_store.specs.Stepping.{row_with, take_step}
use Rattle.kmip_store.specs.Locating.{locate}
use Rattle.kmip_server.specs.Reasons.{message_reason, store_reason}

-- what Get Attributes tells of a row, where there is one
abbrev pub attributes_outcome : List ℕ → Option Row → Outcome
attributes_outcome uid None = Failed (store_reason NotFound)
attributes_outcome uid (Some row) = Attributes uid (attributes_of (object_of row))

-- the outcome of a change, and the records after it: as they were where it is refused
abbrev pub outcome_of_change : Outcome → Stock → Result Stock StoreFault → Outcome × Stock
outcome_of_change success s (Ok new) = (success, new)
outcome_of_change success s (Err fault) = (Failed (store_reason fault), s)

-- the outcome of an operation, and the records after it
abbrev pub answer : Stock → Ask → Outcome × Stock
answer s (Create attrs) = outcome_of_change (Created (identifier_at (length s.rows))) s (create attrs s)
answer s (Locate mask given) = (Located (locate mask given (objects_of s.rows)), s)
answer s (GetAttributes uid) = (attributes_outcome uid (row_with uid s.rows), s)
answer s (Activate uid) = outcome_of_change (Activated uid) s (take_step steps.Activate uid s)
answer s (Revoke uid code) =
    if is_compromise code then (Failed (Some REASON_FEATURE_NOT_SUPPORTED), s) else outcome_of_change (Revoked uid) s (take_step steps.Revoke uid s)
answer s (Destroy uid) = outcome_of_change (Destroyed uid) s (take_step steps.Destroy uid s)

-- the reply to a question that is no request: the reason of its first fault, and what could be read of it
abbrev pub refusal_reply : Refusal → Reply
refusal_reply refusal = record { operation = refusal.operation; id = refusal.id; outcome = Failed (message_reason refusal.fault) }

-- the reply to a request, or to a question that is none
abbrev pub reply_to : Stock → Result Request Refusal → Reply
reply_to s (Ok request) = record { operation = Some (operation_of request.ask); id = request.id; outcome = (answer s request.ask).0 }
reply_to s (Err refusal) = refusal_reply refusal

-- the records after a question, a request or one that is none
abbrev pub stock_after_read : Stock → Result Request Refusal → Stock
stock_after_read s (Ok request) = (answer s request.ask).1
stock_after_read s (Err refusal) = s

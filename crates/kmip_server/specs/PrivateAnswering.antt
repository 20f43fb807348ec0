-- Private: the reply that is being made, in the clauses of the functions that make it.
-- Source: own (view).
use Rattle.std.specs.Prelude.{◌≡◌, ℕ, ℤ, List, length, Some, Result, Ok, Err, IfOk, OnErr, if◌then◌else◌}
use Rattle.kmip_ttlv.specs.Spelling.{canon}
use Rattle.kmip_batch_items.specs.declared.outcome.Outcome.{Outcome}
use Rattle.kmip_batch_items.specs.declared.reply.Reply.{Reply}
use Rattle.kmip_objects.specs.Ranges.{is_compromise}
use Rattle.kmip_batch_items.specs.Operations.{operation_of}
use Rattle.kmip_batch_items.specs.declared.outcome.Outcome.TheVariants.{Created, Activated, Revoked, Destroyed, Failed}
use Rattle.kmip_batch_items.specs.declared.ask.Ask.{Ask}
use Rattle.kmip_batch_items.specs.declared.ask.Ask.TheVariants as asks
use Rattle.kmip_batch_items.specs.declared.request.Request.{Request}
use Rattle.kmip_batch_items.specs.declared.standard.TheConstants.{REASON_FEATURE_NOT_SUPPORTED}
use Rattle.kmip_store.specs.declared.store_fault.StoreFault.{StoreFault}
use Rattle.kmip_store.specs.Stock.{Stock, identifier_at}
use Rattle.kmip_messages.specs.Items.{replies_in}
use Rattle.kmip_messages.specs.Written.{replies_item}
use Rattle.kmip_server.specs.Reasons.{store_reason}
use Rattle.kmip_server.specs.Serving.{answer}

-- the outcome of a question where the change that it asks for is made
abbrev pub promised_outcome : Stock → Ask → Outcome
promised_outcome s (asks.Create attrs) = Created (identifier_at (length s.rows))
promised_outcome s (asks.Activate uid) = Activated uid
promised_outcome s (asks.Revoke uid code) = if is_compromise code then Failed (Some REASON_FEATURE_NOT_SUPPORTED) else Revoked uid
promised_outcome s (asks.Destroy uid) = Destroyed uid
promised_outcome s ask = (answer s ask).0

-- the outcome once the change was made, or refused
abbrev pub outcome_then : {A : Type 0} → Result A StoreFault → Outcome → Outcome
outcome_then (Ok done) promised = promised
outcome_then (Err fault) promised = Failed (store_reason fault)

-- the reply to a request with this outcome
abbrev pub reply_with : Request → Outcome → Reply
reply_with request outcome = record { operation = Some (operation_of request.ask); id = request.id; outcome = outcome }

-- the bytes are the message of these replies, at a time in seconds since the start of 1970
pub record Tells (bytes : List ℕ) (replies : List Reply) (now : ℤ) : Type 0 where
  pub bytes_are : bytes ≡ canon (replies_item replies now)
  pub says : replies_in bytes ≡ replies

-- The change that a question asks for, if it asks for one, is made, or refused for this reason.
pub record CarriesOut {A : Type 0} (done : Result A StoreFault) (ask : Ask) (old new : Stock) : Type 0 where
  -- the promised outcome, or the failure that the refusal is, is what the server answers
  pub outcome : outcome_then done (promised_outcome old ask) ≡ (answer old ask).0
  -- the records are those that the question leaves
  pub after : new ≡ (answer old ask).1
  -- a refusal leaves them as they were
  pub refused : OnErr done (new ≡ old)

-- The change that a question asks for is made or refused. Where memory runs out nothing is.
pub record ChangesRecords {A E : Type 0} (result : Result (Result A StoreFault) E) (ask : Ask) (old new : Stock) : Type 0 where
  -- it is made, or refused for this reason
  pub done : IfOk result (λ done. CarriesOut done ask old new)
  -- where there is no memory the records are as they were
  pub same : OnErr result (new ≡ old)

-- The Result Reason that answers each fault.
-- Source: KMIP 2.1, Enumerations, Result Reason; which reason answers which fault is own (choice).
use Rattle.std.specs.Prelude.{ℕ, Option, Some, None}
use Rattle.kmip_batch_items.specs.declared.message_fault.MessageFault.{MessageFault}
use Rattle.kmip_batch_items.specs.declared.message_fault.MessageFault.TheVariants.{
  Ttlv,
  NotMessage,
  Version,
  BatchCount,
  Missing,
  Twice,
  WrongType,
  OutOfRange,
  UnknownOperation,
  NoMemory,
  Undo,
}
use Rattle.kmip_batch_items.specs.declared.standard.TheConstants.{
  REASON_INVALID_MESSAGE,
  REASON_OPERATION_NOT_SUPPORTED,
  REASON_FEATURE_NOT_SUPPORTED,
  REASON_MISSING_DATA,
  REASON_INVALID_FIELD,
  REASON_ITEM_NOT_FOUND,
  REASON_NON_UNIQUE_NAME,
  REASON_WRONG_STATE,
  REASON_SERVER_FULL,
}
use Rattle.kmip_store.specs.declared.store_fault.StoreFault.{StoreFault}
use Rattle.kmip_store.specs.declared.store_fault.StoreFault.TheVariants as store

-- the reason that answers a fault of a message; none answers want of memory
abbrev pub message_reason : MessageFault → Option ℕ
message_reason (Ttlv fault) = Some REASON_INVALID_MESSAGE
message_reason NotMessage = Some REASON_INVALID_MESSAGE
message_reason Version = Some REASON_INVALID_MESSAGE
message_reason BatchCount = Some REASON_INVALID_MESSAGE
message_reason (Missing tag) = Some REASON_MISSING_DATA
message_reason (Twice tag) = Some REASON_INVALID_FIELD
message_reason (WrongType tag) = Some REASON_INVALID_FIELD
message_reason (OutOfRange tag) = Some REASON_INVALID_FIELD
message_reason UnknownOperation = Some REASON_OPERATION_NOT_SUPPORTED
message_reason NoMemory = None
message_reason Undo = Some REASON_FEATURE_NOT_SUPPORTED

-- the reason that answers a refusal of the store; none answers want of memory
abbrev pub store_reason : StoreFault → Option ℕ
store_reason store.NotFound = Some REASON_ITEM_NOT_FOUND
store_reason store.SameName = Some REASON_NON_UNIQUE_NAME
store_reason store.WrongState = Some REASON_WRONG_STATE
store_reason store.Full = Some REASON_SERVER_FULL
store_reason store.NoMemory = None

-- What some bytes ask and say, as lists.
-- Source: KMIP 2.1, Message Structure and Batch Error Continuation Option. Own (choice): a message that is
-- refused whole counts as one question. Own (law): what is said of reading and saying.
use Rattle.std.specs.Prelude.{◌≡◌, ℕ, Bool, true, false, not, ◌==◌, List, [], ◌∷◌, Option, None, Result, Ok, Err}
use Rattle.std.specs.List.{filter_map}
use Rattle.std.specs.Option.{option_map_or}
use Rattle.std.specs.Result.{result_ok}
use Rattle.kmip_batch_items.specs.declared.message_fault.MessageFault.{MessageFault}
use Rattle.kmip_batch_items.specs.declared.refusal.Refusal.{Refusal}
use Rattle.kmip_batch_items.specs.declared.reply.Reply.{Reply}
use Rattle.kmip_batch_items.specs.declared.request.Request.{Request}
use Rattle.kmip_batch_items.specs.declared.standard.TheConstants.{CONTINUE}
use Rattle.kmip_batch_items.specs.BatchItems.{Question}
use Rattle.kmip_messages.specs.declared.batch.Batch.{Batch}
use Rattle.kmip_messages.specs.Batches.{batch_read, replies_read}

-- ---- asked

-- the refusal of a message as a whole, which carries nothing of it
abbrev pub refusal_of : MessageFault → Refusal
refusal_of fault = record { fault = fault; operation = None; id = None }

-- the questions that were read; of a message that is refused whole, its refusal alone
abbrev pub parts_of : Result Batch MessageFault → List Question
parts_of (Ok batch) = batch.items
parts_of (Err fault) = Err (refusal_of fault) ∷ []

-- What the bytes ask: the questions in them, in their order, each a request or why it is refused.
unfoldable pub parts_in : List ℕ → List Question
parts_in bytes = parts_of (batch_read bytes)

-- Whether the questions after the first failure are left: so it is but with the option Continue.
abbrev pub stops_with : Option ℕ → Bool
stops_with option = not (option_map_or (λ o. o == CONTINUE) option false)

-- whether they are left, of what was read; where a message is refused whole they are
abbrev pub stops_of : Result Batch MessageFault → Bool
stops_of (Ok batch) = stops_with batch.option
stops_of (Err fault) = true

-- whether the questions in the bytes are left that stand after the first failure
unfoldable pub stops_in : List ℕ → Bool
stops_in bytes = stops_of (batch_read bytes)

-- the requests in the bytes, in their order: the questions without those that are refused
unfoldable pub requests_in : List ℕ → List Request
requests_in bytes = filter_map result_ok (parts_in bytes)

-- ---- said

-- the replies that were read; none where the message is refused
abbrev pub replies_of : Result (List Reply) MessageFault → List Reply
replies_of (Ok replies) = replies
replies_of (Err fault) = []

-- What the bytes say: the replies in them, in their order. There are none where the bytes are no message of
-- replies.
unfoldable pub replies_in : List ℕ → List Reply
replies_in bytes = replies_of (replies_read bytes)

-- Bytes say the replies that are read of them.
abbrev pub ReadAreSaid : Type 0
ReadAreSaid = (bytes : List ℕ) (replies : List Reply) → replies_read bytes ≡ Ok replies → replies_in bytes ≡ replies

-- Bytes that say some replies, one or more, are read as these.
abbrev pub SaidAreRead : Type 0
SaidAreRead =
    (bytes : List ℕ) (reply : Reply) (replies : List Reply) → replies_in bytes ≡ reply ∷ replies
    → replies_read bytes ≡ Ok (reply ∷ replies)

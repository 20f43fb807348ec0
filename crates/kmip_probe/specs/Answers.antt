-- What came of a question of a probe.
-- Source: KMIP 2.1, Message Structure (Operation, Unique Batch Item ID), and Message Data, Result Status.
-- What a reply without the id of a question says is own (choice); `outcome_in`, `located_in`, `unread_in`,
-- `uids_in`, `uids_told` and `IsLawful` are own (view).
use Rattle.std.specs.Prelude.{ℕ, nat_eq, Bool, true, false, List, [], ◌∷◌, slice_get, Option, Some, None, Result, Ok, Err, IsTrue, if◌then◌else◌}
use Rattle.std.specs.Cmp.Lexicographic.{pointwise}
use Rattle.std.specs.List.{All}
use Rattle.std.specs.Option.{option_map_or}
use Rattle.kmip_batch_items.specs.declared.outcome.Outcome.{Outcome}
use Rattle.kmip_batch_items.specs.declared.outcome.Outcome.TheVariants.{Created, Located, Attributes, Activated, Revoked, Destroyed, Failed}
use Rattle.kmip_batch_items.specs.declared.reply.Reply.{Reply}
use Rattle.kmip_messages.specs.Batches.{replies_read}
use Rattle.kmip_batch_items.specs.declared.message_fault.MessageFault.{MessageFault}
use Rattle.kmip_objects.specs.Ranges.{is_identifier}
use Rattle.kmip_probe.specs.declared.answer.Answer.{Answer}
use Rattle.kmip_probe.specs.declared.answer.Answer.TheVariants.{Nothing, Told, Unmarked, Unreadable}
use Rattle.kmip_probe.specs.declared.unread.Unread.{Unread}
use Rattle.kmip_probe.specs.Unreadable.{version_in}
use Rattle.kmip_probe.specs.declared.inquiry.TheConstants.{INQUIRIES}
use Rattle.kmip_probe.specs.declared.kind.Kind.{Kind}
use Rattle.kmip_probe.specs.declared.kind.Kind.TheVariants.{Locate, Create, GetAttributes, Activate, Revoke, Destroy}

-- the id of the question of a number: the number in one byte, and the prefix
abbrev pub marker_of : ℕ → List ℕ → List ℕ
marker_of number prefix = number ∷ prefix

-- the id is that of some question of the probe
abbrev pub is_marker : List ℕ → List ℕ → Bool
is_marker prefix [] = false
is_marker prefix (number ∷ rest) = pointwise nat_eq prefix rest

-- an outcome whose reply has the id of no question: a refusal is passed over
abbrev pub unmarked : Outcome → Answer
unmarked (Failed reason) = Nothing
unmarked outcome = Unmarked outcome

-- An outcome whose reply has no id: a refusal answers the question, as it may leave that out.
abbrev pub without_id : Outcome → Answer
without_id (Failed reason) = Told (Failed reason)
without_id outcome = Unmarked outcome

-- What an outcome says of the question of a number: one with its id answers it, and one with the id of
-- another question is late.
abbrev pub answer_marked : ℕ → List ℕ → Option (List ℕ) → Outcome → Answer
answer_marked number prefix None outcome = without_id outcome
answer_marked number prefix (Some id) outcome =
    if pointwise nat_eq (marker_of number prefix) id then Told outcome
    else (if is_marker prefix id then Nothing else unmarked outcome)

-- the outcome is a refusal, or the success of the operation that such a question asks for
abbrev pub is_of : Kind → Outcome → Bool
is_of kind (Failed reason) = true
is_of (Locate mask) (Located uids) = true
is_of Create (Created uid) = true
is_of GetAttributes (Attributes uid attrs) = true
is_of Activate (Activated uid) = true
is_of Revoke (Revoked uid) = true
is_of Destroy (Destroyed uid) = true
is_of kind outcome = false

-- the outcome is a refusal, or the success of the operation that the question of this number asks for
abbrev pub is_asked_for : ℕ → Outcome → Bool
is_asked_for number outcome = option_map_or (λ inquiry. is_of inquiry.1 outcome) (slice_get INQUIRIES number) false

-- What a reply says of the question of a number: the success of another operation than it asks for says
-- nothing.
abbrev pub answer_with : ℕ → List ℕ → Option (List ℕ) → Outcome → Answer
answer_with number prefix id outcome = if is_asked_for number outcome then answer_marked number prefix id outcome else Nothing

-- What the replies of a message say of the question of a number. A message asks one question, and so any
-- other number of replies says nothing.
abbrev pub answer_in : ℕ → List ℕ → List Reply → Answer
answer_in number prefix [] = Nothing
answer_in number prefix (reply ∷ []) = answer_with number prefix reply.id reply.outcome
answer_in number prefix (reply ∷ second ∷ others) = Nothing

-- what bytes say of the question that are read so: a message that can't be read says why, and which version
-- it has
abbrev pub answer_read : ℕ → List ℕ → List ℕ → Result (List Reply) MessageFault → Answer
answer_read number prefix given (Ok replies) = answer_in number prefix replies
answer_read number prefix given (Err fault) = Unreadable (record { fault = fault; version = version_in given })

-- What was handed over says of the question of a number: a reply with its id answers it, and one with the id
-- of another question is late. A refusal may leave the id out. A success without the id of any question is
-- kept as such. A message of several replies says nothing, and so does a loss. One that can't be read says
-- why.
abbrev pub answer_to : ℕ → List ℕ → Option (List ℕ) → Answer
answer_to number prefix None = Nothing
answer_to number prefix (Some given) = answer_read number prefix given (replies_read given)

-- the outcome of a question, where there is one
abbrev pub outcome_in : Answer → Option Outcome
outcome_in Nothing = None
outcome_in (Told outcome) = Some outcome
outcome_in (Unmarked outcome) = Some outcome
outcome_in (Unreadable unread) = None

-- the identifiers that a Locate found, where the outcome is that of one
abbrev pub located_in : Option Outcome → Option (List (List ℕ))
located_in (Some (Located uids)) = Some uids
located_in outcome = None

-- why the reply can't be read, where one came that can't
abbrev pub unread_in : Answer → Option Unread
unread_in (Unreadable unread) = Some unread
unread_in answer = None

-- the identifiers that an outcome gives the name that was asked about
abbrev pub uids_in : Option Outcome → List (List ℕ)
uids_in (Some (Created uid)) = uid ∷ []
uids_in (Some (Located uids)) = uids
uids_in outcome = []

-- the identifiers that an answer gives the name that was asked about
abbrev pub uids_told : Answer → List (List ℕ)
uids_told answer = uids_in (outcome_in answer)

-- The identifiers that an answer tells are in their range.
abbrev pub IsLawful : Answer → Type 0
IsLawful answer = All (λ uid. IsTrue (is_identifier uid)) (uids_told answer)

-- What a probe asks next, and what its answers are.
-- Source: own (choice), over KMIP 2.1, Operations; what says which messages and answers there were is own
-- (view).
use Rattle.std.specs.Prelude.{◌≡◌, ◌==◌, ℕ, ◌+◌, ◌<◌, Bool, true, false, ◌&&◌, List, [], ◌∷◌, ◌++◌, ◌-◌, length, replicate, take, drop, flat_map, slice_get, Option, Some, None, option_map, option_and_then, option_to_list, if◌then◌else◌}
use Rattle.std.specs.Option.{option_map_or}
use Rattle.kmip_ttlv.specs.Spelling.{canon}
use Rattle.kmip_messages.specs.Written.{requests_item}
use Rattle.kmip_batch_items.specs.declared.outcome.Outcome.{Outcome}
use Rattle.kmip_batch_items.specs.declared.request.Request.{Request}
use Rattle.kmip_probe.specs.Answers.{answer_to, located_in, marker_of, outcome_in, uids_told}
use Rattle.kmip_probe.specs.Inquiries.{ask_of, most_sends, name_of}
use Rattle.kmip_probe.specs.declared.answer.Answer.{Answer}
use Rattle.kmip_probe.specs.declared.answer.Answer.TheVariants.{Nothing}
use Rattle.kmip_probe.specs.declared.inquiry.TheConstants.{INQUIRIES, LOOK_FIRST, LOOK_SECOND, CREATE_FIRST, READ_ATTRIBUTES, CREATE_SECOND, ACTIVATE_SECOND}
use Rattle.kmip_probe.specs.declared.inquiry.Inquiry.{Inquiry}
use Rattle.kmip_probe.specs.declared.which.Which.{Which}
use Rattle.kmip_probe.specs.declared.which.Which.TheVariants.{First, Second}

-- a Locate has found nothing
abbrev pub finds_none : Option Outcome → Bool
finds_none outcome = option_map_or (λ uids. length uids == 0) (located_in outcome) false

-- the answer is a Locate that has found nothing
abbrev pub is_free : Answer → Bool
is_free answer = finds_none (outcome_in answer)

-- the answer at a place leaves a name free: it is a Locate that has found nothing, or there is none yet
abbrev pub is_free_at : List Answer → ℕ → Bool
is_free_at answers place = option_map_or is_free (slice_get answers place) true

-- The next question: none after the last one, and none after the first two where a name is there, or it could
-- not be told.
abbrev pub next_inquiry : List Answer → Option Inquiry
next_inquiry answers = if is_free_at answers LOOK_FIRST && is_free_at answers LOOK_SECOND then slice_get INQUIRIES (length answers) else None

-- the answers of the questions from one place on and before another
abbrev pub part : ℕ → ℕ → List Answer → List Answer
part from to answers = take (to - from) (drop from answers)

-- the identifiers that answers give a name: the first name before its object is destroyed, the second where
-- its object is made
abbrev pub uids_of : Which → List Answer → List (List ℕ)
uids_of First answers = flat_map uids_told (part CREATE_FIRST READ_ATTRIBUTES answers)
uids_of Second answers = flat_map uids_told (part CREATE_SECOND ACTIVATE_SECOND answers)

-- the identifier that the answers give a name first; it is taken for the name's own
abbrev pub uid_of : Which → List Answer → Option (List ℕ)
uid_of which answers = slice_get (uids_of which answers) 0

-- a question as it is asked after these answers, with the id of its number
abbrev pub request_for : List ℕ → List Answer → Inquiry → Option Request
request_for prefix answers inquiry = option_map
    (λ ask. record { id = Some (marker_of (length answers) prefix); ask = ask })
    (ask_of inquiry.1 (name_of inquiry.0 prefix) (uid_of inquiry.0 answers))

-- the message that is sent next, of one question; none where the question can't be asked
abbrev pub message_after : List ℕ → List Answer → Option (List ℕ)
message_after prefix answers =
    option_map (λ request. canon (requests_item (request ∷ []))) (option_and_then (request_for prefix answers) (next_inquiry answers))

-- all that is sent for some answers after the answers before, if nothing is sent twice
abbrev pub messages_from : List ℕ → List Answer → List Answer → List (List ℕ)
messages_from prefix before [] = []
messages_from prefix before (answer ∷ answers) =
    option_to_list (message_after prefix before) ++ messages_from prefix (before ++ answer ∷ []) answers

-- The most times that the message that is sent next is sent.
abbrev pub sends_after : List Answer → ℕ
sends_after answers = option_map_or (λ inquiry. most_sends inquiry.1) (next_inquiry answers) 1

-- A message was put over a link, and this was handed over for it at last. It was sent again after each loss,
-- up to `most` times in all. It was given up only after all of these.
pub record IsPut (most : ℕ) (message : List ℕ) (given : Option (List ℕ)) (sent : List (List ℕ)) (handed : List (Option (List ℕ))) : Type 0 where
  pub losses : ℕ
  pub few : losses < most
  pub copies : sent ≡ replicate (losses + 1) message
  pub lost : handed ≡ replicate losses None ++ given ∷ []
  pub given_up : given ≡ None → losses + 1 ≡ most

-- One more answer, with what was sent for it and what was handed over: what came at last says it. If no
-- message is sent, there is no answer.
abbrev pub IsNext : List ℕ → List Answer → Option (List ℕ) → Answer → List (List ℕ) → List (Option (List ℕ)) → Type 0
IsNext prefix before None answer sent handed = (answer ≡ Nothing) × (sent ≡ []) × (handed ≡ [])
IsNext prefix before (Some message) answer sent handed =
    (given : Option (List ℕ)) × IsPut (sends_after before) message given sent handed × (answer ≡ answer_to (length before) prefix given)

-- These messages were sent for the answers in turn, after the answers before, and this was handed over.
abbrev pub AreAnswers : List ℕ → List Answer → List Answer → List (List ℕ) → List (Option (List ℕ)) → Type 0
AreAnswers prefix before [] sent handed = (sent ≡ []) × (handed ≡ [])
AreAnswers prefix before (answer ∷ answers) sent handed =
    (own : List (List ℕ)) × (left : List (List ℕ)) × (given : List (Option (List ℕ))) × (rest : List (Option (List ℕ)))
    × (sent ≡ own ++ left) × (handed ≡ given ++ rest) × IsNext prefix before (message_after prefix before) answer own given
    × AreAnswers prefix (before ++ answer ∷ []) answers left rest

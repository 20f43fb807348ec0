-- What holds of the lists of what some bytes ask and say.
-- Source: own (law): what the laws of questions and answers say.
use Rattle.std.specs.Prelude.{◌≡◌, ◌↔◌, ℕ, ℤ, List, [], ◌∷◌, length, map, Option, Ok, IsTrue}
use Rattle.std.specs.List.{All, filter_map}
use Rattle.std.specs.Result.{result_ok}
use Rattle.kmip_ttlv.specs.Fitting.{IsBytes, IsInRange}
use Rattle.kmip_ttlv.specs.Node.{Node}
use Rattle.kmip_ttlv.specs.Spelling.{canon, Spells}
use Rattle.kmip_batch_items.specs.declared.reply.Reply.{Reply}
use Rattle.kmip_batch_items.specs.declared.request.Request.{Request}
use Rattle.kmip_batch_items.specs.BatchItems.{answer_fits}
use Rattle.kmip_messages.specs.Batches.{IsBatch, AreReplies}
use Rattle.kmip_messages.specs.Items.{parts_in, requests_in, replies_in, ReadAreSaid, SaidAreRead}
use Rattle.kmip_messages.specs.Members.{may_have}
use Rattle.kmip_messages.specs.Ranges.{QuestionFits}
use Rattle.kmip_messages.specs.Written.{requests_item, requests_fit, replies_item, replies_fit}

-- Requests, one or more, are asked, and nothing beside them, by just the bytes that spell them, with whatever
-- option.
abbrev pub RequestsAreSpelled : Type 0
RequestsAreSpelled =
    (bytes : List ℕ) (r : Request) (rest : List Request) → IsBytes bytes
    → (parts_in bytes ≡ map Ok (r ∷ rest)) ↔ ((n : Node) × Spells n bytes × ((option : Option ℕ) × IsBatch (record { option = option; items = map Ok (r ∷ rest) }) n))

-- The written form of requests asks them, where they are one to eight and in their ranges, and so is their
-- item.
abbrev pub WrittenAreAsked : Type 0
WrittenAreAsked =
    (rs : List Request) → IsTrue (requests_fit rs) → IsInRange (requests_item rs) → requests_in (canon (requests_item rs)) ≡ rs

-- Each reply that some bytes say is in its ranges.
abbrev pub RepliesFit : Type 0
RepliesFit = (bytes : List ℕ) → All (λ r. IsTrue (answer_fits r)) (replies_in bytes)

-- Replies, one or more, are said by just the bytes that spell them.
abbrev pub RepliesAreSpelled : Type 0
RepliesAreSpelled =
    (bytes : List ℕ) (r : Reply) (rest : List Reply) → IsBytes bytes
    → (replies_in bytes ≡ r ∷ rest) ↔ ((n : Node) × Spells n bytes × AreReplies (r ∷ rest) n)

-- The written form of replies, at any time, says them, where they can be written together and their item is
-- in range.
abbrev pub WrittenAreSaid : Type 0
WrittenAreSaid =
    (rs : List Reply) (now : ℤ) → IsTrue (replies_fit rs) → IsInRange (replies_item rs now) → replies_in (canon (replies_item rs now)) ≡ rs

-- Bytes that ask a request say no reply.
abbrev pub RequestsAreNoReplies : Type 0
RequestsAreNoReplies = (bytes : List ℕ) (r : Request) (rest : List Request) → requests_in bytes ≡ r ∷ rest → replies_in bytes ≡ []

-- What holds of all that bytes ask and say.
pub record MessageLaws : Type 0 where
  -- Any bytes have one to eight questions, where a message that is refused whole counts as one.
  pub few_questions : (bytes : List ℕ) → IsTrue (may_have (length (parts_in bytes)))
  -- Each request is in its ranges, and so is a Unique Batch Item ID that a refusal carries.
  pub questions_fit : (bytes : List ℕ) → All QuestionFits (parts_in bytes)
  -- The requests are those of the questions that are no refusals, in their order.
  pub requests : (bytes : List ℕ) → requests_in bytes ≡ filter_map result_ok (parts_in bytes)
  pub requests_spelled : RequestsAreSpelled
  pub written_asked : WrittenAreAsked
  pub said : ReadAreSaid
  pub read : SaidAreRead
  pub replies_fit : RepliesFit
  pub replies_spelled : RepliesAreSpelled
  pub written_said : WrittenAreSaid
  pub one_kind : RequestsAreNoReplies

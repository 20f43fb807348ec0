-- One Batch Item of a message: the question of a request and the answer of a reply, by what its items say.
-- Source: KMIP 2.1, Message Structure, Batch Item. Own (choice): what is refused, what a refusal carries, and
-- the ranges. Own (order): which fault is the first.
use Rattle.std.specs.Prelude.{◌≡◌, ℕ, Bool, true, ◌&&◌, List, Option, Some, Result, Ok, Err}
use Rattle.std.specs.Option.{option_map, option_map_or}
use Rattle.kmip_ttlv.specs.Binding.{◌>>=◌}
use Rattle.kmip_ttlv.specs.Node.{Node, node, enumeration}
use Rattle.kmip_batch_items.specs.declared.message_fault.MessageFault.{MessageFault}
use Rattle.kmip_batch_items.specs.Formats.{inside}
use Rattle.kmip_batch_items.specs.Occurrences.{Once, AtMostOnce}
use Rattle.kmip_batch_items.specs.declared.refusal.Refusal.{Refusal}
use Rattle.kmip_batch_items.specs.declared.ask.Ask.{Ask}
use Rattle.kmip_batch_items.specs.declared.request.Request.{Request}
use Rattle.kmip_batch_items.specs.declared.reply.Reply.{Reply}
use Rattle.kmip_batch_items.specs.declared.standard.TheConstants.{TAG_BATCH_ITEM, TAG_OPERATION}
use Rattle.kmip_batch_items.specs.Fits.{outcome_fits}
use Rattle.kmip_batch_items.specs.Marks.{IsMarked}
use Rattle.kmip_batch_items.specs.Ranges.{is_batch_id}
use Rattle.kmip_batch_items.specs.Replies.{IsOutcome}
use Rattle.kmip_batch_items.specs.ReplyFormats.{answered_format}
use Rattle.kmip_batch_items.specs.RequestFormats.{known_format, asked_format, item_format}
use Rattle.kmip_batch_items.specs.Requests.{IsAsk}

-- a question: what is asked, or why it is refused
abbrev pub Question : Type 0
Question = Result Request Refusal

-- ---- read

-- The question whose Operation and Unique Batch Item ID are known, by what is read after them. A refusal
-- carries both, and the fault.
abbrev pub question : ℕ × Option (List ℕ) → Result Ask MessageFault → Question
question known (Ok ask) = Ok (record { id = known.1; ask = ask })
question known (Err fault) = Err (record { fault = fault; operation = Some known.0; id = known.1 })

-- The question in a Batch Item. Where its Operation or its Unique Batch Item ID is unlawful there is none,
-- and the fault is theirs.
unfoldable pub question_at : List Node → Result Question MessageFault
question_at batch = do
  known ← known_format.read batch
  Ok (question known ((asked_format known.0).read batch))

-- ---- what it says

-- A question is refused. Its Operation and its Unique Batch Item ID are lawful, and the refusal carries both.
-- Its fault is the first one after them.
pub record IsRefused (batch : List Node) (refusal : Refusal) : Type 0 where
  pub operation : ℕ
  pub stands : Once TAG_OPERATION (enumeration operation) batch
  pub mark : IsMarked batch refusal.id
  pub carries : refusal.operation ≡ Some operation
  pub breaks : (asked_format operation).read batch ≡ Err refusal.fault

-- The items of a Batch Item of a request are this question: a request, or one that is refused.
abbrev pub IsQuestion : List Node → Question → Type 0
IsQuestion batch (Ok request) = IsMarked batch request.id × IsAsk batch request.ask
IsQuestion batch (Err refusal) = IsRefused batch refusal

-- The items of a Batch Item of a reply are this reply.
pub record IsAnswer (batch : List Node) (reply : Reply) : Type 0 where
  pub operation : AtMostOnce TAG_OPERATION (option_map enumeration reply.operation) batch
  pub id : IsMarked batch reply.id
  pub outcome : IsOutcome batch reply.operation reply.outcome

-- ---- written

-- the written Batch Item of a request, by its format
abbrev pub question_item : Request → Node
question_item r = node TAG_BATCH_ITEM (inside (item_format.write r))

-- the written Batch Item of a reply, by its format
abbrev pub answer_item : Reply → Node
answer_item r = node TAG_BATCH_ITEM (inside (answered_format.write r))

-- whether the values of a reply are in their ranges, whatever its length, and a success stands under its own
-- operation
abbrev pub answer_fits : Reply → Bool
answer_fits r = option_map_or is_batch_id r.id true && outcome_fits r.operation r.outcome

-- For kmip_messages, as proofs/BatchItemLaws: how deep and how long the Batch Items of a message are, over which it goes by induction.
use Rattle.std.proofs.Common.{◌≡◌, ℕ, ◌+◌, ◌≤◌, true, IsTrue, arith}
use Rattle.std.specs.Option.{option_map_or}
use Rattle.std.proofs.lemmas.Bool.{and_parts}
use Rattle.kmip_ttlv.specs.Fitting.{HasWholeGroups, depth}
use Rattle.kmip_ttlv.specs.Sizes.{size}
use Rattle.kmip_batch_items.specs.declared.reply.Reply.{Reply}
use Rattle.kmip_batch_items.specs.declared.ask.Ask.{Ask}
use Rattle.kmip_batch_items.specs.declared.request.Request.{Request}
use Rattle.kmip_batch_items.specs.BatchItems.{question_item, answer_item, answer_fits}
use Rattle.kmip_batch_items.specs.Fits.{outcome_fits}
use Rattle.kmip_batch_items.specs.Private.{IsBrief, number_size}
use Rattle.kmip_batch_items.specs.MessageSizes.{IsCapped}
use Rattle.kmip_batch_items.specs.Operations.{ask_operation, operation_of}
use Rattle.kmip_batch_items.specs.Parts.{id_format}
use Rattle.kmip_batch_items.specs.Ranges.{is_batch_id}
use Rattle.kmip_batch_items.specs.ReplyFormats.{outcome_format, answered_format}
use Rattle.kmip_batch_items.specs.RequestFits.{ask_fits, request_fits}
use Rattle.kmip_batch_items.specs.RequestFormats.{known_format, asked_format, item_format}
use Rattle.kmip_batch_items.proofs.ReplyLaws.{answered-good}
use Rattle.kmip_batch_items.proofs.RequestLaws.{number_with, item-good}
use Rattle.kmip_batch_items.proofs.WrittenLemmas.{IsWithin, ask_within, brief_bound, id_bound, number_bound, outcome_depth}

-- ---- a question in its ranges

asked_within : (a : Ask) → ask_fits a ≡ true → IsWithin 408 5 ((asked_format (operation_of a)).extent a)
unfolding asked_format
asked_within a fits = rw (number_with (ask_operation a)) (omega (arith, ask_within a fits))

question_within : (r : Request) → request_fits r ≡ true → IsWithin 567 5 (item_format.extent r)
unfolding item_format known_format id_format
question_within r fits =
    let parts = and_parts (option_map_or is_batch_id r.id true) (ask_fits r.ask) fits in
    omega (arith, id_bound r.id parts.0, asked_within r.ask parts.1)

pub question_depth : (r : Request) → request_fits r ≡ true → depth (question_item r) ≤ 6
question_depth r fits = omega (arith, (item-good.spans r).deep, (question_within r fits).1)

pub question_groups : (r : Request) → HasWholeGroups (question_item r)
question_groups r = (item-good.spans r).groups

pub question_size : (r : Request) → request_fits r ≡ true → size (question_item r) ≤ 575
question_size r fits = omega (arith, (item-good.spans r).long, (question_within r fits).0)

-- ---- an answer

answer_levels : (r : Reply) → (answered_format.extent r).depth ≤ 5
unfolding answered_format id_format
answer_levels r = omega (arith, outcome_depth r.operation r.outcome)

pub answer_depth : (r : Reply) → depth (answer_item r) ≤ 6
answer_depth r = omega (arith, (answered-good.spans r).deep, answer_levels r)

pub answer_groups : (r : Reply) → HasWholeGroups (answer_item r)
answer_groups r = (answered-good.spans r).groups

answer_size : (r : Reply)
    → size (answer_item r) ≡ 8 + (number_size r.operation + (id_format.extent r.id).size + ((outcome_format r.operation).extent r.outcome).size)
unfolding answered_format
answer_size r = omega (arith, (answered-good.spans r).long)

-- its size is the sum of those of its parts
pub answer_capped : (r : Reply) (operation id outcome : ℕ) → operation ≡ number_size r.operation → IsCapped id (id_format.extent r.id).size
    → IsCapped outcome ((outcome_format r.operation).extent r.outcome).size → IsCapped (8 + operation + id + outcome) (size (answer_item r))
answer_capped r operation id outcome is_operation is_id is_outcome =
    let whole = answer_size r in
    (λ short. grind (arith, whole, is_operation, is_id, is_outcome, short), λ long. grind (arith, whole, is_operation, is_id, is_outcome, long))

-- that of a reply in its ranges whose outcome is brief
pub brief_size : (r : Reply) → IsTrue (answer_fits r) → IsBrief r.outcome → size (answer_item r) ≤ 567
brief_size r fits brief =
    let parts = and_parts (option_map_or is_batch_id r.id true) (outcome_fits r.operation r.outcome) fits in
    omega (arith, answer_size r, id_bound r.id parts.0, number_bound r.operation, brief_bound r.operation r.outcome parts.1 brief)

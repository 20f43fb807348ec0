-- For kmip_messages, which goes through the Batch Items of a message by induction, so that no call stands near and no clause
-- serves: what is read of one is what it says, and what is written of a question or an answer says it.
use Rattle.std.proofs.Common.{◌≡◌, ℕ, Bool, true, ◌&&◌, List, Option, Result, Ok, Err, IsTrue, refl, sym, ap, subst, ◌∙◌}
use Rattle.std.specs.Prelude.{IfOk, IfErr}
use Rattle.std.specs.Option.{option_map_or}
use Rattle.kmip_ttlv.specs.Node.{Node, node, enumeration}
use Rattle.kmip_ttlv.specs.Fitting.{IsBytes}
use Rattle.kmip_ttlv.specs.Spelling.{Spells}
use Rattle.kmip_ttlv.proofs.ReadSteps.{Reads, reads-ok, reads-bind, reads-as, err}
use Rattle.kmip_batch_items.specs.declared.message_fault.MessageFault.{MessageFault}
use Rattle.kmip_batch_items.specs.Formats.{inside, structure_of}
use Rattle.kmip_batch_items.specs.PrivateFormatLaws.{IsPart}
use Rattle.kmip_batch_items.specs.Occurrences.{Once}
use Rattle.kmip_batch_items.proofs.FormatParts.{reads}
use Rattle.kmip_batch_items.specs.declared.refusal.Refusal.{Refusal}
use Rattle.kmip_batch_items.specs.declared.ask.Ask.{Ask}
use Rattle.kmip_batch_items.specs.declared.request.Request.{Request}
use Rattle.kmip_batch_items.specs.declared.reply.Reply.{Reply}
use Rattle.kmip_batch_items.specs.declared.standard.TheConstants.{TAG_OPERATION, TAG_PROTOCOL_VERSION}
use Rattle.kmip_batch_items.specs.BatchItems.{Question, question, question_at, IsQuestion, IsAnswer, answer_fits}
use Rattle.kmip_batch_items.specs.Operations.{operation_of}
use Rattle.kmip_batch_items.specs.Parts.{message_at}
use Rattle.kmip_batch_items.specs.Ranges.{is_batch_id}
use Rattle.kmip_batch_items.specs.ReplyFormats.{any_version_parts_format, answered_format}
use Rattle.kmip_batch_items.specs.RequestFits.{request_fits}
use Rattle.kmip_batch_items.specs.RequestFormats.{version_parts_format, known_format, asked_format, item_format}
use Rattle.kmip_batch_items.specs.Requests.{IsVersion}
use Rattle.kmip_batch_items.specs.Whole.{item_in}
use Rattle.kmip_batch_items.proofs.AskedLemmas as asked
use Rattle.kmip_batch_items.proofs.Readers as readers
use Rattle.kmip_batch_items.proofs.Readers.{id_is, is_id}
use Rattle.kmip_batch_items.proofs.ReplyLaws as reply_laws
use Rattle.kmip_batch_items.proofs.ReplyLaws.{answered-good, answer_in_format}
use Rattle.kmip_batch_items.proofs.ReplySaid.{outcome_is, is_outcome}
use Rattle.kmip_batch_items.proofs.RequestLaws as request_laws
use Rattle.kmip_batch_items.proofs.RequestLaws.{known-part, asked-part, asked_is_own, item-good, item_fits}
use Rattle.kmip_batch_items.proofs.RequestSaid as request_said
use Rattle.kmip_batch_items.proofs.RequestSaid.{ask_is, is_ask}
use Rattle.kmip_batch_items.proofs.SaidLemmas.{outcome_in_range}
use Rattle.kmip_batch_items.proofs.WholeLaws as whole

-- ---- messages and their versions

-- the items of a message of this tag
pub message-law : (tag : ℕ) (n : Node) → Reads (message_at tag n) (λ items. n ≡ node tag (inside items))
message-law tag n = readers.reads-message tag n

-- the item that all the bytes are
pub whole-law : (bytes : List ℕ) → IsBytes bytes → Reads (item_in bytes) (λ n. Spells n bytes)
whole-law bytes octets = whole.item_in-law bytes octets

-- the half of it that holds of all numbers
pub whole-complete : (bytes : List ℕ) (n : Node) → Spells n bytes → item_in bytes ≡ Ok n
whole-complete bytes n spells = whole.item_in-complete bytes n spells

-- the Protocol Version of a request, and of a reply
pub version-part : IsPart version_parts_format
version-part = request_laws.version_parts-part

pub any_version-part : IsPart any_version_parts_format
any_version-part = reply_laws.any_version_parts-part

pub version_is : (header : List Node) → (structure_of TAG_PROTOCOL_VERSION version_parts_format).Says header tt → IsVersion header
version_is header says = request_said.version_is header says

pub is_version : (header : List Node) → IsVersion header → (structure_of TAG_PROTOCOL_VERSION version_parts_format).Says header tt
is_version header is = request_said.is_version header is

-- ---- questions

-- what is read behind a head that stands there is the question
read_is : (batch : List Node) (known : ℕ × Option (List ℕ)) (read : Result Ask MessageFault) (q : Question) → known_format.Says batch known
    → (asked_format known.0).read batch ≡ read → question known read ≡ q → IsQuestion batch q
unfolding known_format
read_is batch known (Ok ask) q (operation, id) is same =
    let says = (asked-part known.0).good.sound batch ask is in
    let own = asked_is_own known.0 batch ask says in
    subst (IsQuestion batch) same (
      id_is batch known.1 id,
      ask_is batch ask (subst (λ o. (asked_format o).Says batch ask) (sym own) says) (subst (λ o. Once TAG_OPERATION (enumeration o) batch) (sym own) operation),
    )
read_is batch known (Err fault) q (operation, id) is same =
    subst (IsQuestion batch) same (record { operation = known.0; stands = operation; mark = id_is batch known.1 id; carries = refl; breaks = is })

-- and the question is what is read behind its head
is_read : (batch : List Node) (q : Question) → IsQuestion batch q
    → (known : ℕ × Option (List ℕ)) × known_format.Says batch known × (question known ((asked_format known.0).read batch) ≡ q)
unfolding known_format
is_read batch (Ok r) (mark, ask) = (
  (operation_of r.ask, r.id),
  (ask.operation, is_id batch r.id mark),
  ap (question (operation_of r.ask, r.id)) ((asked-part (operation_of r.ask)).good.complete batch r.ask (is_ask batch r.ask ask)),
)
is_read batch (Err e) is = (
  (is.operation, e.id),
  (is.stands, is_id batch e.id is.mark),
  ap (question (is.operation, e.id)) is.breaks ∙ ap (λ o. err Refusal Request (record { fault = e.fault; operation = o; id = e.id })) (sym is.carries),
)

-- What is read of a Batch Item is the question that it is, and no other is.
pub question-law : (batch : List Node) → Reads (question_at batch) (IsQuestion batch)
unfolding question_at
question-law batch = reads-as (question_at batch) _ (IsQuestion batch)
    (λ q (known, says, same). read_is batch known ((asked_format known.0).read batch) q says refl same)
    (λ q is. is_read batch q is)
    (reads-bind _ _ _ _ (reads known_format known-part.good batch) (λ known. reads-ok _))

item_is : (r : Request) (batch : List Node) → item_format.Says batch r → IsQuestion batch (Ok r)
unfolding item_format known_format
item_is r batch ((operation, id), ask) = (id_is batch r.id id, ask_is batch r.ask ask operation)

-- The written form of a question is that question.
pub question_written : (r : Request) → request_fits r ≡ true → IsQuestion (item_format.write r) (Ok r)
question_written r fits = item_is r (item_format.write r) (item-good.written r (item_fits r fits))

both : (a b : Bool) → a ≡ true → b ≡ true → IsTrue (a && b)
both a b p q = rw (p, q) refl

-- What a Batch Item asks is in its ranges, and so is what its refusal carries.
pub question_in_range : (batch : List Node) (q : Question) → IsQuestion batch q → IfOk q (λ r. IsTrue (request_fits r))
question_in_range batch (Ok r) (mark, ask) = both _ _ mark.in_range (asked.payload_fits r.ask ask.payload ask.says)
question_in_range batch (Err e) is = tt

pub refusal_in_range : (batch : List Node) (q : Question) → IsQuestion batch q → IfErr q (λ e. IsTrue (option_map_or is_batch_id e.id true))
refusal_in_range batch (Ok r) is = tt
refusal_in_range batch (Err e) is = is.mark.in_range

-- ---- answers

answered_is : (batch : List Node) (r : Reply) → answered_format.Says batch r → IsAnswer batch r
unfolding answered_format
answered_is batch r ((operation, id), outcome) =
    record { operation = operation; id = id_is batch r.id id; outcome = outcome_is batch r.operation r.outcome outcome }

is_answered : (batch : List Node) (r : Reply) → IsAnswer batch r → answered_format.Says batch r
unfolding answered_format
is_answered batch r is = ((is.operation, is_id batch r.id is.id), is_outcome batch r.operation r.outcome is.outcome)

-- What is read of a Batch Item is the reply that it is, and no other is.
pub answer-law : (batch : List Node) → Reads (answered_format.read batch) (IsAnswer batch)
answer-law batch = reads-as (answered_format.read batch) (answered_format.Says batch) (IsAnswer batch)
    (λ r says. answered_is batch r says)
    (λ r is. is_answered batch r is)
    (reads answered_format answered-good batch)

-- The written form of a reply is that reply.
pub answer_written : (r : Reply) → answer_fits r ≡ true → IsAnswer (answered_format.write r) r
answer_written r fits = answered_is (answered_format.write r) r (answered-good.written r (answer_in_format r fits))

-- What a Batch Item answers is in its ranges.
pub answer_in_range : (batch : List Node) (r : Reply) → IsAnswer batch r → answer_fits r ≡ true
answer_in_range batch r is = both _ _ is.id.in_range (outcome_in_range batch r.operation r.outcome is.outcome)

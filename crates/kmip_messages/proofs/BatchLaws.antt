-- The questions of a request: what is read of an item is what it says, and the written form of some requests says them.
use Rattle.std.proofs.Common.{◌≡◌, ℕ, ℤ, pos, Bool, true, false, ◌&&◌, not, nat_le, if◌then◌else◌, List, [], ◌∷◌, ◌++◌, map, length, Option, Some, None, Ok, IsTrue, refl, sym, ap, subst, ◌∙◌}
use Rattle.std.specs.List.{list_all}
use Rattle.std.specs.Ordering.{int_eq}
use Rattle.std.proofs.lemmas.Bool.{and_parts}
use Rattle.std.proofs.lemmas.Bool.Decides.{Decides-int_eq}
use Rattle.std.proofs.lemmas.List.{length-map}
use Rattle.kmip_ttlv.specs.Node.{Node, node}
use Rattle.kmip_ttlv.proofs.ReadSteps.{Reads, reads-ok, reads-bind, reads-as}
use Rattle.kmip_batch_items.specs.declared.message_fault.MessageFault.TheVariants.{BatchCount, Undo}
use Rattle.kmip_batch_items.specs.Formats.{inside}
use Rattle.kmip_batch_items.specs.Siblings.{contents}
use Rattle.kmip_batch_items.proofs.FormatParts.{reads}
use Rattle.kmip_batch_items.proofs.ItemReads.{reads-guard}
use Rattle.kmip_batch_items.specs.declared.request.Request.{Request}
use Rattle.kmip_batch_items.specs.declared.standard.TheConstants.{TAG_REQUEST_MESSAGE, TAG_BATCH_ITEM, CONTINUE}
use Rattle.kmip_batch_items.specs.BatchItems.{Question, question_at, question_item, IsQuestion}
use Rattle.kmip_batch_items.specs.RequestFits.{request_fits}
use Rattle.kmip_batch_items.specs.RequestFormats.{version_parts_format, item_format}
use Rattle.kmip_batch_items.proofs.BatchItemLaws.{message-law, question-law, question_written}
use Rattle.kmip_messages.specs.Batches.{is_undo, IsHeader, IsBatch, batch_at}
use Rattle.kmip_messages.specs.Headers.{header_parts_format, header_format, option_format}
use Rattle.kmip_messages.specs.Members.{may_have, is_count, SayEach}
use Rattle.kmip_messages.specs.Written.{option_for, requests_item, batch_of, requests_fit}
use Rattle.kmip_messages.proofs.HeaderLaws.{header-part, header_is, is_header}
use Rattle.kmip_messages.proofs.MemberLemmas.{reads-members_at, say_length, part_stands, items_stand}

both : (a b : Bool) → a ≡ true → b ≡ true → (a && b) ≡ true
both a b p q = rw (p, q) refl

-- a Batch Count that counts so many
pub counts : (count : ℤ) (there here : ℕ) → is_count count there ≡ true → there ≡ here → IsTrue (may_have here) × (count ≡ pos here)
counts count there here counted same =
    let parts = and_parts (may_have there) (int_eq count (pos there)) counted in
    (subst (λ k. IsTrue (may_have k)) same parts.0, (Decides-int_eq count (pos there)).0 parts.1 ∙ ap (λ k. pos k) same)

pub counted : (there here : ℕ) → IsTrue (may_have here) → there ≡ here → is_count (pos here) there ≡ true
counted there here within same =
    both (may_have there) (int_eq (pos here) (pos there)) (subst (λ k. IsTrue (may_have k)) (sym same) within)
    ((Decides-int_eq (pos here) (pos there)).1 (ap (λ k. pos k) (sym same)))

batch_is : (n : Node) (message : List Node) (option : Option ℕ) (count : ℤ) (items : List Question) → n ≡ node TAG_REQUEST_MESSAGE (inside message)
    → header_format.Says message (option, count) → is_count count (length (contents TAG_BATCH_ITEM message)) ≡ true → not (is_undo option) ≡ true
    → SayEach IsQuestion (contents TAG_BATCH_ITEM message) items → IsBatch (record { option = option; items = items }) n
batch_is n message option count items is header all keeps questions =
    let two = counts count (length (contents TAG_BATCH_ITEM message)) (length items) all (say_length IsQuestion _ items questions) in
    record {
      message = message;
      is_message = is;
      header = header_is message option (pos (length items)) (subst (λ z. header_format.Says message (option, z)) two.1 header);
      within = two.0;
      keeps = keeps;
      questions = questions;
    }

-- What is read of an item is the questions that it asks, and of no others.
pub batch-law : (n : Node) → Reads (batch_at n) (λ b. IsBatch b n)
unfolding batch_at
batch-law n = reads-as (batch_at n) _ (λ b. IsBatch b n)
    (λ b (message, is, (header, says, (_, all, (_, keeps, (items, questions, same))))).
    subst (λ x. IsBatch x n) same (batch_is n message header.0 header.1 items is says all keeps questions))
    (λ b p. (
      p.message,
      p.is_message,
      (
        (b.option, pos (length b.items)),
        is_header p.message b.option (pos (length b.items)) p.header,
        (
          tt,
          counted (length (contents TAG_BATCH_ITEM p.message)) (length b.items) p.within (say_length IsQuestion _ b.items p.questions),
          (tt, p.keeps, (b.items, p.questions, refl)),
        ),
      ),
    ))
    (reads-bind _ _ _ _ (message-law TAG_REQUEST_MESSAGE n) (λ message.
    reads-bind _ _ _ _ (reads header_format header-part.good message) (λ header.
    reads-bind _ _ _ _ (reads-guard BatchCount (is_count header.1 (length (contents TAG_BATCH_ITEM message)))) (λ all.
    reads-bind _ _ _ _ (reads-guard Undo (not (is_undo header.0))) (λ keeps.
    reads-bind _ _ _ _ (reads-members_at question_at IsQuestion message question-law) (λ items.
    reads-ok _))))))

-- ---- written

header_fits_by : (b : Bool) (count : ℤ) → header_format.fits (if b then Some CONTINUE else None, count) ≡ true
unfolding header_format header_parts_format option_format version_parts_format
header_fits_by true count = refl
header_fits_by false count = refl

no_undo_by : (b : Bool) → not (is_undo (if b then Some CONTINUE else None)) ≡ true
no_undo_by true = refl
no_undo_by false = refl

header_fits : (there : ℕ) (count : ℤ) → header_format.fits (option_for there, count) ≡ true
header_fits there count = header_fits_by (nat_le 2 there) count

questions_written : (rs : List Request) → list_all request_fits rs ≡ true → SayEach IsQuestion (map (λ r. inside (item_format.write r)) rs) (map Ok rs)
questions_written [] fit = tt
questions_written (r ∷ rest) fit =
    let parts = and_parts (request_fits r) (list_all request_fits rest) fit in
    ((item_format.write r, refl, question_written r parts.0), questions_written rest parts.1)

-- The written form of some requests is that of their questions.
pub requests_written : (rs : List Request) → IsTrue (requests_fit rs) → IsBatch (batch_of rs) (requests_item rs)
unfolding header_format
requests_written rs fit =
    let parts = and_parts (may_have (length rs)) (list_all request_fits rs) fit in
    let count : length rs ≡ length (map Ok rs) = sym (length-map rs _) in
    let message : List Node = header_format.write (option_for (length rs), pos (length rs)) ++ map question_item rs in
    let says = part_stands header_format item_format.write (option_for (length rs), pos (length rs)) rs header-part refl (header_fits (length rs) (pos (length rs))) in
    let stand = items_stand header_format item_format.write (option_for (length rs), pos (length rs)) rs header-part refl in
    record {
      message = message;
      is_message = refl;
      header = subst (λ k. IsHeader message (option_for (length rs)) (pos k)) count (header_is message (option_for (length rs)) (pos (length rs)) says);
      within = subst (λ k. IsTrue (may_have k)) count parts.0;
      keeps = no_undo_by (nat_le 2 (length rs));
      questions = subst (λ cs. SayEach IsQuestion cs (map Ok rs)) (sym stand) (questions_written rs parts.1);
    }

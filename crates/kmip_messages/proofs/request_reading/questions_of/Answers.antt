-- Each turn reads one Batch Item more, or passes another item by.
use Rattle.std.proofs.Common.{rules, ◌≡◌, ◌+◌, ◌++◌, [], ◌∷◌, true, false, drop, Ok, refl, sym, ap, ◌∙◌}
use Rattle.std.proofs.lemmas.Bool.{eq-eqb, ne_eqb}
use Rattle.std.proofs.lemmas.List.{append-nil, drop_all}
use Rattle.kmip_ttlv.specs.View.{content, views}
use Rattle.kmip_batch_items.specs.Siblings.{contents}
use Rattle.kmip_batch_items.specs.declared.standard.TheConstants.{TAG_BATCH_ITEM}
use Rattle.kmip_batch_items.specs.BatchItems.{Question, question_at}
use Rattle.kmip_messages.specs.Members.{member_in, members_in}
use Rattle.kmip_messages.proofs.MemberLemmas.{with_front, read_here}
use Rattle.kmip_messages.proofs.request_reading.questions_of.Goals as goal

pub loop-item-preserved : goal.loop-item-preserved
loop-item-preserved c =
    let here = read_here question_at c.args.message.now c.loop-item.item-index c.item-item.result c.loop-item.questions.items in
    let tag = sym c.tag.ensures ∙ sym c.number.ensures.value in
    let all = members_in question_at (contents TAG_BATCH_ITEM (views c.args.message.now)) in
    let left = members_in question_at (contents TAG_BATCH_ITEM (views (drop (c.loop-item.item-index + 1) c.args.message.now))) in
    let one : c.number.result ≡ TAG_BATCH_ITEM → (q : Question) → member_in question_at (content c.item-item.result.value) ≡ Ok q
    → with_front (c.loop-item.questions.items ++ q ∷ []) left ≡ all =
    λ is q gives. sym (here true _ c.loop-item-test.true c.item-item.is (eq-eqb _ _ (tag ∙ is)) gives) ∙ c.loop-item.invariant in
    let none : (c.number.result ≡ TAG_BATCH_ITEM → ⊥) → with_front c.loop-item.questions.items left ≡ all =
    λ other. sym (here false _ c.loop-item-test.true c.item-item.is (ne_eqb _ _ (λ is. other (sym tag ∙ is))) refl) ∙ c.loop-item.invariant in
    search (rules, one, none)

pub returns : goal.returns
returns c =
    sym c.loop-item.invariant
    ∙ ap (λ xs. with_front c.loop-item.questions.items (members_in question_at (contents TAG_BATCH_ITEM (views xs))))
    (drop_all c.loop-item.item-index c.args.message.now c.loop-item-test.false)
    ∙ ap Ok (append-nil c.loop-item.questions.items ∙ sym c.from_vec.ensures)

pub returns-in_err-question : goal.returns-in_err-question
returns-in_err-question c =
    let tag = sym c.tag.ensures ∙ sym c.number.ensures.value ∙ c.if-number-eq-TAG_BATCH_ITEM.true in
    let here = read_here question_at c.args.message.now c.loop-item.item-index c.item-item.result c.loop-item.questions.items true _ c.loop-item-test.true c.item-item.is
    (eq-eqb _ _ tag) refl in
    search (rules, sym here ∙ c.loop-item.invariant)

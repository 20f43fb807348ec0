-- Each turn reads one Batch Item more, or passes another item by.
use Rattle.std.proofs.Common.{rules, ◌≡◌, ◌+◌, ◌++◌, [], ◌∷◌, true, false, drop, Ok, refl, sym, ap, ◌∙◌}
use Rattle.std.proofs.lemmas.Bool.{eq-eqb, ne_eqb}
use Rattle.std.proofs.lemmas.List.{append-nil, drop_all}
use Rattle.kmip_ttlv.specs.View.{content, views}
use Rattle.kmip_batch_items.specs.Siblings.{contents}
use Rattle.kmip_batch_items.specs.declared.reply.Reply.{Reply}
use Rattle.kmip_batch_items.specs.declared.standard.TheConstants.{TAG_BATCH_ITEM}
use Rattle.kmip_batch_items.specs.ReplyFormats.{answered_format}
use Rattle.kmip_messages.specs.Members.{member_in, members_in}
use Rattle.kmip_messages.proofs.MemberLemmas.{with_front, read_here}
use Rattle.kmip_messages.proofs.reply_reading.answers_of.Goals as goal

pub loop-item-preserved : goal.loop-item-preserved
loop-item-preserved c =
    let here = read_here answered_format.read c.args.message.now c.loop-item.item-index c.item-item.result c.loop-item.replies.items in
    let tag = sym c.tag.ensures ∙ sym c.number.ensures.value in
    let all = members_in answered_format.read (contents TAG_BATCH_ITEM (views c.args.message.now)) in
    let left = members_in answered_format.read (contents TAG_BATCH_ITEM (views (drop (c.loop-item.item-index + 1) c.args.message.now))) in
    let one : c.number.result ≡ TAG_BATCH_ITEM → (r : Reply) → member_in answered_format.read (content c.item-item.result.value) ≡ Ok r
    → with_front (c.loop-item.replies.items ++ r ∷ []) left ≡ all =
    λ is r gives. sym (here true _ c.loop-item-test.true c.item-item.is (eq-eqb _ _ (tag ∙ is)) gives) ∙ c.loop-item.invariant in
    let none : (c.number.result ≡ TAG_BATCH_ITEM → ⊥) → with_front c.loop-item.replies.items left ≡ all =
    λ other. sym (here false _ c.loop-item-test.true c.item-item.is (ne_eqb _ _ (λ is. other (sym tag ∙ is))) refl) ∙ c.loop-item.invariant in
    search (rules, one, none)

pub returns : goal.returns
returns c =
    sym c.loop-item.invariant
    ∙ ap (λ xs. with_front c.loop-item.replies.items (members_in answered_format.read (contents TAG_BATCH_ITEM (views xs))))
    (drop_all c.loop-item.item-index c.args.message.now c.loop-item-test.false)
    ∙ ap Ok (append-nil c.loop-item.replies.items)

pub returns-in_err-reply : goal.returns-in_err-reply
returns-in_err-reply c =
    let tag = sym c.tag.ensures ∙ sym c.number.ensures.value ∙ c.if-number-eq-TAG_BATCH_ITEM.true in
    let here = read_here answered_format.read c.args.message.now c.loop-item.item-index c.item-item.result c.loop-item.replies.items true _ c.loop-item-test.true c.item-item.is
    (eq-eqb _ _ tag) refl in
    search (rules, sym here ∙ c.loop-item.invariant)

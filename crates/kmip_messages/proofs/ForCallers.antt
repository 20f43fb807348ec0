-- For lemma files above, which speak of replies where no call stands near, so that no clause serves: which ones can be written together.
use Rattle.std.proofs.Common.{◌≡◌, ◌≤◌, ◌*◌, ◌&&◌, pos, Bool, true, List, [], ◌∷◌, length, IsTrue, refl, arith}
use Rattle.std.specs.List.{All, AllByRecursion, list_all}
use Rattle.std.proofs.lemmas.Bool.{and_parts, le-leb, leb-true}
use Rattle.std.proofs.lemmas.List.Elements.{recursion_from_All}
use Rattle.kmip_ttlv.specs.Sizes.{size}
use Rattle.kmip_batch_items.specs.declared.reply.Reply.{Reply}
use Rattle.kmip_batch_items.specs.BatchItems.{answer_fits}
use Rattle.kmip_batch_items.proofs.BatchItemSizes.{brief_size}
use Rattle.kmip_messages.specs.Members.{may_have}
use Rattle.kmip_messages.specs.Private.{IsShort, answers_size}
use Rattle.kmip_messages.specs.Written.{replies_fit, replies_item}
use Rattle.kmip_messages.proofs.SizeLemmas.{size-replies}

both : {a b : Bool} → a ≡ true → b ≡ true → (a && b) ≡ true
both h k = rw (h, k) refl

short_replies : (rs : List Reply) → AllByRecursion IsShort rs → (list_all answer_fits rs ≡ true) × (answers_size rs ≤ 567 * length rs)
short_replies [] short = (refl, omega arith)
short_replies (r ∷ rest) short =
    let others = short_replies rest short.1 in
    (both short.0.fits others.0, omega (arith, brief_size r short.0.fits short.0.brief, others.1))

-- one to eight short replies have a written form
pub short_replies_fit : (rs : List Reply) → IsTrue (may_have (length rs)) → All IsShort rs → IsTrue (replies_fit rs)
short_replies_fit rs some short =
    let all = short_replies rs (recursion_from_All IsShort rs short) in
    let few = leb-true (length rs) 8 (and_parts _ _ some).1 in
    let long : size (replies_item rs (pos 0)) ≤ 8192 = omega (arith, size-replies rs (pos 0), all.1, few) in
    both (both some all.0) (le-leb (size (replies_item rs (pos 0))) 8192 long)

-- Each turn reads one identifier more, or passes another item by.
use Rattle.std.proofs.Common.{rules, ◌≡◌, ℕ, ◌+◌, ◌<◌, ◌==◌, Bool, true, false, if◌then◌else◌, List, [], ◌∷◌, ◌++◌, length, drop, get_or, Result, Ok, Err, refl, sym, ap, ◌∙◌}
use Rattle.std.proofs.lemmas.Bool.{eq-eqb, ne_eqb}
use Rattle.std.proofs.lemmas.List.{append-nil, append_assoc, drop_all, drop_more}
use Rattle.kmip_ttlv.specs.Binding.{◌>>=◌}
use Rattle.kmip_ttlv.specs.Node.{Content}
use Rattle.kmip_ttlv.specs.View.{content, views}
use Rattle.kmip_ttlv.specs.declared.item.Item.{Item}
use Rattle.kmip_batch_items.specs.declared.message_fault.MessageFault.{MessageFault}
use Rattle.kmip_batch_items.specs.Formats.{texts, value_in, values_in}
use Rattle.kmip_batch_items.specs.Siblings.{contents}
use Rattle.kmip_objects.specs.Ranges.{is_identifier}
use Rattle.kmip_batch_items.specs.declared.standard.TheConstants.{TAG_UNIQUE_IDENTIFIER}
use Rattle.kmip_batch_items.specs.ReplyFormats.{identifiers_format}
use Rattle.kmip_batch_items.proofs.IdentifierLemmas.{with_front}
use Rattle.kmip_batch_items.proofs.reply_reading.identifiers_of.Goals as goal

abbrev all_in : List Content → Result (List (List ℕ)) MessageFault
all_in cs = values_in texts TAG_UNIQUE_IDENTIFIER is_identifier cs

-- What is read from a place on, behind a front: b says whether the item there is an identifier, and m what is read of it.
read_here : (items : List Item) (i : ℕ) (x : Item) (front : List (List ℕ)) (b : Bool) (m : Result (List ℕ) MessageFault)
    → i < length items → x ≡ get_or items i x → (x.tag == TAG_UNIQUE_IDENTIFIER) ≡ b → value_in texts TAG_UNIQUE_IDENTIFIER is_identifier (content x.value) ≡ m
    → with_front front (all_in (contents TAG_UNIQUE_IDENTIFIER (views (drop i items))))
    ≡ (if b then (m >>= λ a. with_front (front ++ a ∷ []) (all_in (contents TAG_UNIQUE_IDENTIFIER (views (drop (i + 1) items)))))
    else with_front front (all_in (contents TAG_UNIQUE_IDENTIFIER (views (drop (i + 1) items)))))
read_here items i x front b m lt is tag gives =
    let c = content x.value in
    let cs = contents TAG_UNIQUE_IDENTIFIER (views (drop (i + 1) items)) in
    ap (λ xs. with_front front (all_in (contents TAG_UNIQUE_IDENTIFIER (views xs)))) (drop_more items i x lt ∙ ap (λ y. y ∷ drop (i + 1) items) (sym is))
    ∙ ap (λ b. with_front front (all_in (if b then c ∷ cs else cs))) tag
    ∙ elim b as (λ b. with_front front (all_in (if b then c ∷ cs else cs))
    ≡ (if b then (m >>= λ a. with_front (front ++ a ∷ []) (all_in cs)) else with_front front (all_in cs))) [
      | true ↦ ap (λ m. with_front front (m >>= λ a. all_in cs >>= λ rest. Ok (a ∷ rest))) gives
          ∙ elim m as (λ m. with_front front (m >>= λ a. all_in cs >>= λ rest. Ok (a ∷ rest)) ≡ (m >>= λ a. with_front (front ++ a ∷ []) (all_in cs))) [
            | Ok a ↦ elim (all_in cs) as (λ r. with_front front (r >>= λ rest. Ok (a ∷ rest)) ≡ with_front (front ++ a ∷ []) r) [
              | Ok rest ↦ ap (λ all. Ok all) (sym (append_assoc front (a ∷ []) rest))
              | Err fault ↦ refl
            ]
            | Err fault ↦ refl
          ]
      | false ↦ refl
    ]

pub loop-item-preserved : goal.loop-item-preserved
loop-item-preserved c =
    let here = read_here c.args.payload.now c.loop-item.item-index c.item-item.result c.loop-item.uids.items in
    let tag = sym c.tag.ensures ∙ sym c.number.ensures.value in
    let all = all_in (contents TAG_UNIQUE_IDENTIFIER (views c.args.payload.now)) in
    let left = all_in (contents TAG_UNIQUE_IDENTIFIER (views (drop (c.loop-item.item-index + 1) c.args.payload.now))) in
    let one : c.number.result ≡ TAG_UNIQUE_IDENTIFIER → (uid : List ℕ) → value_in texts TAG_UNIQUE_IDENTIFIER is_identifier (content c.item-item.result.value) ≡ Ok uid
    → with_front (c.loop-item.uids.items ++ uid ∷ []) left ≡ all =
    λ is uid gives. sym (here true _ c.loop-item-test.true c.item-item.is (eq-eqb _ _ (tag ∙ is)) gives) ∙ c.loop-item.invariant in
    let none : (c.number.result ≡ TAG_UNIQUE_IDENTIFIER → ⊥) → with_front c.loop-item.uids.items left ≡ all =
    λ other. sym (here false _ c.loop-item-test.true c.item-item.is (ne_eqb _ _ (λ is. other (sym tag ∙ is))) refl) ∙ c.loop-item.invariant in
    search (rules, one, none)

pub returns : goal.returns
unfolding identifiers_format
returns c =
    sym c.loop-item.invariant
    ∙ ap (λ xs. with_front c.loop-item.uids.items (all_in (contents TAG_UNIQUE_IDENTIFIER (views xs))))
    (drop_all c.loop-item.item-index c.args.payload.now c.loop-item-test.false)
    ∙ ap Ok (append-nil c.loop-item.uids.items ∙ sym c.from_vec.ensures)

pub returns-in_err-uid : goal.returns-in_err-uid
unfolding identifiers_format
returns-in_err-uid c =
    let tag = sym c.tag.ensures ∙ sym c.number.ensures.value ∙ c.if-number-eq-TAG_UNIQUE_IDENTIFIER.true in
    let here = read_here c.args.payload.now c.loop-item.item-index c.item-item.result c.loop-item.uids.items true _ c.loop-item-test.true c.item-item.is
    (eq-eqb _ _ tag) refl in
    search (rules, sym here ∙ c.loop-item.invariant)

-- Items found by their tags, one item at a time.
use Rattle.std.proofs.Common.{◌≡◌, ℕ, ◌+◌, ◌<◌, ◌==◌, Bool, true, false, cond, List, length, drop, get_or, Err, ap, sym, ◌∙◌}
use Rattle.std.specs.List.{list_any}
use Rattle.kmip_ttlv.specs.Node.{tag_of}
use Rattle.kmip_ttlv.specs.View.{view, views}
use Rattle.kmip_ttlv.specs.declared.item.Item.{Item}
use Rattle.kmip_ttlv.proofs.ForCallers.{views-drop}
use Rattle.kmip_batch_items.specs.declared.message_fault.MessageFault.TheVariants.{OutOfRange}
use Rattle.kmip_batch_items.specs.Siblings.{only}

-- the test of the item at a place, and then the items after it
pub only-drop : (tags : List ℕ) (items : List Item) (i : ℕ) (item : Item) → i < length items → item ≡ get_or items i item
    → only tags (views (drop i items))
    ≡ cond (list_any (λ t. t == tag_of (view item)) tags) (only tags (views (drop (i + 1) items))) (Err (OutOfRange (tag_of (view item))))
only-drop tags items i item h is =
    ap (only tags) (views-drop items i item h)
    ∙ ap (λ x. cond (list_any (λ t. t == tag_of (view x)) tags) (only tags (views (drop (i + 1) items))) (Err (OutOfRange (tag_of (view x))))) (sym is)

-- the test that was made of the item's number
is_tested : (tags : List ℕ) (own tag number : ℕ) (b c : Bool) → tag ≡ own → number ≡ tag → b ≡ list_any (λ t. t == number) tags → b ≡ c
    → list_any (λ t. t == own) tags ≡ c
is_tested tags own tag number b c is same test was =
    ap (λ n. list_any (λ t. t == n) tags) (sym (same ∙ is)) ∙ sym test ∙ was

pub only_refused : (tags : List ℕ) (items : List Item) (i : ℕ) (item : Item) (tag number : ℕ) (b : Bool)
    → i < length items → item ≡ get_or items i item → tag ≡ item.tag → number ≡ tag → b ≡ list_any (λ t. t == number) tags → b ≡ false
    → only tags (views (drop i items)) ≡ only tags (views items)
    → Err (OutOfRange tag) ≡ only tags (views items)
only_refused tags items i item tag number b h is at same test was before =
    ap (λ n. Err (OutOfRange n)) at
    ∙ sym (only-drop tags items i item h is
    ∙ ap (λ c. cond c (only tags (views (drop (i + 1) items))) (Err (OutOfRange item.tag))) (is_tested tags item.tag tag number b false at same test was))
    ∙ before

pub only_passed : (tags : List ℕ) (items : List Item) (i : ℕ) (item : Item) (tag number : ℕ) (b : Bool)
    → i < length items → item ≡ get_or items i item → tag ≡ item.tag → number ≡ tag → b ≡ list_any (λ t. t == number) tags → b ≡ true
    → only tags (views (drop i items)) ≡ only tags (views items)
    → only tags (views (drop (i + 1) items)) ≡ only tags (views items)
only_passed tags items i item tag number b h is at same test was before =
    sym (only-drop tags items i item h is
    ∙ ap (λ c. cond c (only tags (views (drop (i + 1) items))) (Err (OutOfRange item.tag))) (is_tested tags item.tag tag number b true at same test was))
    ∙ before

-- The steps of reading one item.
use Rattle.std.proofs.Common.{◌≡◌, ℕ, zero, suc, ◌+◌, ◌-◌, ◌<◌, List, take, drop, Ok, Err, refl, sym, ap, ◌∙◌, arith}
use Rattle.std.specs.Prelude.{IsUtf8, ◌==◌}
use Rattle.std.specs.Str.{is_utf8}
use Rattle.std.proofs.lemmas.Str.{is_utf8-from_IsUtf8, IsUtf8-from_is_utf8}
use Rattle.std.proofs.lemmas.Bool.{false_from_ne_true}
use Rattle.kmip_ttlv.specs.declared.ttlv_fault.TtlvFault.{TtlvFault}
use Rattle.kmip_ttlv.specs.declared.ttlv_fault.TtlvFault.TheVariants as faults
use Rattle.kmip_ttlv.specs.declared.item_type.ItemType.{ItemType}
use Rattle.kmip_ttlv.specs.Node.{node, Content}
use Rattle.kmip_ttlv.specs.Sizes.{padded}
use Rattle.kmip_ttlv.specs.Heads.{head_at}
use Rattle.kmip_ttlv.specs.Binding.{◌>>=◌}
use Rattle.kmip_ttlv.specs.Reading.{FailsContent, text_value_at, value_at, item_at}

pub text_right : (at : ℕ) (bytes : List ℕ) → IsUtf8 bytes → text_value_at at bytes ≡ Ok bytes
unfolding text_value_at
text_right at bytes utf8 = rw (is_utf8-from_IsUtf8 bytes utf8) refl

pub text_wrong : (at : ℕ) (bytes : List ℕ) → (IsUtf8 bytes → ⊥) → text_value_at at bytes ≡ Err (faults.BadText at)
unfolding text_value_at
text_wrong at bytes wrong = rw (false_from_ne_true (is_utf8 bytes) (λ t. wrong (IsUtf8-from_is_utf8 bytes t))) refl

-- the content of an item with a right head, at one level less
pub value_next : (left at : ℕ) (bytes : List ℕ) (tag : ℕ) (type : ItemType) (len : ℕ) → 0 < left → head_at (left == 16) at bytes ≡ Ok (tag, type, len)
    → item_at left at bytes ≡ (value_at (item_at (left - 1)) at type (take len (drop 8 bytes)) >>= λ content. Ok (node tag content, 8 + padded len))
unfolding item_at
value_next zero at bytes tag type len some head = absurd (omega arith)
value_next (suc left) at bytes tag type len some head =
    let same : suc left - 1 ≡ left = omega arith in rw (same, head) refl

pub item_from : (left at : ℕ) (bytes : List ℕ) (tag : ℕ) (type : ItemType) (len cut its_tag size : ℕ) (content : Content) → 0 < left
    → head_at (left == 16) at bytes ≡ Ok (tag, type, len) → cut ≡ len → value_at (item_at (left - 1)) at type (take cut (drop 8 bytes)) ≡ Ok content
    → its_tag ≡ tag → size ≡ 8 + padded len → item_at left at bytes ≡ Ok (node its_tag content, size)
item_from left at bytes tag type len cut its_tag size content some head is_cut value is_tag is_size =
    let here : value_at (item_at (left - 1)) at type (take len (drop 8 bytes)) ≡ Ok content = rw is_cut at value in
    let read : item_at left at bytes ≡ Ok (node tag content, 8 + padded len) = value_next left at bytes tag type len some head ∙ rw here refl in
    rw (is_tag, is_size) read

value_stops : (left at : ℕ) (bytes : List ℕ) (tag : ℕ) (type : ItemType) (len : ℕ) (e : TtlvFault) → 0 < left
    → head_at (left == 16) at bytes ≡ Ok (tag, type, len) → value_at (item_at (left - 1)) at type (take len (drop 8 bytes)) ≡ Err e
    → item_at left at bytes ≡ Err e
value_stops left at bytes tag type len e some head value = value_next left at bytes tag type len some head ∙ rw value refl

pub value_fails : (left at : ℕ) (bytes : List ℕ) (tag : ℕ) (type : ItemType) (len cut : ℕ) (e : TtlvFault) → 0 < left
    → head_at (left == 16) at bytes ≡ Ok (tag, type, len) → cut ≡ len → FailsContent e (value_at (item_at (left - 1)) at type (take cut (drop 8 bytes)))
    → FailsContent e (item_at left at bytes)
value_fails left at bytes tag type len cut faults.NoMemory some head is_cut fails = tt
value_fails left at bytes tag type len cut e some head is_cut fails =
    value_stops left at bytes tag type len e some head (ap (λ (k : ℕ). value_at (item_at (left - 1)) at type (take k (drop 8 bytes))) (sym is_cut) ∙ fails)

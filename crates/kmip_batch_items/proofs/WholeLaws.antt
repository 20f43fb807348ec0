-- The bytes of a message: reading them all as one item is to find the item that they spell.
use Rattle.std.proofs.Common.{◌≡◌, ℕ, List, [], length, take, Bool, true, false, Result, Ok, Err, ◌==◌, if◌then◌else◌, refl, sym, ap, subst, ◌∙◌, arith}
use Rattle.std.proofs.lemmas.Bool.{eqb-true, eq-eqb}
use Rattle.std.proofs.lemmas.List.{append-nil, take_all}
use Rattle.kmip_ttlv.specs.declared.ttlv_fault.TtlvFault.{TtlvFault}
use Rattle.kmip_ttlv.specs.Node.{Node}
use Rattle.kmip_ttlv.specs.Fitting.{IsBytes}
use Rattle.kmip_ttlv.specs.Spelling.{Spells}
use Rattle.kmip_ttlv.specs.Reading.{item_at}
use Rattle.kmip_ttlv.proofs.ForCallers.{item_spelled, spelling_again}
use Rattle.kmip_batch_items.specs.declared.message_fault.MessageFault.{MessageFault}
use Rattle.kmip_batch_items.specs.declared.message_fault.MessageFault.TheVariants.{NotMessage}
use Rattle.kmip_batch_items.specs.Whole.{whole, item_in}
use Rattle.kmip_ttlv.proofs.ReadSteps.{Reads}

-- an item that is all of the bytes, or not
abbrev whole_of : Bool → Node → Result Node MessageFault
whole_of b n = if b then Ok n else Err NotMessage

-- a node that was taken where a test held
taken : (b : Bool) (x n : Node) → whole_of b x ≡ Ok n → (b ≡ true) × (x ≡ n)
taken true x n e = (refl, cc)
taken false x n e = absurd cc

whole_spelled : (bytes : List ℕ) (r : Result (Node × ℕ) TtlvFault) (n : Node) → IsBytes bytes → item_at 16 0 bytes ≡ r → whole (length bytes) r ≡ Ok n
    → Spells n bytes
whole_spelled bytes (Ok x) n fits read is =
    let p = taken (x.1 == length bytes) x.0 n is in
    let all : take x.1 bytes ≡ bytes = take_all x.1 bytes (omega (arith, eqb-true x.1 (length bytes) p.0)) in
    subst (λ m. Spells m bytes) p.1 (subst (λ bs. Spells x.0 bs) all (item_spelled bytes x fits read).1)
whole_spelled bytes (Err fault) n fits read is = absurd cc

whole_read : (bytes : List ℕ) (n : Node) → Spells n bytes → whole (length bytes) (item_at 16 0 bytes) ≡ Ok n
whole_read bytes n spells =
    let read : item_at 16 0 bytes ≡ Ok (n, length bytes) = ap (item_at 16 0) (sym (append-nil bytes)) ∙ spelling_again n bytes [] spells in
    ap (whole (length bytes)) read ∙ ap (λ b. whole_of b n) (eq-eqb (length bytes) (length bytes) refl)

pub item_in-complete : (bytes : List ℕ) (n : Node) → Spells n bytes → item_in bytes ≡ Ok n
unfolding item_in
item_in-complete bytes n spells = whole_read bytes n spells

-- The item that is read of all the bytes is the one that they spell.
pub item_in-law : (bytes : List ℕ) → IsBytes bytes → Reads (item_in bytes) (λ n. Spells n bytes)
unfolding item_in
item_in-law bytes fits = record {
  sound = λ n is. whole_spelled bytes (item_at 16 0 bytes) n fits refl is;
  complete = λ n spells. item_in-complete bytes n spells;
}

-- What holds of each key, key by key.
use Rattle.std.proofs.Common.{◌≡◌, ℕ, zero, suc, List, [], ◌∷◌, length, map, Option, Some, None, is_some, slice_set, subst, refl, sym, ◌∙◌, inl, inr, arith}
use Rattle.std.proofs.lemmas.Bool.{cases_Bool}
use Rattle.std.specs.List.{AllZip, slice_get}
use Rattle.kmip_plan.specs.Plans.{IsLawful}
use Rattle.kmip_plan.specs.declared.key.Key.{Key}
use Rattle.kmip_client.specs.declared.knowledge.Knowledge.{Knowledge}
use Rattle.kmip_client.specs.Clients.{lost_working, changed_by, changed_at, standing_at, tells}
use Rattle.kmip_client.specs.Knowledge.{fresh_knowledge, is_working, lose, verdict_of}
use Rattle.kmip_client.specs.Private.{IsShaped, AreShaped}
use Rattle.kmip_client.proofs.CountLemmas.{fresh_count, lost_count}
use Rattle.kmip_client.proofs.LearningLemmas.{lost_goes_on}

-- ---- one place of two lists

pub at_both : {A B : Type 0} (R : A → B → Type 0) (xs : List A) (ys : List B) (place : ℕ) (x : A) (y : B)
    → AllZip R xs ys → slice_get xs place ≡ Some x → slice_get ys place ≡ Some y → R x y
at_both R [] ys place x y each here there = absurd cc
at_both R (a ∷ xs) [] place x y each here there = absurd each
at_both R (a ∷ xs) (b ∷ ys) zero x y each here there =
    let first : a ≡ x = cc in
    let second : b ≡ y = cc in
    subst (λ v. R v y) first (subst (λ v. R a v) second each.0)
at_both R (a ∷ xs) (b ∷ ys) (suc place) x y each here there = at_both R xs ys place x y each.1 here there

pub set_both : {A B : Type 0} (R : A → B → Type 0) (xs : List A) (ys : List B) (place : ℕ) (x : A) (y : B)
    → AllZip R xs ys → slice_get xs place ≡ Some x → R x y → AllZip R xs (slice_set ys place y)
set_both R [] ys place x y each here holds = absurd cc
set_both R (a ∷ xs) [] place x y each here holds = absurd each
set_both R (a ∷ xs) (b ∷ ys) zero x y each here holds =
    let first : x ≡ a = cc in
    (subst (λ v. R v y) first holds, each.1)
set_both R (a ∷ xs) (b ∷ ys) (suc place) x y each here holds = (each.0, set_both R xs ys place x y each.1 here holds)

-- there is as much in the one as in the other
pub found_in_both : {A B : Type 0} (R : A → B → Type 0) (xs : List A) (ys : List B) (place : ℕ) (x : A)
    → AllZip R xs ys → slice_get xs place ≡ Some x → (y : B) × (slice_get ys place ≡ Some y)
found_in_both R [] ys place x each here = absurd cc
found_in_both R (a ∷ xs) [] place x each here = absurd each
found_in_both R (a ∷ xs) (b ∷ ys) zero x each here = (b, refl)
found_in_both R (a ∷ xs) (b ∷ ys) (suc place) x each here = found_in_both R xs ys place x each.1 here

-- ---- whatever holds of each key

changed_keeps : (R : Key → Knowledge → Type 0) (f : Key → Knowledge → Knowledge) → ((key : Key) (known : Knowledge) → R key known → R key (f key known))
    → (keys : List Key) (knowns : List Knowledge) (place : ℕ) (key : Option Key) (known : Option Knowledge)
    → AllZip R keys knowns → slice_get keys place ≡ key → slice_get knowns place ≡ known → AllZip R keys (changed_by f knowns place key known)
changed_keeps R f keep keys knowns place None known each here there = each
changed_keeps R f keep keys knowns place (Some key) None each here there = each
changed_keeps R f keep keys knowns place (Some key) (Some known) each here there =
    set_both R keys knowns place key (f key known) each here (keep key known (at_both R keys knowns place key known each here there))

if_working : (R : Key → Knowledge → Type 0) → ((key : Key) (known : Knowledge) → R key known → R key (lose known))
    → (key : Key) (known : Knowledge) → R key known → R key (lost_working key known)
if_working R keep key known holds =
    elim (cases_Bool (is_working key known)) [
      | inl working ↦ rw working (keep key known holds)
      | inr settled ↦ rw settled holds
    ]

-- what being lost keeps of one key it keeps of all
pub lost_keeps : (R : Key → Knowledge → Type 0) → ((key : Key) (known : Knowledge) → R key known → R key (lose known))
    → (keys : List Key) (knowns : List Knowledge) (place : ℕ) → AllZip R keys knowns → AllZip R keys (changed_at lost_working keys knowns place)
lost_keeps R keep keys knowns place each =
    changed_keeps R lost_working (if_working R keep) keys knowns place (slice_get keys place) (slice_get knowns place) each refl refl

-- ---- the shape

pub fresh_holds : (R : Key → Knowledge → Type 0) → ((key : Key) → R key fresh_knowledge) → (keys : List Key) → AllZip R keys (map (λ key. fresh_knowledge) keys)
fresh_holds R holds [] = tt
fresh_holds R holds (key ∷ keys) = (holds key, fresh_holds R holds keys)

fresh_shaped : (key : Key) → IsShaped key fresh_knowledge
fresh_shaped key = record { few = omega arith; suits = refl; has_identifier = λ some. absurd (omega arith); in_range = tt; unsettled = λ some. absurd (some refl) }

pub fresh_are_shaped : (keys : List Key) → IsLawful keys → AreShaped keys (map (λ key. fresh_knowledge) keys) 0 (length keys)
fresh_are_shaped keys lawful =
    record { lawful = lawful; each = fresh_holds IsShaped fresh_shaped keys; turn = omega arith; counted = sym (fresh_count keys) }

pub lost_are_shaped : (keys : List Key) (knowns : List Knowledge) (next working place : ℕ) → AreShaped keys knowns next working
    → AreShaped keys (changed_at lost_working keys knowns place) next working
lost_are_shaped keys knowns next working place shaped = record {
  lawful = shaped.lawful;
  each = lost_keeps IsShaped (λ key known holds. (lost_goes_on key known holds).0) keys knowns place shaped.each;
  turn = shaped.turn;
  counted = shaped.counted ∙ sym (lost_count keys knowns place);
}

-- what is known of a key, by the key and its knowledge
pub standing_of : (keys : List Key) (knowns : List Knowledge) (place : ℕ) (key : Key) (known : Knowledge) → slice_get keys place ≡ Some key → slice_get knowns place ≡ Some known
    → record { done = known.done; is_identified = is_some known.identifier; verdict = verdict_of key known; is_told = tells known.phase } ≡ standing_at keys knowns place
standing_of keys knowns place key known key_at known_at = rw (known_at, key_at) refl

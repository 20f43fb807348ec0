-- A name stands at one place alone.
use Rattle.std.proofs.Common.{◌≡◌, ℕ, zero, suc, ◌+◌, Bool, true, false, List, [], ◌∷◌, Option, Some, None, subst, refl, sym, ap, ◌∙◌, inl, inr, arith}
use Rattle.std.proofs.lemmas.Bool.{cases_Bool}
use Rattle.std.proofs.lemmas.Slice.Eq.{bytes_eq-Decides}
use Rattle.std.proofs.lemmas.Iterator.Adapters.{position_from-zero}
use Rattle.std.specs.List.{slice_get, position_from}
use Rattle.std.specs.Option.{option_map_or}
use Rattle.kmip_plan.specs.Laws.{NamesAreDistinct}
use Rattle.kmip_plan.specs.Plans.{IsLawful}
use Rattle.kmip_plan.specs.TargetWords.{is_text}
use Rattle.kmip_plan.specs.declared.key.Key.{Key}
use Rattle.kmip_client.specs.Private.{is_named_at}
use Rattle.kmip_client.specs.Hearing.{place_named}

first_at : {A : Type 0} (p : A → Bool) (from : ℕ) (xs : List A) (place : ℕ) (x : A) → slice_get xs place ≡ Some x → p x ≡ true
    → ((other : ℕ) (y : A) → slice_get xs other ≡ Some y → p y ≡ true → other ≡ place)
    → position_from p from xs ≡ Some (from + place)
first_at p from [] place x here holds alone = absurd cc
first_at p from (a ∷ xs) zero x here holds alone =
    let own : x ≡ a = cc in
    let first : p a ≡ true = subst (λ v. p v ≡ true) own holds in
    let same : from ≡ from + 0 = omega arith in
    rw first (ap Some same)
first_at p from (a ∷ xs) (suc place) x here holds alone =
    elim (cases_Bool (p a)) [
      | inl first ↦ absurd (omega (arith, alone zero a refl first))
      | inr other ↦
          let same : from + 1 + place ≡ from + suc place = omega arith in
          let rest = first_at p (from + 1) xs place x here holds (λ j y there is. omega (arith, alone (suc j) y there is)) in
          rw other (rest ∙ ap Some same)
    ]

named_as : (s t : List ℕ) → is_text s t ≡ true → s ≡ t
named_as s t h = (bytes_eq-Decides s t).0 h

named_of : (keys : List Key) (name : List ℕ) (place : ℕ) (key : Option Key) → NamesAreDistinct → IsLawful keys → slice_get keys place ≡ key
    → option_map_or (λ k. is_text name k.attrs.name) key false ≡ true → Some place ≡ place_named name keys
named_of keys name place None distinct lawful here has = absurd cc
named_of keys name place (Some key) distinct lawful here has =
    let found = first_at (λ (k : Key). is_text name k.attrs.name) 0 keys place key here has
    (λ other k there is. distinct keys other place k key lawful there here (sym (named_as name k.attrs.name is) ∙ named_as name key.attrs.name has)) in
    let same : 0 + place ≡ place = omega arith in
    sym (position_from-zero (λ (k : Key). is_text name k.attrs.name) keys ∙ found ∙ ap Some same)

-- so where a name stands is the place of the key with the name
pub named_at : (keys : List Key) (name : List ℕ) (place : ℕ) → NamesAreDistinct → IsLawful keys → is_named_at name keys place ≡ true
    → Some place ≡ place_named name keys
named_at keys name place distinct lawful has = named_of keys name place (slice_get keys place) distinct lawful refl has

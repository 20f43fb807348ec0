-- Words and what they stand for.
use Rattle.std.proofs.Common.{◌≡◌, ℕ, ◌+◌, Bool, true, false, ◌==◌, ◌||◌, List, [], ◌∷◌, map, codes, Option, Some, None, if◌then◌else◌, subst, refl, sym, ap, ◌∙◌, inl, inr}
use Rattle.std.specs.List.{list_any, sum_by}
use Rattle.std.proofs.lemmas.Bool.{cases_Bool, eqb-true}
use Rattle.std.proofs.lemmas.List.Sums.{sum_by-cons}
use Rattle.std.proofs.lemmas.Slice.Eq.{bytes_eq-Decides}
use Rattle.kmip_objects.specs.Ranges.{is_algorithm}
use Rattle.kmip_objects.specs.declared.standard.TheConstants.{ALGORITHM_AES, ALGORITHM_HMAC_SHA256}
use Rattle.kmip_plan.specs.TargetWords.{is_text}
use Rattle.kmip_plan.specs.Words.{algorithm_word, algorithm_of_word, reason_of_word}
use Rattle.std.proofs.lemmas.Option.{same_Some}
use Rattle.kmip_plan.proofs.OptionLemmas.{not_some}

same_text : (s t : List ℕ) → is_text s t ≡ true → s ≡ t
same_text s t h = (bytes_eq-Decides s t).0 h

-- what a list of words leads to has a property, if it follows from each word
chosen : {A : Type 0} (word name : List ℕ) (a x : A) (rest : Option A) (P : A → Type 0) → (word ≡ name → P a) → (rest ≡ Some x → P x)
    → (if is_text word name then Some a else rest) ≡ Some x → P x
chosen word name a x rest P here there is =
    elim (cases_Bool (is_text word name)) [
      | inl same ↦ subst P (same_Some a x (rw same at is)) (here (same_text word name same))
      | inr other ↦ there (rw other at is)
    ]

no_word : {A : Type 0} (x : A) (P : A → Type 0) → None ≡ Some x → P x
no_word x P is = not_some x is

pub word_of_algorithm : (word : List ℕ) (a : ℕ) → algorithm_of_word word ≡ Some a → algorithm_word a ≡ Some word
word_of_algorithm word a is =
    let P : ℕ → Type 0 = λ n. algorithm_word n ≡ Some word in
    chosen word (codes "AES") ALGORITHM_AES a _ P (λ e. ap Some (sym e)) (
    chosen word (codes "HMAC-SHA256") ALGORITHM_HMAC_SHA256 a _ P (λ e. ap Some (sym e)) (no_word a P)) is

-- an algorithm that has a word, and what its word names
named_algorithm : (aes hmac : Bool) (a : ℕ) (word : List ℕ) → (aes ≡ true → a ≡ ALGORITHM_AES) → (hmac ≡ true → a ≡ ALGORITHM_HMAC_SHA256)
    → (if aes then Some (codes "AES") else if hmac then Some (codes "HMAC-SHA256") else None) ≡ Some word → algorithm_of_word word ≡ Some a
named_algorithm true hmac a word first second is = ap algorithm_of_word (sym (same_Some _ word is)) ∙ ap Some (sym (first refl))
named_algorithm false true a word first second is = ap algorithm_of_word (sym (same_Some _ word is)) ∙ ap Some (sym (second refl))
named_algorithm false false a word first second is = not_some word is

pub algorithm_of_its_word : (a : ℕ) (word : List ℕ) → algorithm_word a ≡ Some word → algorithm_of_word word ≡ Some a
algorithm_of_its_word a word is =
    named_algorithm (a == ALGORITHM_AES) (a == ALGORITHM_HMAC_SHA256) a word (eqb-true a ALGORITHM_AES) (eqb-true a ALGORITHM_HMAC_SHA256) is

pub algorithm_in_range : (word : List ℕ) (a : ℕ) → algorithm_of_word word ≡ Some a → is_algorithm a ≡ true
algorithm_in_range word a is =
    let P : ℕ → Type 0 = λ n. is_algorithm n ≡ true in
    chosen word (codes "AES") ALGORITHM_AES a _ P (λ e. refl) (
    chosen word (codes "HMAC-SHA256") ALGORITHM_HMAC_SHA256 a _ P (λ e. refl) (no_word a P)) is

pub reason_in_range : (word : List ℕ) (r : ℕ) → reason_of_word word ≡ Some r → (r == 1 || r == 4 || r == 5 || r == 6 || r == 7) ≡ true
reason_in_range word r is =
    let P : ℕ → Type 0 = λ n. (n == 1 || n == 4 || n == 5 || n == 6 || n == 7) ≡ true in
    chosen word (codes "unspecified") 1 r _ P (λ e. refl) (
    chosen word (codes "affiliation-changed") 4 r _ P (λ e. refl) (
    chosen word (codes "superseded") 5 r _ P (λ e. refl) (
    chosen word (codes "cessation-of-operation") 6 r _ P (λ e. refl) (
    chosen word (codes "privilege-withdrawn") 7 r _ P (λ e. refl) (no_word r P))))) is

-- a test of some element, where the list was read off another
pub list_any-map : {X Y : Type 0} (p : Y → Bool) (h : X → Y) (xs : List X) → list_any p (map h xs) ≡ list_any (λ x. p (h x)) xs
list_any-map p h [] = refl
list_any-map p h (x ∷ xs) = ap (λ b. p (h x) || b) (list_any-map p h xs)

-- a sum, where the list was read off another
pub sum_by-map : {X Y : Type 0} (f : Y → ℕ) (h : X → Y) (xs : List X) → sum_by f (map h xs) ≡ sum_by (λ x. f (h x)) xs
sum_by-map f h [] = refl
sum_by-map f h (x ∷ xs) =
    sum_by-cons f (h x) (map h xs) ∙ ap (λ n. f (h x) + n) (sum_by-map f h xs) ∙ sym (sum_by-cons (λ y. f (h y)) x xs)

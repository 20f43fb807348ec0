-- The first that passes a test, and all that do.
use Rattle.std.proofs.Common.{◌≡◌, ◌≢◌, ℕ, Bool, true, false, nat_eq, List, [], ◌∷◌, ◌++◌, map, filter, append-nil, Option, Some, None, refl, sym, ap, ◌∙◌, inl, inr}
use Rattle.std.specs.Cmp.Lexicographic.{pointwise}
use Rattle.std.specs.List.{find}
use Rattle.std.proofs.lemmas.Bool.{cases_Bool, false_from_ne_true}
use Rattle.std.proofs.lemmas.List.Elements.{filter-append}
use Rattle.std.proofs.lemmas.Option.{same_Some}
use Rattle.std.proofs.lemmas.Slice.Eq.{bytes_eq-Decides}

-- ---- texts

pub same_text : (a b : List ℕ) → a ≡ b → pointwise nat_eq a b ≡ true
same_text a b same = (bytes_eq-Decides a b).1 same

pub other_text : (a b : List ℕ) → a ≢ b → pointwise nat_eq a b ≡ false
other_text a b apart = false_from_ne_true (pointwise nat_eq a b) (λ same. apart ((bytes_eq-Decides a b).0 same))

-- ---- the first of a list

abbrev first_of : {A : Type 0} → List A → Option A
first_of [] = None
first_of (x ∷ xs) = Some x

no_first : {A : Type 0} (xs : List A) → first_of xs ≡ None → xs ≡ []
no_first [] is = refl
no_first (x ∷ xs) is = let t : Some x ≡ None = is in absurd cc

same_one : {A : Type 0} (x y : A) → x ∷ [] ≡ y ∷ [] → x ≡ y
same_one x y is = same_Some x y (ap first_of is)

pub no_one : {A X : Type 0} (x : A) → x ∷ [] ≡ [] → X
no_one x is = let t : Some x ≡ None = ap first_of is in absurd cc

-- ---- tests

module _ {A : Type 0} (p : A → Bool) where
  find_first : (xs : List A) → find p xs ≡ first_of (filter p xs)
  find_first [] = refl
  find_first (x ∷ xs) = elim (cases_Bool (p x)) [
    | inl passes ↦ rw passes refl
    | inr fails ↦ rw fails (find_first xs)
  ]

  -- where none is found none passes
  pub none_pass : (xs : List A) → find p xs ≡ None → filter p xs ≡ []
  none_pass xs none = no_first (filter p xs) (sym (find_first xs) ∙ none)

  -- where one alone passes it is found
  pub one_found : (xs : List A) (x : A) → filter p xs ≡ x ∷ [] → find p xs ≡ Some x
  one_found xs x is = find_first xs ∙ ap first_of is

  -- the same of two lists of which the same pass
  pub found_same : (xs ys : List A) → filter p xs ≡ filter p ys → find p xs ≡ find p ys
  found_same xs ys same = find_first xs ∙ ap first_of same ∙ sym (find_first ys)

  -- one more
  pub more_pass : (xs : List A) (x : A) → p x ≡ true → filter p xs ≡ [] → filter p (xs ++ x ∷ []) ≡ x ∷ []
  more_pass xs x passes none =
      let one : filter p (x ∷ []) ≡ x ∷ [] = rw passes refl in
      filter-append p xs (x ∷ []) ∙ ap (λ ys. ys ++ filter p (x ∷ [])) none ∙ one

  pub no_more_pass : (xs : List A) (x : A) → p x ≡ false → filter p (xs ++ x ∷ []) ≡ filter p xs
  no_more_pass xs x fails =
      let none : filter p (x ∷ []) ≡ [] = rw fails refl in
      filter-append p xs (x ∷ []) ∙ ap (λ ys. filter p xs ++ ys) none ∙ append-nil (filter p xs)

  -- a change that the test does not see
  pub changed_pass : (f : A → A) → ((x : A) → p (f x) ≡ p x) → (xs : List A) → filter p (map f xs) ≡ map f (filter p xs)
  changed_pass f blind [] = refl
  changed_pass f blind (x ∷ xs) = elim (cases_Bool (p x)) [
    | inl passes ↦ rw (blind x, passes) (ap (λ ys. f x ∷ ys) (changed_pass f blind xs))
    | inr fails ↦ rw (blind x, fails) (changed_pass f blind xs)
  ]

  -- two that pass alone are one
  pub alone : (xs : List A) (x y : A) → filter p xs ≡ x ∷ [] → filter p xs ≡ y ∷ [] → x ≡ y
  alone xs x y one two = same_one x y (sym one ∙ two)

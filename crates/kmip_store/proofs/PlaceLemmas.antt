-- The place of the first item that passes a test, and the item there.
use Rattle.std.proofs.Common.{◌≡◌, ℕ, ◌+◌, Bool, false, not, ◌||◌, List, [], ◌∷◌, map, length, Option, Some, None, is_some, refl, sym, ap, ◌∙◌, inl, inr, slice_get, ltb, cond}
use Rattle.std.specs.List.{find, position, position_or_len, list_any}
use Rattle.std.proofs.lemmas.Bool.{cases_Bool, cond-true, cond-false, ltb-false}
use Rattle.std.proofs.lemmas.List.{length-map}
use Rattle.std.proofs.lemmas.List.Folds.{find_at, list_any_at}
use Rattle.std.proofs.lemmas.List.Quantifiers.{position-Some}
use Rattle.std.proofs.lemmas.Option.{none-some, cond_some, slice_get_past}

first_map : {X Y : Type 0} (f : X → Y) (test : Y → Bool) (xs : List X) → position_or_len test (map f xs) ≡ position_or_len (λ x. test (f x)) xs
first_map f test [] = refl
first_map f test (x ∷ xs) = ap (λ n. cond (not (test (f x))) (1 + n) 0) (first_map f test xs)

-- an item has the place that what is seen of it has
pub position_map : {X Y : Type 0} (f : X → Y) (test : Y → Bool) (xs : List X) → position test (map f xs) ≡ position (λ x. test (f x)) xs
position_map f test xs = rw (first_map f test xs, length-map xs f) refl

pub find_some : {X : Type 0} (test : X → Bool) (xs : List X) (place : ℕ) → position test xs ≡ Some place → find test xs ≡ slice_get xs place
find_some test xs place at =
    find_at test xs ∙ ap (slice_get xs) (cond_some (ltb (position_or_len test xs) (length xs)) (position_or_len test xs) place at).1

pub find_none : {X : Type 0} (test : X → Bool) (xs : List X) → position test xs ≡ None → find test xs ≡ None
find_none test xs is = elim (cases_Bool (ltb (position_or_len test xs) (length xs))) [
  | inl inside ↦ absurd (none-some (position_or_len test xs) (sym is ∙ cond-true _ (Some (position_or_len test xs)) None inside))
  | inr outside ↦ find_at test xs ∙ slice_get_past xs (position_or_len test xs) (ltb-false _ _ outside)
]

-- no item passes a test that has no first one
pub any_none : {X : Type 0} (test : X → Bool) (xs : List X) → find test xs ≡ None → list_any test xs ≡ false
any_none test [] is = refl
any_none test (x ∷ xs) is = elim (cases_Bool (test x)) [
  | inl passes ↦ absurd (none-some x (sym is ∙ cond-true (test x) (Some x) (find test xs) passes))
  | inr fails ↦ ap (λ b. b || list_any test xs) fails ∙ any_none test xs (sym (cond-false (test x) (Some x) (find test xs) fails) ∙ is)
]

pub none_passes : {X : Type 0} (test : X → Bool) (xs : List X) → position test xs ≡ None → list_any test xs ≡ false
none_passes test xs is = any_none test xs (find_none test xs is)

-- what has a place is there
pub found_any : {X : Type 0} (test : X → Bool) (xs : List X) (d : X) (found : Option ℕ) → position test xs ≡ found → list_any test xs ≡ is_some found
found_any test xs d None at = none_passes test xs at
found_any test xs d (Some place) at =
    let first = position-Some test xs place d at in
    list_any_at test xs place d first.0 first.1

pub any_map : {X Y : Type 0} (f : X → Y) (test : Y → Bool) (xs : List X) → list_any test (map f xs) ≡ list_any (λ x. test (f x)) xs
any_map f test [] = refl
any_map f test (x ∷ xs) = ap (λ b. test (f x) || b) (any_map f test xs)

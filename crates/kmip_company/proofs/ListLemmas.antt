-- What all have in a list, one of them has.
use Rattle.std.proofs.Common.{◌≡◌, List, Option, Some, [], ◌+◌, ◌++◌, ◌∷◌, drop, flat_map, slice_get, slice_set, subst, suc, take, zero, ℕ}
use Rattle.std.specs.List.{All}
use Rattle.std.proofs.lemmas.List.Elements.{All-append, All-cons, All-drop, All-head, All-nil, All-tail, All-take}

abbrev some_of : {X : Type 0} → X → Option X
some_of x = Some x

same_some : {X : Type 0} (x y : X) → some_of x ≡ some_of y → x ≡ y
same_some x y e = cc

pub all_at : {X : Type 0} (P : X → Type 0) (xs : List X) (place : ℕ) (x : X) → All P xs → slice_get xs place ≡ Some x → P x
all_at P [] place x all is = absurd cc
all_at P (y ∷ xs) zero x all is = subst P (same_some y x is) (All-head P y xs all)
all_at P (y ∷ xs) (suc place) x all is = all_at P xs place x (All-tail P y xs all) is

pub all_set : {X : Type 0} (P : X → Type 0) (xs : List X) (place : ℕ) (x : X) → All P xs → P x → All P (slice_set xs place x)
all_set P [] place x all here = All-nil P
all_set P (y ∷ xs) zero x all here = All-cons P x xs here (All-tail P y xs all)
all_set P (y ∷ xs) (suc place) x all here = All-cons P y (slice_set xs place x) (All-head P y xs all) (all_set P xs place x (All-tail P y xs all) here)

pub all_without : {X : Type 0} (P : X → Type 0) (xs : List X) (place : ℕ) → All P xs → All P (take place xs ++ drop (place + 1) xs)
all_without P xs place all = All-append P (take place xs) (drop (place + 1) xs) (All-take P place xs all) (All-drop P (place + 1) xs all)

pub all_and : {X : Type 0} (P : X → Type 0) (xs : List X) (x : X) → All P xs → P x → All P (xs ++ x ∷ [])
all_and P xs x all here = All-append P xs (x ∷ []) all (All-cons P x [] here (All-nil P))

pub all_flat : {X Y : Type 0} (P : Y → Type 0) (f : X → List Y) (xs : List X) → All (λ x. All P (f x)) xs → All P (flat_map f xs)
all_flat P f [] each = All-nil P
all_flat P f (x ∷ xs) each =
    All-append P (f x) (flat_map f xs) (All-head (λ y. All P (f y)) x xs each) (all_flat P f xs (All-tail (λ y. All P (f y)) x xs each))

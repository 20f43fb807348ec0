-- The test that a progress suits a plan, and what suits.
use Rattle.std.proofs.Common.{◌≡◌, ◌==◌, ◌≤◌, ℕ, suc, Bool, true, false, ◌&&◌, List, [], ◌∷◌, length, drop, refl, sym, ◌∙◌, ap, arith}
use Rattle.std.proofs.lemmas.Bool.{ne_eqb}
use Rattle.std.proofs.lemmas.List.{drop_all}
use Rattle.kmip_plan.specs.declared.key.Key.{Key}
use Rattle.kmip_progress.specs.declared.known.Known.{Known}
use Rattle.kmip_progress.specs.Suiting.{known_fits, Suits}
use Rattle.kmip_progress.specs.Private.{all_fit}

-- both of two tests
pub both : (a b : Bool) → (a && b) ≡ true → (a ≡ true) × (b ≡ true)
both true b is = (refl, is)
both false b is = absurd cc

pub and : (a b : Bool) → a ≡ true → b ≡ true → (a && b) ≡ true
and true b x y = y
and false b x y = absurd cc

pub suits_so : (keys : List Key) (progress : List Known) → all_fit keys progress ≡ true → Suits keys progress
suits_so [] [] is = tt
suits_so [] (known ∷ progress) is = absurd cc
suits_so (key ∷ keys) [] is = absurd cc
suits_so (key ∷ keys) (known ∷ progress) is =
    let (here, there) = both (known_fits key known) (all_fit keys progress) is in
    (here, suits_so keys progress there)

pub so_suits : (keys : List Key) (progress : List Known) → Suits keys progress → all_fit keys progress ≡ true
so_suits [] [] suits = refl
so_suits [] (known ∷ progress) suits = absurd suits
so_suits (key ∷ keys) [] suits = absurd suits
so_suits (key ∷ keys) (known ∷ progress) suits = and (known_fits key known) (all_fit keys progress) suits.0 (so_suits keys progress suits.1)

-- where nothing more is known, no key may be left
none_left : (keys : List Key) → all_fit keys [] ≡ (length keys == 0)
none_left [] = refl
none_left (key ∷ keys) = sym (ne_eqb (length (key ∷ keys)) 0 (λ e. omega arith))

pub all_seen : (rest keys : List Key) (progress : List Known) (i : ℕ) (b : Bool) → length progress ≤ i → all_fit rest (drop i progress) ≡ all_fit keys progress
    → b ≡ (length rest == 0) → b ≡ all_fit keys progress
all_seen rest keys progress i b end same is = is ∙ sym (none_left rest) ∙ ap (all_fit rest) (sym (drop_all i progress end)) ∙ same

-- a progress that suits has as many as the plan
pub as_many : (keys : List Key) (progress : List Known) → Suits keys progress → length keys ≡ length progress
as_many [] [] suits = refl
as_many [] (known ∷ progress) suits = absurd suits
as_many (key ∷ keys) [] suits = absurd suits
as_many (key ∷ keys) (known ∷ progress) suits = ap suc (as_many keys progress suits.1)

-- A plan that prolongs another, key by key.
use Rattle.std.proofs.Common.{◌≡◌, ◌↔◌, ℕ, zero, suc, ◌+◌, ◌<◌, ◌≤◌, List, [], ◌∷◌, length, drop, get_or, Some, refl, sym, ap, subst, ◌∙◌, add-one, arith}
use Rattle.std.proofs.Math.Seq.{drop-cons}
use Rattle.std.specs.List.{slice_get}
use Rattle.kmip_plan.specs.declared.key.Key.{Key}
use Rattle.kmip_plan.specs.Plans.{IsLawful, IsPlanned}
use Rattle.kmip_plan.specs.Prolonging.{GoesOn, Prolongs}
use Rattle.std.proofs.lemmas.Option.{same_Some}
use Rattle.kmip_plan.proofs.OptionLemmas.{not_some}
use Rattle.kmip_plan.proofs.NameLemmas.{found_at, found_stands}

-- where an element stands, the list goes on with it
starts : (xs : List Key) (i : ℕ) (x : Key) → i < length xs → x ≡ get_or xs i x → drop i xs ≡ x ∷ drop (i + 1) xs
starts xs i x lt is = rw add-one (drop-cons xs i x lt ∙ ap (λ y. y ∷ drop (suc i) xs) (sym is))

-- from one key to the next
pub onward : (new old : List Key) (i : ℕ) (n o : Key) → i < length new → n ≡ get_or new i n → i < length old → o ≡ get_or old i o → GoesOn n o
    → Prolongs (drop i new) (drop i old) ↔ Prolongs new old
    → Prolongs (drop (i + 1) new) (drop (i + 1) old) ↔ Prolongs new old
onward new old i n o lt is lt' is' goes so_far =
    let here = starts new i n lt is in
    let there = starts old i o lt' is' in
    (λ rest. so_far.0 (rw (here, there) (goes, rest)), λ whole. (rw (here, there) at so_far.1 whole).1)

-- the laws of ways and of keys, as the laws of plans take them
abbrev Again : Type 0
Again = (first next last : Key) → GoesOn next first → GoesOn last next → GoesOn last first

pub prolongs_again : Again → (first next last : List Key) → Prolongs next first → Prolongs last next → Prolongs last first
prolongs_again again [] next last on onto = tt
prolongs_again again (f ∷ fs) [] last on onto = absurd on
prolongs_again again (f ∷ fs) (n ∷ ns) [] on onto = absurd onto
prolongs_again again (f ∷ fs) (n ∷ ns) (l ∷ ls) on onto = (again f n l on.0 onto.0, prolongs_again again fs ns ls on.1 onto.1)

pub prolongs_itself : ((key : Key) → GoesOn key key) → (keys : List Key) → Prolongs keys keys
prolongs_itself itself [] = tt
prolongs_itself itself (key ∷ keys) = (itself key, prolongs_itself itself keys)

-- what stands in the old plan goes on at its place
pub goes_on_at : (new old : List Key) (place : ℕ) (key : Key) → Prolongs new old → slice_get old place ≡ Some key
    → (newer : Key) × (slice_get new place ≡ Some newer) × GoesOn newer key
goes_on_at new [] place key on is = not_some key is
goes_on_at [] (old ∷ olds) place key on is = absurd on
goes_on_at (new ∷ news) (old ∷ olds) zero key on is = (new, refl, subst (GoesOn new) (same_Some old key is) on.0)
goes_on_at (new ∷ news) (old ∷ olds) (suc place) key on is = goes_on_at news olds place key on.1 is

-- and is found under its name
pub goes_on_named : (new old : List Key) (key : Key) → IsLawful new → Prolongs new old → IsPlanned old key
    → (newer : Key) × IsPlanned new newer × (newer.attrs.name ≡ key.attrs.name) × GoesOn newer key
goes_on_named new old key lawful on is =
    let (_, (place, stands)) = found_stands old key.attrs.name key is in
    let (newer, here, goes) = goes_on_at new old place key on stands in
    (newer, found_at [] new place newer lawful.distinct here, ap (λ attrs. attrs.name) goes.attrs_same, goes)

pub no_shorter : (new old : List Key) → Prolongs new old → length old ≤ length new
no_shorter new [] on = omega arith
no_shorter [] (old ∷ olds) on = absurd on
no_shorter (new ∷ news) (old ∷ olds) on = omega (arith, no_shorter news olds on.1)

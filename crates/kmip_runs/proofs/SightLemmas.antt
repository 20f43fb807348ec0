-- Key by key, whether a run got on, and how many keys are told.
use Rattle.std.proofs.Common.{◌≡◌, ◌≢◌, ◌∙◌, ◌<◌, ◌≤◌, ℕ, zero, suc, ◌+◌, List, [], ◌∷◌, Some, Bool, true, false, slice_get, slice_set, refl, sym, ap, subst, inl, inr, arith}
use mir.Val.{bool_byte}
use Rattle.std.proofs.lemmas.Bool.{cases_lt}
use Rattle.kmip_plan.specs.declared.key.Key.{Key}
use Rattle.kmip_client.specs.declared.knowledge.Knowledge.{Knowledge}
use Rattle.kmip_client.specs.Clients.{is_told_at, one_if}
use Rattle.kmip_runs.specs.PrivateSights.{gets_on, sight_at, told_before}
use Rattle.kmip_runs.specs.declared.sight.Sight.{Sight}

set_elsewhere : (sights : List Sight) (place other : ℕ) (next : Sight) → place ≢ other → slice_get (slice_set sights place next) other ≡ slice_get sights other
set_elsewhere [] place other next apart = refl
set_elsewhere (s ∷ sights) zero zero next apart = absurd (apart refl)
set_elsewhere (s ∷ sights) zero (suc other) next apart = refl
set_elsewhere (s ∷ sights) (suc place) zero next apart = refl
set_elsewhere (s ∷ sights) (suc place) (suc other) next apart = set_elsewhere sights place other next (λ e. apart (omega (arith, e)))

-- what stands behind the place stays
pub rest_more : (first items : List Sight) (place : ℕ) (next : Sight) → ((p : ℕ) → place ≤ p → slice_get items p ≡ slice_get first p)
    → (p : ℕ) → place + 1 ≤ p → slice_get (slice_set items place next) p ≡ slice_get first p
rest_more first items place next rest p beyond =
    set_elsewhere items place p next (λ e. omega (arith, e, beyond)) ∙ rest p (omega (arith, beyond))

same_sight : (a b : Sight) → Some a ≡ Some b → a ≡ b
same_sight a b e = cc

-- by none of the keys before the next place
pub nowhere_more : (keys : List Key) (knowns : List Knowledge) (first : List Sight) (place : ℕ) (seen : Sight) → slice_get first place ≡ Some seen
    → gets_on seen (sight_at keys knowns place) ≡ false
    → ((p : ℕ) (s : Sight) → p < place → slice_get first p ≡ Some s → gets_on s (sight_at keys knowns p) ≡ false)
    → (p : ℕ) (s : Sight) → p < place + 1 → slice_get first p ≡ Some s → gets_on s (sight_at keys knowns p) ≡ false
nowhere_more keys knowns first place seen here none before p s below is =
    elim (cases_lt p place) [
      | inl earlier ↦ before p s earlier is
      | inr later ↦
          let at : p ≡ place = omega (arith, below, later) in
          let same : seen ≡ s = same_sight seen s (sym here ∙ sym (ap (λ n. slice_get first n) at) ∙ is) in
          subst (λ n. gets_on s (sight_at keys knowns n) ≡ false) (sym at) (subst (λ v. gets_on v (sight_at keys knowns place) ≡ false) same none)
    ]

-- one place more is counted
pub told_more : (place : ℕ) (knowns : List Knowledge) → told_before (place + 1) knowns ≡ told_before place knowns + one_if (is_told_at knowns place)
told_more place knowns = let e : place + 1 ≡ suc place = omega arith in rw e refl

-- a truth counts as one or as nothing
pub counts_one : (b : Bool) → bool_byte b ≡ one_if b
counts_one true = refl
counts_one false = refl

pub one_or_none : (b : Bool) → one_if b ≤ 1
one_or_none true = omega arith
one_or_none false = omega arith

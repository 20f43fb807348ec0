-- How many keys are worked on, and that a verdict stands once it is given.
use Rattle.std.proofs.Common.{◌≡◌, ◌≢◌, ℕ, zero, suc, ◌+◌, ◌≤◌, ◌<◌, Bool, true, false, not, nat_lt, nat_le, List, [], ◌∷◌, length, map, Option, Some, None, slice_set, subst, refl, sym, ap, inl, inr, arith, if◌then◌else◌, true≢false, ◌∙◌}
use Rattle.std.proofs.lemmas.Bool.{cases_Bool, and_parts, ltb-true, leb-true, leb-false, lt-ltb}
use Rattle.std.specs.List.{AllZip, slice_get}
use Rattle.std.specs.Option.{is_some}
use Rattle.kmip_objects.specs.Objects.{Object}
use Rattle.kmip_plan.specs.declared.key.Key.{Key}
use Rattle.kmip_plan.specs.declared.target.Target.{Target}
use Rattle.kmip_plan.specs.declared.target.Target.TheVariants.{Created, Active, Revoked, Destroyed, Discarded}
use Rattle.kmip_client.specs.declared.clash.Clash.{Clash}
use Rattle.kmip_client.specs.declared.knowledge.Knowledge.{Knowledge}
use Rattle.kmip_client.specs.declared.verdict.Verdict.TheVariants.{Working, Finished, Conflict}
use Rattle.kmip_client.specs.Clients.{AreSettled, NoneWorks, SomeWorks, one_if, working_count, changed_by, changed_at, lost_working, verdict_at, VerdictsStay}
use Rattle.kmip_client.specs.Held.{Held}
use Rattle.kmip_client.specs.Private.{IsShaped}
use Rattle.kmip_client.specs.Verdicts.{AreWithin, counts_of}
use Rattle.kmip_client.specs.Knowledge.{chain_length, fresh_knowledge, is_working, clash_verdict, verdict_of}

-- ---- the count

-- a key of which nothing is known is worked on, since every chain has a step
fresh_works : (key : Key) → is_working key fresh_knowledge ≡ true
fresh_works key = first key.target
  where
    first : (target : Target) → is_working (record key { target = target }) fresh_knowledge ≡ true
    first Created = refl
    first Active = refl
    first Revoked = refl
    first Destroyed = refl
    first Discarded = refl

pub fresh_count : (keys : List Key) → working_count keys (map (λ key. fresh_knowledge) keys) ≡ length keys
fresh_count [] = refl
fresh_count (key ∷ keys) = omega (arith, ap one_if (fresh_works key), fresh_count keys)

-- the count changes as the one key does
pub count_with : (keys : List Key) (knowns : List Knowledge) (place : ℕ) (key : Key) (known new : Knowledge)
    → slice_get keys place ≡ Some key → slice_get knowns place ≡ Some known
    → working_count keys (slice_set knowns place new) + one_if (is_working key known) ≡ working_count keys knowns + one_if (is_working key new)
count_with [] knowns place key known new here there = absurd cc
count_with (k ∷ keys) [] place key known new here there = absurd cc
count_with (k ∷ keys) (a ∷ knowns) zero key known new here there =
    let first : k ≡ key = cc in
    let second : a ≡ known = cc in
    subst (λ x. one_if (is_working k new) + working_count keys knowns + one_if (is_working x known) ≡ one_if (is_working k a) + working_count keys knowns + one_if (is_working x new)) first
    (subst (λ x. one_if (is_working k new) + working_count keys knowns + one_if (is_working k x) ≡ one_if (is_working k a) + working_count keys knowns + one_if (is_working k new)) second (omega arith))
count_with (k ∷ keys) (a ∷ knowns) (suc place) key known new here there =
    omega (arith, count_with keys knowns place key known new here there)

-- a key that is worked on is counted
pub counted_one : (keys : List Key) (knowns : List Knowledge) (place : ℕ) (key : Key) (known : Knowledge)
    → slice_get keys place ≡ Some key → slice_get knowns place ≡ Some known → one_if (is_working key known) ≤ working_count keys knowns
counted_one [] knowns place key known here there = absurd cc
counted_one (k ∷ keys) [] place key known here there = absurd cc
counted_one (k ∷ keys) (a ∷ knowns) zero key known here there =
    let first : k ≡ key = cc in
    let second : a ≡ known = cc in
    subst (λ x. one_if (is_working x known) ≤ one_if (is_working k a) + working_count keys knowns) first
    (subst (λ x. one_if (is_working k x) ≤ one_if (is_working k a) + working_count keys knowns) second (omega arith))
counted_one (k ∷ keys) (a ∷ knowns) (suc place) key known here there = omega (arith, counted_one keys knowns place key known here there)

-- a key that is looked at again is worked on as before
lose_works : (key : Key) (known : Knowledge) → is_working key (lost_working key known) ≡ is_working key known
lose_works key known =
    elim (cases_Bool (is_working key known)) [
      | inl works ↦ rw works works
      | inr settled ↦ rw settled settled
    ]

lost_one : (keys : List Key) (knowns : List Knowledge) (place : ℕ) (key : Option Key) (known : Option Knowledge)
    → slice_get keys place ≡ key → slice_get knowns place ≡ known
    → working_count keys (changed_by lost_working knowns place key known) ≡ working_count keys knowns
lost_one keys knowns place None known here there = refl
lost_one keys knowns place (Some key) None here there = refl
lost_one keys knowns place (Some key) (Some known) here there =
    omega (arith, count_with keys knowns place key known (lost_working key known) here there, ap one_if (lose_works key known))

pub lost_count : (keys : List Key) (knowns : List Knowledge) (place : ℕ)
    → working_count keys (changed_at lost_working keys knowns place) ≡ working_count keys knowns
lost_count keys knowns place = lost_one keys knowns place (slice_get keys place) (slice_get knowns place) refl refl

-- ---- verdicts

-- what is known of one key stays, or gives the same verdict, or the key was worked on
pub stay_with : (keys : List Key) (knowns : List Knowledge) (place : ℕ) (key : Key) (known new : Knowledge)
    → slice_get keys place ≡ Some key → slice_get knowns place ≡ Some known
    → (verdict_of key known ≢ Working → verdict_of key new ≡ verdict_of key known) → VerdictsStay keys knowns (slice_set knowns place new)
stay_with [] knowns place key known new here there stays at settled = absurd cc
stay_with (k ∷ keys) [] place key known new here there stays at settled = absurd cc
stay_with (k ∷ keys) (a ∷ knowns) zero key known new here there stays zero settled =
    let first : k ≡ key = cc in
    let second : a ≡ known = cc in
    subst (λ x. verdict_of k x ≢ Working → verdict_of k new ≡ verdict_of k x) (sym second)
    (subst (λ x. verdict_of x known ≢ Working → verdict_of x new ≡ verdict_of x known) (sym first) stays) settled
stay_with (k ∷ keys) (a ∷ knowns) zero key known new here there stays (suc at) settled = refl
stay_with (k ∷ keys) (a ∷ knowns) (suc place) key known new here there stays zero settled = refl
stay_with (k ∷ keys) (a ∷ knowns) (suc place) key known new here there stays (suc at) settled =
    stay_with keys knowns place key known new here there stays at settled

lose_verdict : (key : Key) (known : Knowledge) → verdict_of key (lost_working key known) ≡ verdict_of key known
lose_verdict key known =
    elim (cases_Bool (is_working key known)) [
      | inl works ↦ rw works refl
      | inr settled ↦ rw settled refl
    ]

lost_stays : (keys : List Key) (knowns : List Knowledge) (place : ℕ) (key : Option Key) (known : Option Knowledge)
    → slice_get keys place ≡ key → slice_get knowns place ≡ known → VerdictsStay keys knowns (changed_by lost_working knowns place key known)
lost_stays keys knowns place None known here there = λ at settled. refl
lost_stays keys knowns place (Some key) None here there = λ at settled. refl
lost_stays keys knowns place (Some key) (Some known) here there =
    stay_with keys knowns place key known (lost_working key known) here there (λ settled. lose_verdict key known)

pub lost_verdicts : (keys : List Key) (knowns : List Knowledge) (place : ℕ) → VerdictsStay keys knowns (changed_at lost_working keys knowns place)
lost_verdicts keys knowns place = lost_stays keys knowns place (slice_get keys place) (slice_get knowns place) refl refl

-- a key that is worked on has the verdict that says so
none_clash : (clash : Option Clash) → not (is_some clash) ≡ true → clash_verdict clash ≡ Working
none_clash None h = refl
none_clash (Some clash) h = absurd cc

pub not_working : (key : Key) (known : Knowledge) → is_working key known ≡ true → verdict_of key known ≡ Working
not_working key known works =
    let parts = and_parts (nat_lt known.done (chain_length key)) (not (is_some known.clash)) works in
    let less : known.done < chain_length key = ltb-true known.done (chain_length key) parts.0 in
    elim (cases_Bool (nat_le (chain_length key) known.done)) [
      | inl full ↦ absurd (omega (arith, leb-true (chain_length key) known.done full))
      | inr unfinished ↦ rw unfinished (none_clash known.clash parts.1)
    ]

-- a key that is not worked on has another one
no_clash : (clash : Option Clash) → clash_verdict clash ≡ Working → not (is_some clash) ≡ true
no_clash None same = refl
no_clash (Some clash) same = absurd cc

worked_on : (key : Key) (known : Knowledge) → known.done < chain_length key → not (is_some known.clash) ≡ true → is_working key known ≡ true
worked_on key known more none = rw (lt-ltb known.done (chain_length key) more, none) refl

settled_verdict : (key : Key) (known : Knowledge) → is_working key known ≡ false → verdict_of key known ≢ Working
settled_verdict key known settled = λ same.
    elim (cases_Bool (nat_le (chain_length key) known.done)) [
      | inl full ↦
          let finished : Finished ≡ Working = rw full at same in
          absurd cc
      | inr unfinished ↦
          let working : is_working key known ≡ true =
          worked_on key known (leb-false (chain_length key) known.done unfinished) (no_clash known.clash (rw unfinished at same)) in
          true≢false (sym working ∙ settled)
    ]

pub settled_none : (keys : List Key) (knowns : List Knowledge) → AreSettled keys knowns → NoneWorks keys knowns
settled_none [] [] settled = λ place within. absurd (omega (arith, within))
settled_none [] (known ∷ knowns) settled = absurd settled
settled_none (key ∷ keys) [] settled = absurd settled
settled_none (key ∷ keys) (known ∷ knowns) settled = first_and_rest key known keys knowns (settled_verdict key known settled.0) (settled_none keys knowns settled.1)
  where
    first_and_rest : (key : Key) (known : Knowledge) (keys : List Key) (knowns : List Knowledge) → verdict_of key known ≢ Working → NoneWorks keys knowns
        → NoneWorks (key ∷ keys) (known ∷ knowns)
    first_and_rest key known keys knowns first rest zero within = first
    first_and_rest key known keys knowns first rest (suc place) within = rest place (omega (arith, within))

pub some_works : (keys : List Key) (knowns : List Knowledge) → 1 ≤ working_count keys knowns → SomeWorks keys knowns
some_works [] knowns some = absurd (omega (arith, some))
some_works (key ∷ keys) [] some = absurd (omega (arith, some))
some_works (key ∷ keys) (known ∷ knowns) some =
    elim (cases_Bool (is_working key known)) [
      | inl works ↦ (0, omega arith, not_working key known works)
      | inr settled ↦
          let rest = some_works keys knowns (omega (arith, some, ap one_if settled)) in
          (suc rest.0, omega (arith, rest.1), rest.2)
    ]

-- ---- no conflict

not_conflict : (finished : Bool) (found : Option Clash) (clash : Clash) → found ≡ None → (if finished then Finished else clash_verdict found) ≢ Conflict clash
not_conflict true none clash is = λ same. absurd cc
not_conflict false None clash is = λ same. absurd cc
not_conflict false (Some other) clash is = absurd cc

pub held_no_conflict : (objects : List Object) (keys : List Key) (knowns : List Knowledge) → Held objects keys knowns → (place : ℕ) (clash : Clash)
    → verdict_at keys knowns place ≢ Conflict clash
held_no_conflict objects [] knowns held place clash = λ same. absurd cc
held_no_conflict objects (key ∷ keys) [] held place clash = absurd held
held_no_conflict objects (key ∷ keys) (known ∷ knowns) held zero clash =
    not_conflict (nat_le (chain_length key) known.done) known.clash clash held.0.no_clash
held_no_conflict objects (key ∷ keys) (known ∷ knowns) held (suc place) clash = held_no_conflict objects keys knowns held.1 place clash

-- ---- the counts of a client

-- no more steps are counted than lead to the targets
pub shaped_within : (keys : List Key) (knowns : List Knowledge) → AllZip IsShaped keys knowns → AreWithin keys (counts_of knowns)
shaped_within [] [] each = tt
shaped_within [] (known ∷ knowns) each = absurd each
shaped_within (key ∷ keys) [] each = absurd each
shaped_within (key ∷ keys) (known ∷ knowns) each = (each.0.few, shaped_within keys knowns each.1)

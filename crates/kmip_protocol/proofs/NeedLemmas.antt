-- What one key needs: by its phase, at most its chain and two more, and nothing exactly where it is finished.
use Rattle.std.proofs.Common.{◌≡◌, ◌≤◌, ◌<◌, ℕ, ◌+◌, ◌-◌, Bool, true, false, not, nat_eq, nat_le, nat_lt, List, length, Option, Some, None, is_some, refl, sym, ap, ◌∙◌, inl, inr, arith, if◌then◌else◌}
use Rattle.std.specs.Option.{option_map_or}
use Rattle.std.proofs.lemmas.Bool.{cases_Bool, leb-true, leb-false, ltb-false, le-leb, eq-eqb, eqb-true}
use Rattle.kmip_objects.specs.Objects.{Object, object_named}
use Rattle.kmip_plan.specs.Chains.{chain, place_reached}
use Rattle.kmip_plan.specs.ChainLaws.{ReachedIsWithin}
use Rattle.kmip_plan.specs.declared.key.Key.{Key}
use Rattle.kmip_plan.specs.declared.target.Target.{Target}
use Rattle.kmip_plan.specs.declared.target.Target.TheVariants as targets
use Rattle.kmip_client.specs.declared.knowledge.Knowledge.{Knowledge}
use Rattle.kmip_client.specs.declared.phase.Phase.{Phase}
use Rattle.kmip_client.specs.declared.phase.Phase.TheVariants as phases
use Rattle.kmip_client.specs.declared.verdict.Verdict.TheVariants.{Working, Finished}
use Rattle.kmip_client.specs.Held.{IsHeld}
use Rattle.kmip_client.specs.Knowledge.{chain_length, fresh_knowledge, clash_verdict, verdict_of, is_working}
use Rattle.kmip_client.specs.Places.{position}
use Rattle.kmip_protocol.specs.Needs.{need_in, need_of}

-- ---- by the object that is found

abbrev pub place_in : Key → Option Object → ℕ
place_in key found = option_map_or (λ o. place_reached key.target o.state) found 0

abbrev pub need_by : Key → Knowledge → Option Object → ℕ
need_by key known found =
    if nat_le (chain_length key) known.done then 0
    else need_in known.phase (chain_length key) known.done (is_some found) (place_in key found)

pub need_found : (key : Key) (known : Knowledge) (objects : List Object) (found : Option Object) → object_named key.attrs.name objects ≡ found
    → need_of key known objects ≡ need_by key known found
need_found key known objects found is = ap (need_by key known) is

pub no_less : (n d : ℕ) → d < n → nat_le n d ≡ false
no_less n d less = elim (cases_Bool (nat_le n d)) [
  | inl is ↦ absurd (omega (arith, leb-true n d is, less))
  | inr is ↦ is
]

-- what a key needs that is not finished, and one that is
pub working_needs : (key : Key) (known : Knowledge) (phase : Phase) (found : Option Object) → known.phase ≡ phase → known.done < chain_length key
    → need_by key known found ≡ need_in phase (chain_length key) known.done (is_some found) (place_in key found)
working_needs key known phase found is more =
    rw (no_less (chain_length key) known.done more)
    (ap (λ ph. need_in ph (chain_length key) known.done (is_some found) (place_in key found)) is)

pub finished_needs : (key : Key) (known : Knowledge) (found : Option Object) → chain_length key ≤ known.done → need_by key known found ≡ 0
finished_needs key known found all = rw (le-leb (chain_length key) known.done all) refl

-- ---- the numbers

pub go_even : (n d p : ℕ) → d ≡ p → need_in phases.Go n d true p ≡ n - p
go_even n d p same = rw (eq-eqb d p same) refl

pub go_behind : (n d p : ℕ) → d < p → need_in phases.Go n d true p ≡ n - p + 2
go_behind n d p less = elim (cases_Bool (nat_eq d p)) [
  | inl same ↦ let e = eqb-true d p same in absurd (omega (arith, e, less))
  | inr apart ↦ rw apart refl
]

-- at most the chain and two more
pub need_most : (phase : Phase) (n d p : ℕ) (there : Bool) → d < n → (there ≡ true → 1 ≤ p) → need_in phase n d there p ≤ n + 2
need_most phases.Look n d p true more some = omega arith
need_most phases.Look n d p false more some = omega arith
need_most phases.Make n d p true more some = let from = some refl in omega (arith, from, more)
need_most phases.Make n d p false more some = omega arith
need_most phases.Check n d p there more some = omega arith
need_most phases.Go n d p there more some = elim (cases_Bool (nat_eq d p)) [
  | inl same ↦ rw same (omega arith)
  | inr apart ↦ rw apart (omega arith)
]

-- and not nothing, as long as a step is left
need_some : (phase : Phase) (n d p : ℕ) (there : Bool) → d < n → 1 ≤ need_in phase n d there p
need_some phases.Look n d p true more = omega arith
need_some phases.Look n d p false more = omega arith
need_some phases.Make n d p true more = omega arith
need_some phases.Make n d p false more = omega (arith, more)
need_some phases.Check n d p there more = omega arith
need_some phases.Go n d p there more = elim (cases_Bool (nat_eq d p)) [
  | inl same ↦ let e = eqb-true d p same in rw same (omega (arith, e, more))
  | inr apart ↦ rw apart (omega arith)
]

-- ---- one key

pub some_there : (found : Option Object) (place : Object → ℕ) → ((o : Object) → found ≡ Some o → 1 ≤ place o) → is_some found ≡ true → 1 ≤ option_map_or place found 0
some_there None place from there = absurd cc
some_there (Some o) place from there = from o refl

pub key_most : (key : Key) (known : Knowledge) (objects : List Object)
    → ((o : Object) → object_named key.attrs.name objects ≡ Some o → 1 ≤ place_reached key.target o.state) → need_of key known objects ≤ chain_length key + 2
key_most key known objects from = elim (cases_Bool (nat_le (chain_length key) known.done)) [
  | inl all ↦ rw all (omega arith)
  | inr less ↦ rw less (need_most known.phase (chain_length key) known.done (position key objects) (is_some (object_named key.attrs.name objects))
      (leb-false (chain_length key) known.done less)
      (some_there (object_named key.attrs.name objects) (λ o. place_reached key.target o.state) from))
]

pub key_finished : (key : Key) (known : Knowledge) (objects : List Object) → need_of key known objects ≡ 0 → verdict_of key known ≡ Finished
key_finished key known objects none = elim (cases_Bool (nat_le (chain_length key) known.done)) [
  | inl all ↦ rw all refl
  | inr less ↦
      let some = need_some known.phase (chain_length key) known.done (position key objects) (is_some (object_named key.attrs.name objects))
      (leb-false (chain_length key) known.done less) in
      absurd (omega (arith, some, rw less at none))
]

pub key_settled : (key : Key) (known : Knowledge) (objects : List Object) → known.clash ≡ None → is_working key known ≡ false → need_of key known objects ≡ 0
key_settled key known objects clear settled = elim (cases_Bool (nat_lt known.done (chain_length key))) [
  | inl more ↦
      let works : is_working key known ≡ true = rw more (ap (λ c. not (is_some c)) clear) in
      let t : true ≡ false = sym works ∙ settled in absurd cc
  | inr all ↦ finished_needs key known (object_named key.attrs.name objects) (ltb-false known.done (chain_length key) all)
]

finished_all : (key : Key) (known : Knowledge) → known.clash ≡ None → verdict_of key known ≡ Finished → chain_length key ≤ known.done
finished_all key known clear finished = elim (cases_Bool (nat_le (chain_length key) known.done)) [
  | inl all ↦ leb-true (chain_length key) known.done all
  | inr less ↦
      let left : clash_verdict known.clash ≡ Finished = rw less at finished in
      let t : Working ≡ Finished = sym (ap clash_verdict clear) ∙ left in absurd cc
]

pub position_within : ReachedIsWithin → (key : Key) (objects : List Object) → position key objects ≤ chain_length key
position_within reached key objects = by_found (object_named key.attrs.name objects) where
  by_found : (found : Option Object) → option_map_or (λ o. place_reached key.target o.state) found 0 ≤ chain_length key
  by_found None = omega arith
  by_found (Some o) = reached key.target o.state

pub key_at_the_end : ReachedIsWithin → (objects : List Object) (key : Key) (known : Knowledge) → IsHeld objects key known → verdict_of key known ≡ Finished
    → position key objects ≡ chain_length key
key_at_the_end reached objects key known held finished =
    omega (arith, held.holds.done_true, finished_all key known held.no_clash finished, position_within reached key objects)

pub chain_some : (target : Target) → 0 < length (chain target)
chain_some targets.Created = omega arith
chain_some targets.Active = omega arith
chain_some targets.Revoked = omega arith
chain_some targets.Destroyed = omega arith
chain_some targets.Discarded = omega arith

-- an object at the end of a chain is there
pub end_is_there : (key : Key) (objects : List Object) → position key objects ≡ chain_length key → (o : Object) × (object_named key.attrs.name objects ≡ Some o)
end_is_there key objects at_end = by_found (object_named key.attrs.name objects) refl where
  by_found : (found : Option Object) → object_named key.attrs.name objects ≡ found → (o : Object) × (object_named key.attrs.name objects ≡ Some o)
  by_found None is =
      let none : position key objects ≡ 0 = ap (place_in key) is in
      absurd (omega (arith, none, at_end, chain_some key.target))
  by_found (Some o) is = (o, is)

-- a key of which nothing is known, and which is not made
pub key_fresh : (key : Key) (objects : List Object) → object_named key.attrs.name objects ≡ None → need_of key fresh_knowledge objects ≡ chain_length key + 1
key_fresh key objects none =
    need_found key fresh_knowledge objects None none ∙ working_needs key fresh_knowledge phases.Look None refl (chain_some key.target)

-- What is left for one key, in numbers: n steps lead to its target, d are known to be done, its object is there or not and has had p
-- of them, and its next step is under way or not.
use Rattle.std.proofs.Common.{◌≡◌, ◌≢◌, ◌≤◌, ◌<◌, ℕ, ◌+◌, ◌-◌, Bool, true, false, not, nat_lt, nat_le, List, Option, Some, None, is_some, refl, sym, ap, ◌∙◌, ◌⊎◌, inl, inr, arith, if◌then◌else◌}
use Rattle.std.specs.Option.{is_none}
use Rattle.std.proofs.lemmas.Bool.{cases_Bool, leb-true, leb-false, le-leb, ltb-true, ltb-false}
use Rattle.kmip_objects.specs.Objects.{Object, object_named}
use Rattle.kmip_plan.specs.declared.key.Key.{Key}
use Rattle.kmip_client.specs.declared.knowledge.Knowledge.{Knowledge}
use Rattle.kmip_client.specs.declared.phase.Phase.{Phase}
use Rattle.kmip_client.specs.declared.phase.Phase.TheVariants as phases
use Rattle.kmip_client.specs.Knowledge.{chain_length}
use Rattle.kmip_client.specs.Clients.{one_if}
use Rattle.kmip_client.specs.Places.{position}
use Rattle.kmip_client.specs.Shapes.{IsKept, PhaseSuits}
use Rattle.kmip_protocol.specs.Past.{Past}
use Rattle.kmip_client.specs.Bounding.{most_left_of}
use Rattle.kmip_protocol.specs.Losing.{is_under_way, left_of}
use Rattle.kmip_protocol.specs.Needs.{need_in, need_of}
use Rattle.kmip_protocol.proofs.NeedLemmas.{go_even, go_behind, no_less, place_in, working_needs}

abbrev pub left_by : Phase → ℕ → ℕ → Bool → ℕ → Bool → ℕ
left_by phase n d there p under_way = if nat_le n d then 0 else need_in phase n d there p + one_if (not there) + one_if under_way

none_or_some : {A : Type 0} (found : Option A) → is_none found ≡ not (is_some found)
none_or_some None = refl
none_or_some (Some x) = refl

-- of a key, whose object is there or not
abbrev pub is_there : Key → Past → Bool
is_there key p = is_some (object_named key.attrs.name p.objects)

pub left_is : (key : Key) (known : Knowledge) (p : Past)
    → left_of key known p ≡ left_by known.phase (chain_length key) known.done (is_there key p) (position key p.objects) (is_under_way key p)
left_is key known p =
    ap (λ missing. if nat_le (chain_length key) known.done then 0
    else need_of key known p.objects + one_if missing + one_if (is_under_way key p)) (none_or_some (object_named key.attrs.name p.objects))
    ∙ once (nat_le (chain_length key) known.done) where
      once : (all : Bool) → (if all then 0 else (if all then 0
          else need_in known.phase (chain_length key) known.done (is_there key p) (position key p.objects)) + one_if (not (is_there key p)) + one_if (is_under_way key p))
          ≡ (if all then 0 else need_in known.phase (chain_length key) known.done (is_there key p) (position key p.objects) + one_if (not (is_there key p)) + one_if (is_under_way key p))
      once true = refl
      once false = refl

pub need_left : (key : Key) (known : Knowledge) (p : Past) → need_of key known p.objects ≤ left_of key known p
need_left key known p = elim (cases_Bool (nat_le (chain_length key) known.done)) [
  | inl all ↦ rw all (omega arith)
  | inr less ↦ rw less (omega arith)
]

-- ---- what is known allows

most_of_kept : (n : ℕ) (uid other : Option (List ℕ)) (d e : ℕ) → ((own : List ℕ) → uid ≡ Some own → other ≡ Some own) → d ≤ e
    → (if is_some other then n + 1 - (e - 1) else n + 3) ≤ (if is_some uid then n + 1 - (d - 1) else n + 3)
most_of_kept n None None d e kept more = omega arith
most_of_kept n None (Some other) d e kept more = omega arith
most_of_kept n (Some uid) None d e kept more = let t : None ≡ Some uid = kept uid refl in absurd cc
most_of_kept n (Some uid) (Some other) d e kept more = omega (arith, more)

pub most_falls : (key : Key) (old new : Knowledge) → IsKept old new → most_left_of key new ≤ most_left_of key old
most_falls key old new kept = elim (cases_Bool (nat_le (chain_length key) new.done)) [
  | inl all ↦ rw all (omega arith)
  | inr less ↦
      let below = leb-false (chain_length key) new.done less in
      elim (cases_Bool (nat_le (chain_length key) old.done)) [
        | inl before ↦ absurd (omega (arith, below, leb-true (chain_length key) old.done before, kept.done_kept))
        | inr so ↦ rw (less, so) (most_of_kept (chain_length key) old.identifier new.identifier old.done new.done kept.identifier_kept kept.done_kept)
      ]
]

pub one_at_most : (b : Bool) → one_if b ≤ 1
one_at_most true = omega arith
one_at_most false = omega arith

-- where the client has gone as far as the object, and where the object has gone further
go_needs : (n d p : ℕ) → d ≤ p → ((d ≡ p) × (need_in phases.Go n d true p ≡ n - p)) ⊎ ((d < p) × (need_in phases.Go n d true p ≡ n - p + 2))
go_needs n d p had = elim (cases_Bool (nat_lt d p)) [
  | inl less ↦ let less = ltb-true d p less in inr (less, go_behind n d p less)
  | inr even ↦ let same : d ≡ p = omega (arith, had, ltb-false d p even) in inl (same, go_even n d p same)
]

-- What is true of the numbers of a key that is worked on.
pub record AreNumbers (phase : Phase) (n d p : ℕ) (there : Bool) (uid : Option (List ℕ)) : Type 0 where
  pub suits : PhaseSuits phase uid d
  pub had : d ≤ p
  pub within : p ≤ n
  pub from : there ≡ true → 1 ≤ p
  pub none : there ≡ false → p ≡ 0
  pub own : is_some uid ≡ true → there ≡ true
  pub has_identifier : 1 ≤ d → uid ≢ None

most_by : (phase : Phase) (n d p : ℕ) (there under_way : Bool) (uid : Option (List ℕ)) → AreNumbers phase n d p there uid → d < n
    → need_in phase n d there p + one_if (not there) + one_if under_way ≤ (if is_some uid then n + 1 - (d - 1) else n + 3)
most_by phases.Look n d p true w None are more = let u = one_at_most w in let from = are.from refl in let within = are.within in omega (arith, u, from, within)
most_by phases.Look n d p false w None are more = let u = one_at_most w in omega (arith, u)
most_by phases.Look n d p there w (Some uid) are more = let t : Some uid ≡ None = are.suits in absurd cc
most_by phases.Make n d p true w None are more = let u = one_at_most w in let from = are.from refl in let within = are.within in omega (arith, u, from, within)
most_by phases.Make n d p false w None are more = let u = one_at_most w in omega (arith, u)
most_by phases.Make n d p there w (Some uid) are more = let t : Some uid ≡ None = are.suits in absurd cc
most_by phases.Check n d p there w None are more = absurd (are.suits refl)
most_by phases.Check n d p true w (Some uid) are more =
    let u = one_at_most w in let from = are.from refl in let within = are.within in let had = are.had in omega (arith, u, from, within, had, more)
most_by phases.Check n d p false w (Some uid) are more = let t : false ≡ true = are.own refl in absurd cc
most_by phases.Go n d p there w None are more = absurd (are.suits.0 refl)
most_by phases.Go n d p false w (Some uid) are more = let t : false ≡ true = are.own refl in absurd cc
most_by phases.Go n d p true w (Some uid) are more =
    let u = one_at_most w in
    let within = are.within in
    let some = are.suits.1 in
    elim (go_needs n d p are.had) [
      | inl even ↦ omega (arith, u, within, some, even.0, even.1)
      | inr behind ↦ omega (arith, u, within, some, behind.0, behind.1)
    ]

pub most_known : (key : Key) (known : Knowledge) (p : Past)
    → AreNumbers known.phase (chain_length key) known.done (position key p.objects) (is_there key p) known.identifier
    → left_of key known p ≤ most_left_of key known
most_known key known p are = elim (cases_Bool (nat_le (chain_length key) known.done)) [
  | inl all ↦ rw all (omega arith)
  | inr less ↦
      let most = most_by known.phase (chain_length key) known.done (position key p.objects) (is_there key p) (is_under_way key p) known.identifier are
      (leb-false (chain_length key) known.done less) in
      let here = ap one_if (none_or_some (object_named key.attrs.name p.objects)) in
      rw less (omega (arith, most, here))
]

pub most_most : (key : Key) (known : Knowledge) → most_left_of key known ≤ chain_length key + 3
most_most key known = elim (cases_Bool (nat_le (chain_length key) known.done)) [
  | inl all ↦ rw all (omega arith)
  | inr less ↦ rw less (by_uid known.identifier)
] where
  by_uid : (uid : Option (List ℕ)) → (if is_some uid then chain_length key + 1 - (known.done - 1) else chain_length key + 3) ≤ chain_length key + 3
  by_uid None = omega arith
  by_uid (Some uid) = omega arith

-- ---- what arrives late

late_by : (phase : Phase) (n d p : ℕ) (there : Bool) (uid : Option (List ℕ)) → AreNumbers phase n d p there uid → p + 1 ≤ n
    → need_in phase n d true (p + 1) ≤ need_in phase n d there p + one_if (not there) + 1
late_by phases.Look n d p true uid are within = omega (arith, within)
late_by phases.Look n d p false uid are within = let none = are.none refl in omega (arith, within, none)
late_by phases.Make n d p true uid are within = omega (arith, within)
late_by phases.Make n d p false uid are within = let none = are.none refl in omega (arith, within, none)
late_by phases.Check n d p true uid are within = omega (arith, within)
late_by phases.Check n d p false uid are within = omega (arith, within)
late_by phases.Go n d p there uid are within =
    let after = go_behind n d (p + 1) (let had = are.had in omega (arith, had)) in
    elim (go_needs n d p are.had) [
      | inl even ↦ omega (arith, within, after, even.1)
      | inr behind ↦ omega (arith, within, after, behind.1)
    ]

pub late_left : (phase : Phase) (n d p q : ℕ) (there now : Bool) (uid : Option (List ℕ)) → AreNumbers phase n d p there uid → AreNumbers phase n d q now uid
    → q ≡ p + 1 → left_by phase n d now q false ≤ left_by phase n d there p true
late_left phase n d p q there true uid are after further = elim (cases_Bool (nat_le n d)) [
  | inl all ↦ rw all (omega arith)
  | inr less ↦
      let within = after.within in
      let late = late_by phase n d p there uid are (omega (arith, within, further)) in
      let same : need_in phase n d true q ≡ need_in phase n d true (p + 1) = ap (need_in phase n d true) further in
      rw less (omega (arith, late, same))
]
late_left phase n d p q there false uid are after further = absurd (omega (arith, after.none refl, further))

-- an object is there where a step was had
pub same_there : (p q : ℕ) (there now : Bool) → p ≡ q → (there ≡ true → 1 ≤ p) → (there ≡ false → p ≡ 0) → (now ≡ true → 1 ≤ q) → (now ≡ false → q ≡ 0)
    → there ≡ now
same_there p q true true same some none any nothing = refl
same_there p q false false same some none any nothing = refl
same_there p q true false same some none any nothing = absurd (omega (arith, same, some refl, nothing refl))
same_there p q false true same some none any nothing = absurd (omega (arith, same, none refl, any refl))

-- ---- a key that is worked on, and one that is finished

pub working_left : (key : Key) (known : Knowledge) (p : Past) → known.done < chain_length key
    → left_of key known p
    ≡ need_in known.phase (chain_length key) known.done (is_there key p) (position key p.objects) + one_if (not (is_there key p)) + one_if (is_under_way key p)
working_left key known p more =
    left_is key known p
    ∙ ap (λ all. if all then 0
    else need_in known.phase (chain_length key) known.done (is_there key p) (position key p.objects) + one_if (not (is_there key p)) + one_if (is_under_way key p))
    (no_less (chain_length key) known.done more)

pub finished_left : (key : Key) (known : Knowledge) (p : Past) → chain_length key ≤ known.done → left_of key known p ≡ 0
finished_left key known p all =
    left_is key known p
    ∙ ap (λ all. if all then 0
    else need_in known.phase (chain_length key) known.done (is_there key p) (position key p.objects) + one_if (not (is_there key p)) + one_if (is_under_way key p))
    (le-leb (chain_length key) known.done all)

-- ---- what is asked

pub way_left : (phase : Phase) (n d p : ℕ) (there now was : Bool) → left_by phase n d there p now ≤ left_by phase n d there p was + 1
way_left phase n d p there now was = elim (cases_Bool (nat_le n d)) [
  | inl all ↦ rw all (omega arith)
  | inr less ↦ rw less (let one = one_at_most now in omega (arith, one))
]

-- ---- an exchange that teaches

-- the same object, and the same steps under way
pub left_same : (key : Key) (known : Knowledge) (old new : Past) → object_named key.attrs.name new.objects ≡ object_named key.attrs.name old.objects
    → is_under_way key new ≡ is_under_way key old → left_of key known new ≡ left_of key known old
left_same key known old new same way =
    left_is key known new
    ∙ ap (λ found. left_by known.phase (chain_length key) known.done (is_some found) (place_in key found) (is_under_way key new)) same
    ∙ ap (left_by known.phase (chain_length key) known.done (is_there key old) (position key old.objects)) way
    ∙ sym (left_is key known old)

-- what is left beside the need
pub left_within : (key : Key) (known : Knowledge) (p : Past)
    → left_of key known p ≤ need_of key known p.objects + one_if (not (is_there key p)) + one_if (is_under_way key p)
left_within key known p = elim (cases_Bool (nat_lt known.done (chain_length key))) [
  | inl works ↦
      let more = ltb-true known.done (chain_length key) works in
      omega (arith, working_left key known p more, working_needs key known known.phase (object_named key.attrs.name p.objects) refl more)
  | inr all ↦ omega (arith, finished_left key known p (ltb-false known.done (chain_length key) all))
]

pub left_beside : (key : Key) (known : Knowledge) (p : Past) → known.done < chain_length key
    → left_of key known p ≡ need_of key known p.objects + one_if (not (is_there key p)) + one_if (is_under_way key p)
left_beside key known p more =
    omega (arith, working_left key known p more, working_needs key known known.phase (object_named key.attrs.name p.objects) refl more)

-- the steps that are left to do are needed
least_by : (phase : Phase) (n d p : ℕ) (there : Bool) → d ≤ p → n - p ≤ need_in phase n d there p
least_by phases.Look n d p true had = omega arith
least_by phases.Look n d p false had = omega arith
least_by phases.Make n d p true had = omega arith
least_by phases.Make n d p false had = omega arith
least_by phases.Check n d p there had = omega arith
least_by phases.Go n d p there had = elim (go_needs n d p had) [
  | inl even ↦ omega (arith, even.1)
  | inr behind ↦ omega (arith, behind.1)
]

pub need_least : (key : Key) (known : Knowledge) (objects : List Object) → known.done ≤ position key objects
    → chain_length key - position key objects ≤ need_of key known objects
need_least key known objects had = elim (cases_Bool (nat_lt known.done (chain_length key))) [
  | inl works ↦
      let least = least_by known.phase (chain_length key) known.done (position key objects) (is_some (object_named key.attrs.name objects)) had in
      omega (arith, least, working_needs key known known.phase (object_named key.attrs.name objects) refl (ltb-true known.done (chain_length key) works))
  | inr all ↦ omega (arith, had, ltb-false known.done (chain_length key) all)
]

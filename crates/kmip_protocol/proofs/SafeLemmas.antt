-- What is sound is safe.
use Rattle.std.proofs.Common.{◌≡◌, ◌≤◌, ◌<◌, ◌+◌, ℕ, zero, suc, List, [], ◌∷◌, take, length, slice_get, option_to_list}
use Rattle.std.proofs.Common.{Option, Some, None, refl, sym, ap, subst, ◌∙◌, inl, inr, ◌⊎◌, arith}
use Rattle.std.specs.List.{All, Contains}
use Rattle.std.proofs.lemmas.List.Elements.{All-contains, All-weaker, Contains-append_cases, Contains-append_left}
use Rattle.std.proofs.lemmas.List.Elements.{Contains-append_right, Contains-push, Contains-push_cases}
use Rattle.kmip_objects.specs.Objects.{Object, object_named}
use Rattle.kmip_objects.specs.declared.step.Step.{Step}
use Rattle.kmip_batch_items.specs.declared.outcome.Outcome.{Outcome}
use Rattle.kmip_batch_items.specs.declared.request.Request.{Request}
use Rattle.kmip_plan.specs.Chains.{chain, step_at, step_place}
use Rattle.kmip_plan.specs.declared.key.Key.{Key}
use Rattle.kmip_plan.specs.declared.target.Target.{Target}
use Rattle.kmip_client.specs.Places.{position}
use Rattle.kmip_server.specs.ServerStep.{ServerStep}
use Rattle.kmip_server.specs.declared.effect.Effect.{Effect}
use Rattle.kmip_protocol.specs.PrivateLawbook.{Lawbook}
use Rattle.kmip_protocol.specs.Laws.{IsReached}
use Rattle.kmip_protocol.specs.Past.{Past, steps_on}
use Rattle.kmip_protocol.specs.Headline.{Safe, AgainChangesNothing, all_named, step_of_ask}
use Rattle.kmip_protocol.specs.Sound.{IsHarmless, Sound}
use Rattle.kmip_protocol.proofs.ReplyLemmas.{same_name}
use Rattle.kmip_protocol.proofs.ServedLemmas.{serve_does}

-- what stands at a place is among the first, and what is among the first stands at a place
in_front : {A : Type 0} (xs : List A) (k n : ℕ) (x : A) → slice_get xs k ≡ Some x → k < n → Contains (take n xs) x
in_front [] k n x is below = absurd cc
in_front (y ∷ ys) k zero x is below = absurd (omega (arith, below))
in_front (y ∷ ys) zero (suc n) x is below =
    let one : y ≡ x = cc in
    subst (Contains (y ∷ take n ys)) one (Contains-append_left (y ∷ []) (take n ys) y (Contains-push [] y))
in_front (y ∷ ys) (suc k) (suc n) x is below =
    Contains-append_right (y ∷ []) (take n ys) x (in_front ys k n x is (omega (arith, below)))

pub first_or_later : {A : Type 0} (y : A) (ys : List A) (x : A) → Contains (y ∷ ys) x → (y ≡ x) ⊎ Contains ys x
first_or_later y ys x has = elim (Contains-append_cases (y ∷ []) ys x has) [
  | inl first ↦ elim (Contains-push_cases [] y x first) [
    | inl none ↦ let below = none.1 in absurd (omega (arith, below))
    | inr one ↦ inl one
  ]
  | inr later ↦ inr later
]

from_front : {A : Type 0} (xs : List A) (n : ℕ) (x : A) → Contains (take n xs) x → (k : ℕ) × (slice_get xs k ≡ Some x)
    × (k < n)
from_front [] zero x has = let below = has.1 in absurd (omega (arith, below))
from_front [] (suc n) x has = let below = has.1 in absurd (omega (arith, below))
from_front (y ∷ ys) zero x has = let below = has.1 in absurd (omega (arith, below))
from_front (y ∷ ys) (suc n) x has = elim (first_or_later y (take n ys) x has) [
  | inl one ↦ (zero, ap (λ z. Some z) one, omega arith)
  | inr later ↦
      let (k, is, below) = from_front ys n x later in
      (suc k, is, omega (arith, below))
]

-- the step before a place
step_before : (target : Target) (place : ℕ) (step : Step) → 1 ≤ place → step_at target place ≡ Some step
    → (k : ℕ) × (slice_get (chain target) k ≡ Some step) × (place ≡ k + 1)
step_before target zero step from is = absurd (omega (arith, from))
step_before target (suc k) step from is = (k, is, omega arith)

step_after : (target : Target) (k : ℕ) (step : Step) → slice_get (chain target) k ≡ Some step
    → step_at target (suc k) ≡ Some step
step_after target k step is = is

pub early : (l : Lawbook) (target : Target) (step : Step) (n : ℕ) → 1 ≤ step_place target step
    → step_place target step ≤ n → Contains (take n (chain target)) step
early l target step n from within =
    let (k, is, one) = step_before target (step_place target step) step from
    ((l.plan.places target (step_place target step) step from).1 refl) in
    in_front (chain target) k n step is (omega (arith, one, within))

pub among : (l : Lawbook) (target : Target) (step : Step) (n : ℕ) → Contains (take n (chain target)) step
    → step_place target step ≤ n
among l target step n has =
    let (k, is, below) = from_front (chain target) n step has in
    let place : step_place target step ≡ suc k = (l.plan.places target (suc k) step (omega arith)).0
    (step_after target k step is) in
    omega (arith, place, below)

at_most_one : {A : Type 0} (found : Option A) → length (option_to_list found) ≤ 1
at_most_one None = omega arith
at_most_one (Some x) = omega arith

one_object : (l : Lawbook) (keys : List Key) (p : Past) (key : Key) → Sound keys p
    → length (all_named key.attrs.name p.objects) ≤ 1
one_object l keys p key sound =
    let all : length (all_named key.attrs.name p.objects) ≡ length
    (option_to_list (object_named key.attrs.name p.objects)) =
    ap (λ found. length found) (l.objects.all_named key.attrs.name p.objects sound.names) in
    let one = at_most_one (object_named key.attrs.name p.objects) in
    omega (arith, all, one)

reached_true : (l : Lawbook) (keys : List Key) (p : Past) (effect : Effect) → Sound keys p → IsReached keys p effect
    → Contains (steps_on effect.name p.effects) effect.step
reached_true l keys p effect sound (key, planned, named, from, within) =
    subst (λ name. Contains (steps_on name p.effects) effect.step) (sym named)
    (subst (λ steps. Contains steps effect.step) (sym (sound.effects.planned key planned))
    (early l key.target effect.step (position key p.objects) from within))

pub same_step : (a b : Step) → Some a ≡ Some b → a ≡ b
same_step a b is = cc

again : (l : Lawbook) (keys : List Key) (p : Past) → Sound keys p → (request : Request) (operation : ℕ) (name : List ℕ)
    (step : Step) (outcome : Outcome) (objects : List Object)
    → request.id ≡ Some (operation ∷ name) → step_of_ask request.ask ≡ Some step
    → Contains (steps_on name p.effects) step → ServerStep p.room p.objects request.ask outcome objects
    → IsHarmless keys p.objects request → objects ≡ p.objects
again l keys p sound request operation name step outcome objects id is_step has served (inr outside) =
    let t : None ≡ Some step = sym outside.no_step ∙ is_step in absurd cc
again l keys p sound request operation name step outcome objects id is_step has served (inl just) =
    let key = just.key in
    let named : name ≡ key.attrs.name = same_name _ _ _ _ (sym id ∙ just.id_is) in
    let first : Contains (take (position key p.objects) (chain key.target)) step =
    subst (λ steps. Contains steps step) (ap (λ n. steps_on n p.effects) named
    ∙ sound.effects.planned key just.is_planned) has in
    let within = among l key.target step (position key p.objects) first in
    elim (serve_does l keys key p.room p.objects objects request.ask outcome just.is_planned sound.objects sound.names
    sound.uids just.may served) [
      | inl same ↦ same
      | inr steps ↦
          let one : steps.step ≡ step = same_step _ _ (sym steps.is_asked ∙ is_step) in
          let place : step_place key.target step ≡ position key p.objects + 1 = ap (step_place key.target) (sym one)
          ∙ steps.place in
          absurd (omega (arith, within, place))
    ]

pub nothing_again : (l : Lawbook) (keys : List Key) (p : Past) → Sound keys p → AgainChangesNothing p
nothing_again l keys p sound = λ request operation name step outcome objects asked id is_step has served.
    again l keys p sound request operation name step outcome objects id is_step has served
    (All-contains (IsHarmless keys p.objects) p.requests request sound.requests asked)

pub sound_safe : (l : Lawbook) (keys : List Key) (p : Past) (reported : List Effect) → Sound keys p
    → All (IsReached keys p) reported → Safe keys p reported
sound_safe l keys p reported sound reached = record {
  one_object = λ key planned. one_object l keys p key sound;
  attrs = λ key o planned is. (sound.objects key o planned is).attrs_are;
  effects = sound.effects.planned;
  reported_true = All-weaker (IsReached keys p) (λ effect. Contains (steps_on effect.name p.effects) effect.step)
      (λ effect is. reached_true l keys p effect sound is) reported reached;
  again = nothing_again l keys p sound;
}

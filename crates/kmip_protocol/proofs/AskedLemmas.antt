-- Which steps of a key were asked: none beyond the one after its position, and each that takes effect.
use Rattle.std.proofs.Common.{◌≡◌, ◌≤◌, ◌<◌, ℕ, ◌+◌, Bool, true, false, nat_eq, List, [], ◌∷◌, option_map, Option, Some}
use Rattle.std.proofs.Common.{None, subst, refl, sym, ap, ◌∙◌, inl, inr, arith}
use Rattle.std.specs.Cmp.Lexicographic.{pointwise}
use Rattle.std.specs.List.{All, Contains, list_any}
use Rattle.std.specs.Option.{option_map_or}
use Rattle.std.proofs.lemmas.Bool.{cases_Bool}
use Rattle.std.proofs.lemmas.List.Elements.{All-cons, All-contains, All-nil, All-weaker}
use Rattle.std.proofs.lemmas.List.Folds.{list_any_none}
use Rattle.std.proofs.lemmas.Option.{same_Some}
use Rattle.std.proofs.lemmas.Slice.Eq.{bytes_eq-Decides}
use Rattle.kmip_objects.specs.Objects.{Object, object_named, object_with, DistinctUids}
use Rattle.kmip_objects.specs.Ranges.{is_compromise}
use Rattle.kmip_objects.specs.declared.step.Step.{Step}
use Rattle.kmip_objects.specs.declared.step.Step.TheVariants.{Create, Activate, Revoke, Destroy}
use Rattle.kmip_batch_items.specs.Operations.{operation_of}
use Rattle.kmip_batch_items.specs.declared.outcome.Outcome.{Outcome}
use Rattle.kmip_batch_items.specs.declared.ask.Ask.{Ask}
use Rattle.kmip_batch_items.specs.declared.ask.Ask.TheVariants as asks
use Rattle.kmip_batch_items.specs.declared.request.Request.{Request}
use Rattle.kmip_plan.specs.Chains.{step_place}
use Rattle.kmip_plan.specs.declared.key.Key.{Key}
use Rattle.kmip_plan.specs.Plans.{IsPlanned}
use Rattle.kmip_client.specs.Hearing.{step_of}
use Rattle.kmip_client.specs.Justified.{MayAsk}
use Rattle.kmip_client.specs.Places.{position, uid_of}
use Rattle.kmip_client.specs.Questions.{id_of, step_ask}
use Rattle.kmip_server.specs.Again.{has_failed}
use Rattle.kmip_server.specs.Effects.{effect_asked, effect_of, effect_on}
use Rattle.kmip_protocol.specs.Past.{Past}
use Rattle.kmip_protocol.specs.Headline.{step_of_ask}
use Rattle.kmip_protocol.specs.Sound.{IsHarmless, Sound}
use Rattle.kmip_server.specs.declared.effect.Effect.{Effect}
use Rattle.kmip_protocol.specs.PrivateSettlingLawbook.{Lawbook}
use Rattle.kmip_protocol.specs.Losing.{is_id, step_id, was_asked}
use Rattle.kmip_protocol.proofs.OutsideLemmas.{not_own}
use Rattle.kmip_protocol.proofs.SettlingChangeLemmas.{same_key}
use Rattle.kmip_protocol.proofs.FilterLemmas.{same_text}

-- ---- what some of a list passes

none_passes : {A : Type 0} (test : A → Bool) (xs : List A) → list_any test xs ≡ false → All (λ x. test x ≡ false) xs
none_passes test [] none = All-nil (λ x. test x ≡ false)
none_passes test (x ∷ xs) none = elim (cases_Bool (test x)) [
  | inl passes ↦ let t : true ≡ false = rw passes at none in absurd cc
  | inr fails ↦ All-cons (λ x. test x ≡ false) x xs fails (none_passes test xs (rw fails at none))
]

pub one_passes : {A : Type 0} (test : A → Bool) (xs : List A) (x : A) → Contains xs x → test x ≡ true
    → list_any test xs ≡ true
one_passes test xs x has passes = elim (cases_Bool (list_any test xs)) [
  | inl some ↦ some
  | inr none ↦
      let fails : test x ≡ false = All-contains (λ x. test x ≡ false) xs x (none_passes test xs none) has in
      let t : true ≡ false = sym passes ∙ fails in absurd cc
]

-- ---- the step of an operation

pub step_is_asked : (key : Key) (uid : List ℕ) (step : Step)
    → step_of (operation_of (step_ask key uid step)) ≡ Some step
step_is_asked key uid Create = refl
step_is_asked key uid Activate = refl
step_is_asked key uid Revoke = refl
step_is_asked key uid Destroy = refl

pub ask_is_step : (ask : Ask) → step_of (operation_of ask) ≡ step_of_ask ask
ask_is_step (asks.Create attrs) = refl
ask_is_step (asks.Locate mask filter) = refl
ask_is_step (asks.GetAttributes uid) = refl
ask_is_step (asks.Activate uid) = refl
ask_is_step (asks.Revoke uid code) = refl
ask_is_step (asks.Destroy uid) = refl

step_operation : (key : Key) (ask : Ask) (step : Step) → step_of_ask ask ≡ Some step
    → operation_of ask ≡ operation_of (step_ask key [] step)
step_operation key (asks.Create attrs) step is = ap (λ s. operation_of (step_ask key [] s)) (same_Some Create step is)
step_operation key (asks.Locate mask filter) step is = absurd cc
step_operation key (asks.GetAttributes uid) step is = absurd cc
step_operation key (asks.Activate uid) step is = ap (λ s. operation_of (step_ask key [] s)) (same_Some Activate step is)
step_operation key (asks.Revoke uid code) step is =
    ap (λ s. operation_of (step_ask key [] s)) (same_Some Revoke step is)
step_operation key (asks.Destroy uid) step is = ap (λ s. operation_of (step_ask key [] s)) (same_Some Destroy step is)

-- ---- no step beyond the next one was asked

asked_within : (objects : List Object) (key : Key) (ask : Ask) (step : Step) → MayAsk objects key ask
    → step_of_ask ask ≡ Some step
    → step_place key.target step ≤ position key objects + 1
asked_within objects key (asks.Create attrs) step may is =
    subst (λ s. step_place key.target s ≤ position key objects + 1) (same_Some Create step is)
    (let one : 1 ≤ position key objects + 1 = omega arith in one)
asked_within objects key (asks.Locate mask filter) step may is = absurd cc
asked_within objects key (asks.GetAttributes uid) step may is = absurd cc
asked_within objects key (asks.Activate uid) step may is =
    subst (λ s. step_place key.target s ≤ position key objects + 1) (same_Some Activate step is) may.due
asked_within objects key (asks.Revoke uid code) step may is =
    subst (λ s. step_place key.target s ≤ position key objects + 1) (same_Some Revoke step is) may.0.due
asked_within objects key (asks.Destroy uid) step may is =
    subst (λ s. step_place key.target s ≤ position key objects + 1) (same_Some Destroy step is) may.due

pub same_parts : (a b : ℕ) (xs ys : List ℕ) → a ∷ xs ≡ b ∷ ys → (a ≡ b) × (xs ≡ ys)
same_parts a b xs ys is = (cc, cc)

not_beyond : (keys : List Key) (key : Key) (objects : List Object) (step : Step) (request : Request)
    → IsPlanned keys key
    → position key objects + 1 < step_place key.target step → IsHarmless keys objects request
    → is_id (step_id key step) request ≡ false
not_beyond keys key objects step request planned beyond (inr outside) =
    not_own (step_id key step) request.id (outside.no_key (operation_of (step_ask key [] step)) key (inl planned))
not_beyond keys key objects step request planned beyond (inl just) =
    elim (cases_Bool (pointwise nat_eq (step_id key step) (id_of (operation_of request.ask) just.key))) [
      | inl same ↦
          let parts = same_parts (operation_of (step_ask key [] step)) (operation_of request.ask) key.attrs.name
          just.key.attrs.name
          ((bytes_eq-Decides (step_id key step) (id_of (operation_of request.ask) just.key)).0 same) in
          let one : key ≡ just.key = same_key keys key just.key planned just.is_planned (sym parts.1) in
          let is : step_of_ask request.ask ≡ Some step = sym (ask_is_step request.ask) ∙ ap step_of (sym parts.0)
          ∙ step_is_asked key [] step in
          let within = asked_within objects key request.ask step
          (subst (λ k. MayAsk objects k request.ask) (sym one) just.may) is in
          absurd (omega (arith, within, beyond))
      | inr apart ↦ ap (λ id. option_map_or (pointwise nat_eq (step_id key step)) id false) just.id_is ∙ apart
    ]

pub none_beyond : (keys : List Key) (p : Past) (key : Key) (step : Step) → Sound keys p → IsPlanned keys key
    → position key p.objects + 1 < step_place key.target step → was_asked key p.requests step ≡ false
none_beyond keys p key step sound planned beyond =
    list_any_none (is_id (step_id key step)) p.requests
    (All-weaker (IsHarmless keys p.objects) (λ request. is_id (step_id key step) request ≡ false)
    (λ request may. not_beyond keys key p.objects step request planned beyond may) p.requests sound.requests)

-- ---- each step that takes effect was

abbrev IsEffectOf : Key → Ask → Effect → Type 0
IsEffectOf key ask effect = (key.attrs.name ≡ effect.name) × (step_of_ask ask ≡ Some effect.step)

effect_on_own : (l : Lawbook) (key : Key) (objects : List Object) (ask : Ask) (step : Step) (uid : List ℕ)
    (effect : Effect) → DistinctUids objects
    → uid_of key objects ≡ Some uid → step_of_ask ask ≡ Some step → effect_on objects (Some (step, uid)) ≡ Some effect
    → IsEffectOf key ask effect
effect_on_own l key objects ask step uid effect uids own is does =
    by_own (object_named key.attrs.name objects) refl own where
      by_own : (found : Option Object) → object_named key.attrs.name objects ≡ found
          → option_map (λ o. o.uid) found ≡ Some uid → IsEffectOf key ask effect
      by_own None named same = absurd cc
      by_own (Some o) named same =
          let with_uid : object_with uid objects ≡ Some o = ap (λ u. object_with u objects)
          (sym (same_Some o.uid uid same)) ∙ l.objects.by_identifier key.attrs.name objects o uids named in
          let it : Effect = record { name = o.attrs.name; step = step } in
          let one : it ≡ effect = same_Some it effect
          (ap (λ found. option_map (λ (x : Object). record { name = x.attrs.name; step = step }) found) (sym with_uid)
          ∙ does) in (
            sym (l.objects.named key.attrs.name objects o named).0 ∙ ap (λ (e : Effect). e.name) one,
            is
                ∙ ap (λ (e : Effect). Some e.step) one,
          )

effect_named : (l : Lawbook) (key : Key) (objects : List Object) (ask : Ask) (effect : Effect) → DistinctUids objects
    → MayAsk objects key ask
    → effect_asked objects ask ≡ Some effect → IsEffectOf key ask effect
effect_named l key objects (asks.Create attrs) effect uids may does =
    let it : Effect = record { name = attrs.name; step = Create } in
    let one : it ≡ effect = same_Some it effect does in
    (sym (ap (λ a. a.name) may) ∙ ap (λ (e : Effect). e.name) one, ap (λ (e : Effect). Some e.step) one)
effect_named l key objects (asks.Locate mask filter) effect uids may does = absurd cc
effect_named l key objects (asks.GetAttributes uid) effect uids may does = absurd cc
effect_named l key objects (asks.Activate uid) effect uids may does =
    effect_on_own l key objects (asks.Activate uid) Activate uid effect uids may.uid_is refl does
effect_named l key objects (asks.Revoke uid code) effect uids may does = elim (cases_Bool (is_compromise code)) [
  | inl compromised ↦ let none : None ≡ Some effect = rw compromised at does in absurd cc
  | inr other ↦ effect_on_own l key objects (asks.Revoke uid code) Revoke uid effect uids may.0.uid_is refl
      (rw other at does)
]
effect_named l key objects (asks.Destroy uid) effect uids may does =
    effect_on_own l key objects (asks.Destroy uid) Destroy uid effect uids may.uid_is refl does

has_effect : (objects : List Object) (ask : Ask) (outcome : Outcome) (effect : Effect)
    → effect_of objects ask outcome ≡ Some effect
    → effect_asked objects ask ≡ Some effect
has_effect objects ask outcome effect does = elim (cases_Bool (has_failed outcome)) [
  | inl failed ↦ let none : None ≡ Some effect = rw failed at does in absurd cc
  | inr done ↦ rw done at does
]

-- what asks for no step has no effect
no_effect : (objects : List Object) (ask : Ask) (effect : Effect) → step_of_ask ask ≡ None
    → effect_asked objects ask ≡ Some effect → ⊥
no_effect objects (asks.Create attrs) effect none does = absurd cc
no_effect objects (asks.Locate mask filter) effect none does = absurd cc
no_effect objects (asks.GetAttributes uid) effect none does = absurd cc
no_effect objects (asks.Activate uid) effect none does = absurd cc
no_effect objects (asks.Revoke uid code) effect none does = absurd cc
no_effect objects (asks.Destroy uid) effect none does = absurd cc

pub effect_was_asked : (l : Lawbook) (keys : List Key) (p : Past) (key : Key) (request : Request) (outcome : Outcome)
    (effect : Effect) → Sound keys p
    → IsPlanned keys key → Contains p.requests request → effect_of p.objects request.ask outcome ≡ Some effect
    → key.attrs.name ≡ effect.name
    → was_asked key p.requests effect.step ≡ true
effect_was_asked l keys p key request outcome effect sound planned asked does named =
    by (All-contains (IsHarmless keys p.objects) p.requests request sound.requests asked) where
      by : IsHarmless keys p.objects request → was_asked key p.requests effect.step ≡ true
      by (inr outside) =
          absurd (no_effect p.objects request.ask effect outside.no_step
          (has_effect p.objects request.ask outcome effect does))
      by (inl just) =
          let own = effect_named l just.key p.objects request.ask effect sound.uids just.may
          (has_effect p.objects request.ask outcome effect does) in
          let one : key ≡ just.key = same_key keys key just.key planned just.is_planned (own.0 ∙ sym named) in
          let id : step_id key effect.step ≡ id_of (operation_of request.ask) just.key =
          ap (λ operation. id_of operation key) (sym (step_operation key request.ask effect.step own.1))
          ∙ ap (id_of (operation_of request.ask)) one in
          one_passes (is_id (step_id key effect.step)) p.requests request asked
          (ap (λ id. option_map_or (pointwise nat_eq (step_id key effect.step)) id false) just.id_is
          ∙ same_text (step_id key effect.step) (id_of (operation_of request.ask) just.key) id)

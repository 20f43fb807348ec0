-- A request outside the plan: what serving it leaves, whose reply it may have, and for which plans it is outside.
use Rattle.std.proofs.Common.{◌≡◌, ◌≢◌, ℕ, nat_eq, true, false, List, [], ◌∷◌, Option, Some, None, refl, sym, ap}
use Rattle.std.proofs.Common.{◌∙◌, inl, inr}
use Rattle.std.specs.Cmp.Lexicographic.{pointwise}
use Rattle.std.specs.List.{All, list_all}
use Rattle.std.specs.Option.{option_map_or}
use Rattle.std.proofs.lemmas.Bool.{and_parts, cases_Bool, false_from_ne_true}
use Rattle.std.proofs.lemmas.List.Elements.{All-cons, All-head, All-nil, All-tail, All-weaker}
use Rattle.std.proofs.lemmas.Option.{same_Some}
use Rattle.std.proofs.lemmas.Slice.Eq.{bytes_eq-Decides}
use Rattle.kmip_objects.specs.Objects.{Object}
use Rattle.kmip_objects.specs.declared.step.Step.{Step}
use Rattle.kmip_batch_items.specs.declared.ask.Ask.{Ask}
use Rattle.kmip_batch_items.specs.declared.outcome.Outcome.{Outcome}
use Rattle.kmip_batch_items.specs.declared.request.Request.{Request}
use Rattle.kmip_plan.specs.Plans.{IsLawful, IsPlanned, key_fits, key_named}
use Rattle.kmip_plan.specs.declared.key.Key.{Key}
use Rattle.kmip_client.specs.Justified.{Justified}
use Rattle.kmip_client.specs.Places.{Onward}
use Rattle.kmip_server.specs.ServerStep as rows
use Rattle.kmip_server.specs.ServerStep.{ServerStep}
use Rattle.kmip_protocol.specs.Headline.{step_of_ask}
use Rattle.kmip_protocol.specs.PrivateLawbook.{Lawbook}
use Rattle.kmip_protocol.specs.Past.{Past}
use Rattle.kmip_protocol.specs.Sound.{AreJustified, IsHarmless, IsOfPlan, IsOutside, Sound}
use Rattle.kmip_protocol.proofs.ServedLemmas.{step_agrees}

-- ---- what may be asked does no harm

pub all_harmless : (keys : List Key) (objects : List Object) (requests : List Request)
    → All (Justified keys objects) requests → All (IsHarmless keys objects) requests
all_harmless keys objects requests just =
    All-weaker (Justified keys objects) (IsHarmless keys objects) (λ request one. inl one) requests just

pub harmless_on : (l : Lawbook) (keys : List Key) (old new : List Object) (request : Request) → Onward keys old new
    → IsHarmless keys old request → IsHarmless keys new request
harmless_on l keys old new request on (inl just) = inl (l.client.asked_for_good keys old new request on just)
harmless_on l keys old new request on (inr outside) = inr outside

-- ---- serving it leaves the objects

no_step_is_asked : (ask : Ask) (step : Step) → step_of_ask ask ≡ None → step_of_ask ask ≡ Some step → ⊥
no_step_is_asked ask step none is = let t : None ≡ Some step = sym none ∙ is in absurd cc

pub look_leaves : (room : ℕ) (old new : List Object) (ask : Ask) (outcome : Outcome) → step_of_ask ask ≡ None
    → ServerStep room old ask outcome new → new ≡ old
look_leaves room old new ask outcome none (rows.name_taken h) = refl
look_leaves room old new ask outcome none (rows.full h i) = refl
look_leaves room old new ask outcome none (rows.created free roomy uid_free fits) = absurd cc
look_leaves room old new ask outcome none rows.searched = refl
look_leaves room old new ask outcome none (rows.told h) = refl
look_leaves room old new ask outcome none (rows.unknown h) = refl
look_leaves room old new ask outcome none (rows.compromised h) = refl
look_leaves room old new ask outcome none (rows.not_found h i) = refl
look_leaves room old new ask outcome none (rows.wrong_state h i j) = refl
look_leaves room old new ask outcome none (rows.done {step = step} {uid = uid} asked with_uid row) =
    absurd (no_step_is_asked ask step none (step_agrees ask step uid asked))

-- ---- its id is that of no key of the plan

pub not_own : (id : List ℕ) (found : Option (List ℕ)) → found ≢ Some id
    → option_map_or (pointwise nat_eq id) found false ≡ false
not_own id None apart = refl
not_own id (Some other) apart =
    false_from_ne_true (pointwise nat_eq id other) (λ same. apart (ap (λ i. Some i) (sym ((bytes_eq-Decides id other).0 same))))

-- ---- a key of a lawful plan fits

found_fits : (name : List ℕ) (keys : List Key) (key : Key) → list_all key_fits keys ≡ true → key_named name keys ≡ Some key
    → key_fits key ≡ true
found_fits name [] key fit is = absurd cc
found_fits name (first ∷ keys) key fit is =
    let parts = and_parts (key_fits first) (list_all key_fits keys) fit in
    elim (cases_Bool (pointwise nat_eq name first.attrs.name)) [
      | inl same ↦
          let one : Some first ≡ Some key = rw same at is in
          ap key_fits (sym (same_Some first key one)) ∙ parts.0
      | inr apart ↦ found_fits name keys key parts.1 (rw apart at is)
    ]

pub planned_fits : (keys : List Key) (key : Key) → IsLawful keys → IsPlanned keys key → key_fits key ≡ true
planned_fits keys key lawful planned = found_fits key.attrs.name keys key lawful.fit planned

-- what is outside a plan is outside each lawful one
pub outside_of : (new old : List Key) (request : Request) → IsLawful new → IsOutside old request → IsOutside new request
outside_of new old request lawful outside = record {
  no_step = outside.no_step;
  no_key = λ operation key which. outside.no_key operation key (elim which [
    | inl planned ↦ inr (planned_fits new key lawful planned)
    | inr fits ↦ inr fits
  ]);
}

pub strange_outside : (keys : List Key) (request : Request) → IsLawful keys → step_of_ask request.ask ≡ None
    → ((operation : ℕ) (key : Key) → key_fits key ≡ true → request.id ≢ Some (operation ∷ key.attrs.name))
    → IsOutside keys request
strange_outside keys request lawful none strange = record {
  no_step = none;
  no_key = λ operation key which. strange operation key (elim which [
    | inl planned ↦ planned_fits keys key lawful planned
    | inr fits ↦ fits
  ]);
}

-- ---- what is of the plan is not outside it

of_plan : (keys : List Key) (objects : List Object) (request : Request) → IsOfPlan keys request
    → IsHarmless keys objects request → Justified keys objects request
of_plan keys objects request own (inl just) = just
of_plan keys objects request own (inr outside) = absurd (outside.no_key own.operation own.key (inl own.is_planned) own.id_is)

all_of_plan : (keys : List Key) (objects : List Object) (requests : List Request) → All (IsOfPlan keys) requests
    → All (IsHarmless keys objects) requests → All (Justified keys objects) requests
all_of_plan keys objects [] own harmless = All-nil (Justified keys objects)
all_of_plan keys objects (request ∷ requests) own harmless =
    All-cons (Justified keys objects) request requests
    (of_plan keys objects request (All-head (IsOfPlan keys) request requests own)
    (All-head (IsHarmless keys objects) request requests harmless))
    (all_of_plan keys objects requests (All-tail (IsOfPlan keys) request requests own)
    (All-tail (IsHarmless keys objects) request requests harmless))

pub sound_justified : (keys : List Key) (p : Past) → Sound keys p → All (IsOfPlan keys) p.requests → AreJustified keys p
sound_justified keys p sound own = all_of_plan keys p.objects p.requests own sound.requests

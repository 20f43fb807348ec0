-- What serving a request that may be asked does: nothing, or the next step of its key.
use Rattle.std.proofs.Common.{◌≡◌, ◌≢◌, ◌+◌, ℕ, List, [], ◌∷◌, ◌++◌, Option, Some, None, refl, sym, ap, subst, ◌∙◌, inl}
use Rattle.std.proofs.Common.{inr, ◌⊎◌, arith}
use Rattle.std.proofs.lemmas.Bool.{cases_Bool}
use Rattle.std.proofs.lemmas.Option.{some_pair_parts}
use Rattle.kmip_objects.specs.Lifecycle.{after}
use Rattle.kmip_objects.specs.Objects.{Object, object_named, object_with, all_restated, DistinctNames, DistinctUids}
use Rattle.kmip_objects.specs.Ranges.{is_compromise}
use Rattle.kmip_batch_items.specs.declared.outcome.Outcome.{Outcome}
use Rattle.kmip_batch_items.specs.declared.ask.Ask.{Ask}
use Rattle.kmip_batch_items.specs.declared.ask.Ask.TheVariants as asks
use Rattle.kmip_objects.specs.declared.key_state.KeyState.{KeyState}
use Rattle.kmip_objects.specs.declared.key_state.KeyState.TheVariants as states
use Rattle.kmip_objects.specs.declared.step.Step.{Step}
use Rattle.kmip_objects.specs.declared.step.Step.TheVariants.{Create, Activate, Revoke, Destroy}
use Rattle.kmip_plan.specs.Chains.{place_reached, step_place}
use Rattle.kmip_plan.specs.Plans.{IsPlanned}
use Rattle.kmip_plan.specs.declared.key.Key.{Key}
use Rattle.kmip_client.specs.Justified.{StepIsDue, MayAsk}
use Rattle.kmip_client.specs.Places.{position}
use Rattle.kmip_server.specs.ServerStep as rows
use Rattle.kmip_server.specs.ServerStep.{ServerStep, step_asked}
use Rattle.kmip_protocol.specs.PrivateLawbook.{Lawbook}
use Rattle.kmip_protocol.specs.Past.{change}
use Rattle.kmip_protocol.specs.Headline.{step_of_ask}
use Rattle.kmip_protocol.specs.Sound.{HasItsObjects}
use Rattle.kmip_protocol.proofs.ChangeLemmas.{place_in, step_is_between}
use Rattle.kmip_protocol.proofs.MovingLemmas.{apart_from, due_of, other_named, own_named, takes}

-- the next step of the key was asked, and is taken
pub record Steps (key : Key) (old new : List Object) (ask : Ask) : Type 0 where
  pub step : Step
  pub is_asked : step_of_ask ask ≡ Some step
  pub place : step_place key.target step ≡ position key old + 1
  pub now : position key new ≡ position key old + 1
  pub others : (name : List ℕ) → name ≢ key.attrs.name → object_named name new ≡ object_named name old
  pub changes : change (object_named key.attrs.name old) (object_named key.attrs.name new) ≡ Some step

pub step_agrees : (ask : Ask) (step : Step) (uid : List ℕ) → step_asked ask ≡ Some (step, uid) → step_of_ask ask ≡ Some step
step_agrees (asks.Create attrs) step uid asked = absurd cc
step_agrees (asks.Locate mask filter) step uid asked = absurd cc
step_agrees (asks.GetAttributes own) step uid asked = absurd cc
step_agrees (asks.Activate own) step uid asked = ap (λ s. Some s) (some_pair_parts Activate step own uid asked).0
step_agrees (asks.Revoke own code) step uid asked = elim (cases_Bool (is_compromise code)) [
  | inl is ↦ let none : ◌≡◌ {A = Option (Step × List ℕ)} None (Some (step, uid)) = rw is at asked in absurd cc
  | inr not ↦
      let some : ◌≡◌ {A = Option (Step × List ℕ)} (Some (Revoke, own)) (Some (step, uid)) = rw not at asked in
      ap (λ s. Some s) (some_pair_parts Revoke step own uid some).0
]
step_agrees (asks.Destroy own) step uid asked = ap (λ s. Some s) (some_pair_parts Destroy step own uid asked).0

created_steps : (l : Lawbook) (key : Key) (objects : List Object) (uid : List ℕ) (ask : Ask)
    → step_of_ask ask ≡ Some Create
    → object_named key.attrs.name objects ≡ None
    → Steps key objects (objects ++ record { uid = uid; attrs = key.attrs; state = states.PreActive } ∷ []) ask
created_steps l key objects uid ask asked free =
    let o : Object = record { uid = uid; attrs = key.attrs; state = states.PreActive } in
    let now : object_named key.attrs.name (objects ++ o ∷ []) ≡ Some o = own_named l objects o free in
    let before : position key objects ≡ 0 = ap (place_in key) free in
    let here : position key (objects ++ o ∷ []) ≡ place_reached key.target states.PreActive = ap (place_in key) now in
    let first = l.plan.first key.target in
    record {
      step = Create;
      is_asked = asked;
      place = omega (arith, before);
      now = omega (arith, before, here, first);
      others = λ name apart. other_named l name objects o (object_named name objects) refl
          (apart_from name key.attrs.name apart);
      changes = ap (λ found. change found (object_named key.attrs.name (objects ++ o ∷ []))) free
          ∙ ap (λ found. change None found) now;
    }

done_steps : (l : Lawbook) (keys : List Key) (key : Key) (objects : List Object) (ask : Ask) (step : Step)
    (uid : List ℕ) (o : Object) (state : KeyState)
    → IsPlanned keys key → HasItsObjects keys objects → DistinctUids objects → StepIsDue objects key step uid
    → step_of_ask ask ≡ Some step
    → object_with uid objects ≡ Some o → after o.state step ≡ Some state
    → Steps key objects (all_restated uid state objects) ask
done_steps l keys key objects ask step uid o state planned its uids due asked with_uid row =
    let t = takes l keys key objects step uid o state planned its uids due with_uid row in
    let before : position key objects ≡ place_reached key.target o.state = ap (place_in key) t.was in
    let here : position key (all_restated uid state objects) ≡ place_reached key.target state = ap (place_in key)
    t.now in
    record {
      step = step;
      is_asked = asked;
      place = omega (arith, before, t.place);
      now = omega (arith, before, here, t.further);
      others = t.others;
      changes = ap (λ found. change found (object_named key.attrs.name (all_restated uid state objects))) t.was
          ∙ ap (λ found. change (Some o) found) t.now
          ∙ step_is_between o.state state step row;
    }

pub serve_does : (l : Lawbook) (keys : List Key) (key : Key) (room : ℕ) (old new : List Object) (ask : Ask)
    (outcome : Outcome)
    → IsPlanned keys key → HasItsObjects keys old → DistinctNames old → DistinctUids old → MayAsk old key ask
    → ServerStep room old ask outcome new → (new ≡ old) ⊎ Steps key old new ask
serve_does l keys key room old new ask outcome planned its names uids may (rows.name_taken h) = inl refl
serve_does l keys key room old new ask outcome planned its names uids may (rows.full h i) = inl refl
serve_does l keys key room old new ask outcome planned its names uids may
    (rows.created {attrs} {uid} free roomy uid_free fits) =
    inr (subst (λ a. object_named a.name old ≡ None
    → Steps key old (old ++ record { uid = uid; attrs = a; state = states.PreActive } ∷ []) (asks.Create attrs))
    (sym may) (λ none. created_steps l key old uid (asks.Create attrs) refl none) free)
serve_does l keys key room old new ask outcome planned its names uids may rows.searched = inl refl
serve_does l keys key room old new ask outcome planned its names uids may (rows.told h) = inl refl
serve_does l keys key room old new ask outcome planned its names uids may (rows.unknown h) = inl refl
serve_does l keys key room old new ask outcome planned its names uids may (rows.compromised h) = inl refl
serve_does l keys key room old new ask outcome planned its names uids may (rows.not_found h i) = inl refl
serve_does l keys key room old new ask outcome planned its names uids may (rows.wrong_state h i j) = inl refl
serve_does l keys key room old new ask outcome planned its names uids may
    (rows.done {step = step} {uid = uid} {o = o} {state = state} asked with_uid row) =
    inr (done_steps l keys key old ask step uid o state planned its uids (due_of old key ask step uid may asked)
    (step_agrees ask step uid asked) with_uid row)

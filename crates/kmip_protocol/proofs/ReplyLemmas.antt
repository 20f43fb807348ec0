-- The reply to a request that may be asked is true.
use Rattle.std.proofs.Common.{◌≡◌, ◌≤◌, ◌<◌, ℕ, ℤ, List, [], ◌∷◌, ◌++◌, option_to_list, Option, Some, None, refl, sym}
use Rattle.std.proofs.Common.{ap, subst, ◌∙◌, inl, inr, arith}
use Rattle.std.proofs.lemmas.Option.{same_Some}
use Rattle.kmip_objects.specs.Lifecycle.{after}
use Rattle.kmip_objects.specs.Objects.{Object, object_named, object_with, all_restated, DistinctNames, DistinctUids}
use Rattle.kmip_objects.specs.Attributes.{attributes_of, by_name}
use Rattle.kmip_objects.specs.Searching.{every_state}
use Rattle.kmip_objects.specs.States.{state_number}
use Rattle.kmip_batch_items.specs.declared.outcome.Outcome.{Outcome}
use Rattle.kmip_batch_items.specs.declared.outcome.Outcome.TheVariants as outcomes
use Rattle.kmip_batch_items.specs.declared.reply.Reply.{Reply}
use Rattle.kmip_batch_items.specs.declared.ask.Ask.{Ask}
use Rattle.kmip_batch_items.specs.declared.ask.Ask.TheVariants as asks
use Rattle.kmip_objects.specs.declared.attrs.Attrs.{Attrs}
use Rattle.kmip_batch_items.specs.declared.request.Request.{Request}
use Rattle.kmip_objects.specs.declared.key_state.KeyState.{KeyState}
use Rattle.kmip_objects.specs.declared.key_state.KeyState.TheVariants as states
use Rattle.kmip_objects.specs.declared.step.Step.{Step}
use Rattle.kmip_objects.specs.declared.step.Step.TheVariants.{Create, Activate, Revoke, Destroy}
use Rattle.kmip_plan.specs.Chains.{or_zero, place_of, place_reached, step_place}
use Rattle.kmip_plan.specs.Plans.{IsPlanned, key_named}
use Rattle.kmip_plan.specs.declared.key.Key.{Key}
use Rattle.kmip_client.specs.Justified.{Justified, StepIsDue, MayAsk}
use Rattle.kmip_client.specs.Places.{position, uid_of}
use Rattle.kmip_client.specs.Truth.{AreFound, StepIsDone, TrueOutcome}
use Rattle.kmip_server.specs.ServerStep as rows
use Rattle.kmip_server.specs.ServerStep.{ServerStep, success_of}
use Rattle.kmip_server.specs.declared.effect.Effect.{Effect}
use Rattle.kmip_protocol.specs.PrivateLawbook.{Lawbook}
use Rattle.kmip_protocol.specs.Moves.{HasFailed, Serves}
use Rattle.kmip_protocol.specs.Past.{Past}
use Rattle.kmip_protocol.specs.Sound.{HasItsObjects, IsOutside, IsHarmless, TrueAnswer}
use Rattle.kmip_protocol.proofs.ChangeLemmas.{place_in, uid_in}
use Rattle.kmip_protocol.proofs.MovingLemmas.{due_of, own_object, own_named, takes}

own_found : (own : Option (List ℕ)) → AreFound own (option_to_list own)
own_found None = tt
own_found (Some uid) = refl

found_true : (l : Lawbook) (key : Key) (room : ℕ) (objects : List Object) (mask : Option ℤ) (given : Attrs)
    (outcome : Outcome) → DistinctNames objects
    → MayAsk objects key (asks.Locate mask given) → ServerStep room objects (asks.Locate mask given) outcome objects
    → TrueOutcome objects key outcome
found_true l key room objects mask given outcome names may step =
    let own : ServerStep room objects (asks.Locate (Some every_state) (by_name key.attrs.name)) outcome objects =
    subst (λ m. ServerStep room objects (asks.Locate m (by_name key.attrs.name)) outcome objects) may.0
    (subst (λ g. ServerStep room objects (asks.Locate mask g) outcome objects) may.1 step) in
    subst (TrueOutcome objects key) (sym (l.server.located room objects objects key.attrs.name outcome names own).1)
    (own_found (uid_of key objects))

pub some_place : (found : Option ℕ) → 1 ≤ or_zero found → found ≡ Some (or_zero found)
some_place None is = absurd (omega (arith, is))
some_place (Some n) is = refl

told_true : (l : Lawbook) (keys : List Key) (key : Key) (objects : List Object) (uid : List ℕ) (o : Object)
    → IsPlanned keys key → HasItsObjects keys objects
    → DistinctUids objects → uid_of key objects ≡ Some uid → object_with uid objects ≡ Some o
    → TrueOutcome objects key (outcomes.Attributes uid (attributes_of o))
told_true l keys key objects uid o planned its uids own with_uid =
    let was = own_object l objects key uid o uids own with_uid in
    let is = its key o planned was in
    let here : position key objects ≡ place_reached key.target o.state = ap (place_in key) was in (
      own,
      record {
        object_type_is = refl;
        name_is = ap (λ attrs. Some attrs.name) is.attrs_are;
        algorithm_is = ap (λ attrs. Some attrs.algorithm) is.attrs_are;
        length_is = ap (λ attrs. Some attrs.length) is.attrs_are;
        usage_is = ap (λ attrs. Some attrs.usage) is.attrs_are;
        state = state_number o.state;
        state_is = refl;
        place = place_reached key.target o.state;
        place_is = some_place (place_of key.target (state_number o.state)) is.on_the_way;
        had = omega (arith, here);
      },
    )

created_true : (l : Lawbook) (key : Key) (objects : List Object) (uid : List ℕ)
    → object_named key.attrs.name objects ≡ None
    → TrueOutcome (objects ++ record { uid = uid; attrs = key.attrs; state = states.PreActive } ∷ []) key
    (outcomes.Created uid)
created_true l key objects uid free =
    let o : Object = record { uid = uid; attrs = key.attrs; state = states.PreActive } in
    let now : object_named key.attrs.name (objects ++ o ∷ []) ≡ Some o = own_named l objects o free in
    let here : position key (objects ++ o ∷ []) ≡ place_reached key.target states.PreActive = ap (place_in key) now in
    record {
      uid_is = ap uid_in now;
      in_chain = omega arith;
      done = let e = l.plan.first key.target in omega (arith, e, here);
    }

-- the success of a step that is done is true
success_true : (key : Key) (objects : List Object) (step : Step) (uid : List ℕ) → 1 < step_place key.target step
    → StepIsDone objects key step uid
    → TrueOutcome objects key (success_of step uid)
success_true key objects Create uid behind done = done
success_true key objects Activate uid behind done = done
success_true key objects Revoke uid behind done = done
success_true key objects Destroy uid behind done = done

done_true : (l : Lawbook) (keys : List Key) (key : Key) (objects : List Object) (step : Step) (uid : List ℕ)
    (o : Object) (state : KeyState)
    → IsPlanned keys key → HasItsObjects keys objects → DistinctUids objects → StepIsDue objects key step uid
    → object_with uid objects ≡ Some o → after o.state step ≡ Some state
    → TrueOutcome (all_restated uid state objects) key (success_of step uid)
done_true l keys key objects step uid o state planned its uids due with_uid row =
    let t = takes l keys key objects step uid o state planned its uids due with_uid row in
    let here : position key (all_restated uid state objects) ≡ place_reached key.target state = ap (place_in key)
    t.now in
    success_true key (all_restated uid state objects) step uid due.in_chain (record {
      uid_is = ap uid_in t.now ∙ ap (λ u. Some u) t.uid_is;
      in_chain = omega (arith, due.in_chain);
      done = omega (arith, here, t.place, t.further);
    })

pub outcome_true : (l : Lawbook) (keys : List Key) (key : Key) (room : ℕ) (old new : List Object) (ask : Ask)
    (outcome : Outcome)
    → IsPlanned keys key → HasItsObjects keys old → DistinctNames old → DistinctUids old → MayAsk old key ask
    → ServerStep room old ask outcome new → TrueOutcome new key outcome
outcome_true l keys key room old new ask outcome planned its names uids may (rows.name_taken h) = tt
outcome_true l keys key room old new ask outcome planned its names uids may (rows.full h i) = tt
outcome_true l keys key room old new ask outcome planned its names uids may
    (rows.created {attrs} {uid} free roomy uid_free fits) =
    subst (λ a. object_named a.name old ≡ None
    → TrueOutcome (old ++ record { uid = uid; attrs = a; state = states.PreActive } ∷ []) key
    (outcomes.Created uid))
    (sym may) (λ none. created_true l key old uid none) free
outcome_true l keys key room old new ask outcome planned its names uids may (rows.searched {mask} {given}) =
    found_true l key room old mask given _ names may rows.searched
outcome_true l keys key room old new ask outcome planned its names uids may (rows.told {uid} {o} h) =
    told_true l keys key old uid o planned its uids may h
outcome_true l keys key room old new ask outcome planned its names uids may (rows.unknown h) = tt
outcome_true l keys key room old new ask outcome planned its names uids may (rows.compromised h) = tt
outcome_true l keys key room old new ask outcome planned its names uids may (rows.not_found h i) = tt
outcome_true l keys key room old new ask outcome planned its names uids may (rows.wrong_state h i j) = tt
outcome_true l keys key room old new ask outcome planned its names uids may
    (rows.done {step = step} {uid = uid} {o = o} {state = state} asked with_uid row) =
    done_true l keys key old step uid o state planned its uids (due_of old key ask step uid may asked) with_uid row

-- ---- the reply

pub failed_true : (objects : List Object) (key : Key) (outcome : Outcome) → HasFailed outcome
    → TrueOutcome objects key outcome
failed_true objects key outcome (reason, is) = subst (TrueOutcome objects key) (sym is) tt

pub failed_answer : (keys : List Key) (objects : List Object) (requests : List Request) (reply : Reply)
    → HasFailed reply.outcome → TrueAnswer keys objects requests reply
failed_answer keys objects requests reply failed = record {
  holds = λ operation name key id named. failed_true objects key reply.outcome failed;
  echoes = inl failed;
}

pub same_name : (operation other : ℕ) (name own : List ℕ) → Some (operation ∷ name) ≡ Some (other ∷ own) → name ≡ own
same_name operation other name own is = cc

named_one : (l : Lawbook) (keys : List Key) (key other : Key) (name : List ℕ) → IsPlanned keys key
    → key_named name keys ≡ Some other → name ≡ key.attrs.name → key ≡ other
named_one l keys key other name planned named same =
    same_Some _ _ (sym planned ∙ ap (λ n. key_named n keys) (sym same) ∙ named)

answered_true : (l : Lawbook) (keys : List Key) (p : Past) (request : Request) (reply : Reply) (objects : List Object)
    (operation : ℕ) (name : List ℕ) (other : Key)
    → HasItsObjects keys p.objects → DistinctNames p.objects → DistinctUids p.objects → IsHarmless keys p.objects request
    → ServerStep p.room p.objects request.ask reply.outcome objects
    → request.id ≡ Some (operation ∷ name) → key_named name keys ≡ Some other → TrueOutcome objects other reply.outcome
answered_true l keys p request reply objects operation name other its names uids (inl just) step id named =
    let one : just.key ≡ other = named_one l keys just.key other name just.is_planned named
    (same_name _ _ _ _ (sym id ∙ just.id_is)) in
    subst (λ k. TrueOutcome objects k reply.outcome) one
    (outcome_true l keys just.key p.room p.objects objects request.ask reply.outcome just.is_planned its names
    uids just.may step)
answered_true l keys p request reply objects operation name other its names uids (inr outside) step id named =
    let own : name ≡ other.attrs.name = sym (l.plan.stand keys name other named).0 in
    absurd (outside.no_key operation other (inl (ap (λ n. key_named n keys) (sym own) ∙ named))
    (id ∙ ap (λ n. Some (operation ∷ n)) own))

pub served_answer : (l : Lawbook) (keys : List Key) (p : Past) (request : Request) (reply : Reply)
    (objects : List Object) (joined : Option Effect)
    → HasItsObjects keys p.objects → DistinctNames p.objects → DistinctUids p.objects → IsHarmless keys p.objects request
    → Serves p request reply objects joined → TrueAnswer keys objects p.requests reply
served_answer l keys p request reply objects joined its names uids may serves = record {
  holds = λ operation name other id named. elim (serves.id_is) [
    | inl same ↦ answered_true l keys p request reply objects operation name other its names uids may serves.step (sym same ∙ id) named
    | inr bare ↦ failed_true objects other reply.outcome bare.1
  ];
  echoes = elim (serves.id_is) [
    | inl same ↦ elim (serves.operation_is) [
      | inl also ↦ inr (record { request = request; asked = serves.asked; operation_is = also; id_is = same })
      | inr bare ↦ inl bare.1
    ]
    | inr bare ↦ inl bare.1
  ];
}

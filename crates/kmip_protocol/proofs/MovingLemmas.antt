-- How the objects of all planned names change, when a request is served and when an object of no planned name comes or
-- changes.
use Rattle.std.proofs.Common.{◌≡◌, ◌≢◌, ◌≤◌, ◌+◌, ℕ, true, false, nat_eq, List, [], ◌∷◌, ◌++◌, take, is_some}
use Rattle.std.proofs.Common.{option_map, option_to_list, Option, Some, None, IsTrue, refl, sym, ap, subst, ◌∙◌, inl}
use Rattle.std.proofs.Common.{inr, arith}
use Rattle.std.specs.Cmp.Lexicographic.{pointwise}
use Rattle.std.specs.Option.{option_map_or}
use Rattle.std.proofs.lemmas.Bool.{cases_Bool, false_from_ne_true}
use Rattle.std.proofs.lemmas.Option.{MatchOption-at_some, same_Some, some_pair_parts}
use Rattle.std.proofs.lemmas.Slice.Eq.{bytes_eq-Decides}
use Rattle.kmip_objects.specs.Lifecycle.{after}
use Rattle.kmip_objects.specs.Objects.{Object, object_named, object_with, restated, all_restated, DistinctNames}
use Rattle.kmip_objects.specs.Objects.{DistinctUids}
use Rattle.kmip_objects.specs.Ranges.{is_compromise, is_identifier}
use Rattle.kmip_batch_items.specs.declared.outcome.Outcome.{Outcome}
use Rattle.kmip_batch_items.specs.declared.ask.Ask.{Ask}
use Rattle.kmip_batch_items.specs.declared.ask.Ask.TheVariants as asks
use Rattle.kmip_objects.specs.declared.key_attrs.KeyAttrs.{KeyAttrs}
use Rattle.kmip_objects.specs.declared.key_state.KeyState.{KeyState}
use Rattle.kmip_objects.specs.declared.key_state.KeyState.TheVariants as states
use Rattle.kmip_objects.specs.declared.step.Step.{Step}
use Rattle.kmip_objects.specs.declared.step.Step.TheVariants.{Activate, Revoke, Destroy}
use Rattle.kmip_plan.specs.Chains.{chain, place_reached, step_place}
use Rattle.kmip_plan.specs.Plans.{IsPlanned, key_named}
use Rattle.kmip_plan.specs.declared.key.Key.{Key}
use Rattle.kmip_client.specs.Justified.{StepIsDue, MayAsk}
use Rattle.kmip_client.specs.Places.{position, uid_of}
use Rattle.kmip_server.specs.ServerStep as rows
use Rattle.kmip_server.specs.ServerStep.{ServerStep, step_asked}
use Rattle.kmip_server.specs.declared.effect.Effect.{Effect}
use Rattle.kmip_protocol.specs.PrivateLawbook.{Lawbook}
use Rattle.kmip_protocol.specs.Moves.{Joins, IsNew, IsForeign}
use Rattle.kmip_protocol.specs.Past.{Past, is_planned, steps_on, change}
use Rattle.kmip_protocol.specs.Sound.{HasItsObjects}
use Rattle.kmip_protocol.proofs.ChangeLemmas.{KeyChange, stays, comes, advances, no_change, step_is_between}

pub record ObjectsMove (keys : List Key) (old new : List Object) (joined : Option Effect) : Type 0 where
  pub names : DistinctNames new
  pub uids : DistinctUids new
  pub each : (key : Key) → IsPlanned keys key
      → KeyChange key (object_named key.attrs.name old) (object_named key.attrs.name new)
      (steps_on key.attrs.name (option_to_list joined))
  pub others : (name : List ℕ) → key_named name keys ≡ None → steps_on name (option_to_list joined) ≡ []

-- two keys of a plan with one name are one
pub same_key : (keys : List Key) (key other : Key) → IsPlanned keys key → IsPlanned keys other
    → other.attrs.name ≡ key.attrs.name → key ≡ other
same_key keys key other planned also same =
    same_Some _ _ (sym planned ∙ ap (λ name. key_named name keys) (sym same) ∙ also)

-- nothing joins where the object of a name is the same
pub nothing_joins : (old new : List Object) (joined : Option Effect) (name : List ℕ) → Joins old new joined
    → object_named name new ≡ object_named name old → steps_on name (option_to_list joined) ≡ []
nothing_joins old new joined name joins same =
    joins name
    ∙ ap (λ found. option_to_list (change (object_named name old) found)) same
    ∙ ap (λ step. option_to_list step) (no_change (object_named name old))

pub nothing_moves : (keys : List Key) (objects : List Object) (joined : Option Effect) → DistinctNames objects
    → DistinctUids objects
    → Joins objects objects joined → ObjectsMove keys objects objects joined
nothing_moves keys objects joined names uids joins = record {
  names = names;
  uids = uids;
  each = λ key planned. stays refl (nothing_joins objects objects joined key.attrs.name joins refl);
  others = λ name none. nothing_joins objects objects joined name joins refl;
}

-- only the object of one planned name changes
one_moves : (keys : List Key) (key : Key) (old new : List Object) (joined : Option Effect) → IsPlanned keys key
    → DistinctNames new → DistinctUids new → Joins old new joined
    → ((name : List ℕ) → name ≢ key.attrs.name → object_named name new ≡ object_named name old)
    → KeyChange key (object_named key.attrs.name old) (object_named key.attrs.name new)
    (steps_on key.attrs.name (option_to_list joined))
    → ObjectsMove keys old new joined
one_moves keys key old new joined planned names uids joins others own = record {
  names = names;
  uids = uids;
  each = λ other also. elim (cases_Bool (pointwise nat_eq other.attrs.name key.attrs.name)) [
    | inl same ↦
        let one : key ≡ other = same_key keys key other planned also
        ((bytes_eq-Decides other.attrs.name key.attrs.name).0 same) in
        subst (λ k. KeyChange k (object_named k.attrs.name old) (object_named k.attrs.name new)
        (steps_on k.attrs.name (option_to_list joined))) one own
    | inr apart ↦
        let kept : object_named other.attrs.name new ≡ object_named other.attrs.name old =
        others other.attrs.name (λ e. let t : true ≡ false = sym
        ((bytes_eq-Decides other.attrs.name key.attrs.name).1 e) ∙ apart in absurd cc) in
        stays kept (nothing_joins old new joined other.attrs.name joins kept)
  ];
  others = λ name none. nothing_joins old new joined name joins (others name (λ e.
      let t : None ≡ Some key = sym none ∙ ap (λ n. key_named n keys) e ∙ planned in absurd cc));
}

-- ---- a step that is due, of the object of a planned name

pub due_of : (objects : List Object) (key : Key) (ask : Ask) (step : Step) (uid : List ℕ) → MayAsk objects key ask
    → step_asked ask ≡ Some (step, uid)
    → StepIsDue objects key step uid
due_of objects key (asks.Create attrs) step uid may asked = absurd cc
due_of objects key (asks.Locate mask filter) step uid may asked = absurd cc
due_of objects key (asks.GetAttributes own) step uid may asked = absurd cc
due_of objects key (asks.Activate own) step uid may asked =
    let parts = some_pair_parts Activate step own uid asked in
    subst (λ s. StepIsDue objects key s uid) parts.0 (subst (λ u. StepIsDue objects key Activate u) parts.1 may)
due_of objects key (asks.Revoke own code) step uid may asked = elim (cases_Bool (is_compromise code)) [
  | inl is ↦ let none : ◌≡◌ {A = Option (Step × List ℕ)} None (Some (step, uid)) = rw is at asked in absurd cc
  | inr not ↦
      let some : ◌≡◌ {A = Option (Step × List ℕ)} (Some (Revoke, own)) (Some (step, uid)) = rw not at asked in
      let parts = some_pair_parts Revoke step own uid some in
      subst (λ s. StepIsDue objects key s uid) parts.0 (subst (λ u. StepIsDue objects key Revoke u) parts.1 may.0)
]
due_of objects key (asks.Destroy own) step uid may asked =
    let parts = some_pair_parts Destroy step own uid asked in
    subst (λ s. StepIsDue objects key s uid) parts.0 (subst (λ u. StepIsDue objects key Destroy u) parts.1 may)

-- the object in an option, by its identifier
some_with : (found : Option Object) (uid : List ℕ) → option_map (λ o. o.uid) found ≡ Some uid → (o : Object)
    × (found ≡ Some o) × (o.uid ≡ uid)
some_with None uid is = absurd cc
some_with (Some o) uid is = (o, refl, same_Some _ _ is)

-- the object with the identifier of a planned name is the one of that name
pub own_object : (l : Lawbook) (objects : List Object) (key : Key) (uid : List ℕ) (o : Object) → DistinctUids objects
    → uid_of key objects ≡ Some uid
    → object_with uid objects ≡ Some o → object_named key.attrs.name objects ≡ Some o
own_object l objects key uid o uids own with_uid =
    let (x, named, same) = some_with (object_named key.attrs.name objects) uid own in
    let there : object_with x.uid objects ≡ Some x = l.objects.by_identifier key.attrs.name objects x uids named in
    named ∙ sym there ∙ ap (λ u. object_with u objects) same ∙ with_uid

-- What a step that is due does, where the lifecycle has it.
pub record Takes (key : Key) (old new : List Object) (step : Step) (uid : List ℕ) (o : Object)
    (state : KeyState) : Type 0 where
  pub was : object_named key.attrs.name old ≡ Some o
  pub now : object_named key.attrs.name new ≡ Some (record o { state = state })
  pub uid_is : o.uid ≡ uid
  pub others : (name : List ℕ) → name ≢ key.attrs.name → object_named name new ≡ object_named name old
  pub place : step_place key.target step ≡ place_reached key.target o.state + 1
  pub further : place_reached key.target state ≡ place_reached key.target o.state + 1
  pub joins : take (place_reached key.target state) (chain key.target) ≡ take (place_reached key.target o.state)
      (chain key.target) ++ step ∷ []

other_stays : (l : Lawbook) (key : Key) (objects : List Object) (uid : List ℕ) (state : KeyState) (o : Object)
    (name : List ℕ) (found : Option Object)
    → DistinctUids objects → object_with uid objects ≡ Some o → o.attrs.name ≡ key.attrs.name → name ≢ key.attrs.name
    → object_named name objects ≡ found → option_map (restated uid state) found ≡ found
other_stays l key objects uid state o name None uids with_uid own apart is = refl
other_stays l key objects uid state o name (Some x) uids with_uid own apart is =
    ap (λ y. Some y) (l.objects.other_kept uid state x (λ same.
    let there : object_with x.uid objects ≡ Some x = l.objects.by_identifier name objects x uids is in
    let one : x ≡ o = same_Some _ _ (sym there ∙ ap (λ u. object_with u objects) same ∙ with_uid) in
    apart (sym (l.objects.named name objects x is).0 ∙ ap (λ y. y.attrs.name) one ∙ own)))

pub takes : (l : Lawbook) (keys : List Key) (key : Key) (objects : List Object) (step : Step) (uid : List ℕ)
    (o : Object) (state : KeyState)
    → IsPlanned keys key → HasItsObjects keys objects → DistinctUids objects → StepIsDue objects key step uid
    → object_with uid objects ≡ Some o → after o.state step ≡ Some state
    → Takes key objects (all_restated uid state objects) step uid o state
takes l keys key objects step uid o state planned its uids due with_uid row =
    let was = own_object l objects key uid o uids due.uid_is with_uid in
    let is = its key o planned was in
    let here : position key objects ≡ place_reached key.target o.state = ap
    (λ found. option_map_or (λ x. place_reached key.target x.state) found 0) was in
    let soon : step_place key.target step ≤ place_reached key.target o.state + 1 = omega (arith, due.due, here) in
    let uid_is = (l.objects.identified uid objects o with_uid).0 in
    let further = MatchOption-at_some (Unit {0})
    (λ new. (step_place key.target step ≡ place_reached key.target o.state + 1)
    × (place_reached key.target new ≡ place_reached key.target o.state + 1))
    state row (l.plan.advance key.target o.state step due.in_chain soon is.on_the_way) in
    record {
      was = was;
      now = l.objects.named_restated key.attrs.name uid state objects ∙ ap (option_map (restated uid state)) was
          ∙ ap (λ x. Some x) (l.objects.own_restated uid state o uid_is);
      uid_is = uid_is;
      others = λ name apart. l.objects.named_restated name uid state objects
          ∙ other_stays l key objects uid state o name (object_named name objects) uids with_uid
          (l.objects.named key.attrs.name objects o was).0 apart refl;
      place = further.0;
      further = further.1;
      joins = l.plan.join key.target o.state state step due.in_chain soon is.on_the_way row;
    }

done_moves : (l : Lawbook) (keys : List Key) (key : Key) (objects : List Object) (joined : Option Effect)
    (step : Step) (uid : List ℕ) (o : Object) (state : KeyState)
    → IsPlanned keys key → HasItsObjects keys objects → DistinctNames objects → DistinctUids objects
    → StepIsDue objects key step uid
    → object_with uid objects ≡ Some o → after o.state step ≡ Some state
    → Joins objects (all_restated uid state objects) joined
    → ObjectsMove keys objects (all_restated uid state objects) joined
done_moves l keys key objects joined step uid o state planned its names uids due with_uid row joins =
    let t = takes l keys key objects step uid o state planned its uids due with_uid row in
    one_moves keys key objects (all_restated uid state objects) joined planned
    (l.objects.names_stay uid state objects names) (l.objects.identifiers_stay uid state objects uids)
    joins t.others
    (advances o state step t.was t.now
    (joins key.attrs.name
    ∙ ap (λ found. option_to_list (change found (object_named key.attrs.name (all_restated uid state objects)))) t.was
    ∙ ap (λ found. option_to_list (change (Some o) found)) t.now
    ∙ ap (λ s. option_to_list s) (step_is_between o.state state step row))
    t.further t.joins)

-- ---- one more object

-- the object of another name is the same
pub other_named : (l : Lawbook) (name : List ℕ) (objects : List Object) (o : Object) (found : Option Object)
    → object_named name objects ≡ found
    → pointwise nat_eq name o.attrs.name ≡ false → object_named name (objects ++ o ∷ []) ≡ found
other_named l name objects o None is apart =
    let other : object_named name (o ∷ []) ≡ None = rw apart refl in
    l.objects.named_among name objects (o ∷ []) is ∙ other
other_named l name objects o (Some x) is apart = l.objects.named_before name objects (o ∷ []) x is

pub apart_from : (a b : List ℕ) → a ≢ b → pointwise nat_eq a b ≡ false
apart_from a b apart = false_from_ne_true (pointwise nat_eq a b) (λ same. apart ((bytes_eq-Decides a b).0 same))

pub own_named : (l : Lawbook) (objects : List Object) (o : Object) → object_named o.attrs.name objects ≡ None
    → object_named o.attrs.name (objects ++ o ∷ []) ≡ Some o
own_named l objects o free =
    let same : pointwise nat_eq o.attrs.name o.attrs.name ≡ true = (bytes_eq-Decides o.attrs.name o.attrs.name).1 refl
    in
    let own : object_named o.attrs.name (o ∷ []) ≡ Some o = rw same refl in
    l.objects.named_among o.attrs.name objects (o ∷ []) free ∙ own

created_moves : (l : Lawbook) (keys : List Key) (key : Key) (objects : List Object) (joined : Option Effect)
    (uid : List ℕ)
    → IsPlanned keys key → DistinctNames objects → DistinctUids objects
    → object_named key.attrs.name objects ≡ None → object_with uid objects ≡ None → IsTrue (is_identifier uid)
    → Joins objects (objects ++ record { uid = uid; attrs = key.attrs; state = states.PreActive } ∷ []) joined
    → ObjectsMove keys objects (objects ++ record { uid = uid; attrs = key.attrs; state = states.PreActive } ∷ [])
    joined
created_moves l keys key objects joined uid planned names uids free uid_free fits joins =
    let o : Object = record { uid = uid; attrs = key.attrs; state = states.PreActive } in
    let now : object_named key.attrs.name (objects ++ o ∷ []) ≡ Some o = own_named l objects o free in
    one_moves keys key objects (objects ++ o ∷ []) joined planned (l.objects.one_more_name objects o names free)
    (l.objects.one_more_identifier objects o uids uid_free)
    joins
    (λ name apart. other_named l name objects o (object_named name objects) refl (apart_from name key.attrs.name apart))
    (comes uid fits free now
    (joins key.attrs.name
    ∙ ap (λ found. option_to_list (change found (object_named key.attrs.name (objects ++ o ∷ [])))) free
    ∙ ap (λ found. option_to_list (change None found)) now))

-- ---- a request that may be asked is served

pub serve_moves : (l : Lawbook) (keys : List Key) (key : Key) (room : ℕ) (old new : List Object) (ask : Ask)
    (outcome : Outcome) (joined : Option Effect)
    → IsPlanned keys key → HasItsObjects keys old → DistinctNames old → DistinctUids old → MayAsk old key ask
    → ServerStep room old ask outcome new → Joins old new joined → ObjectsMove keys old new joined
serve_moves l keys key room old new ask outcome joined planned its names uids may (rows.name_taken h) joins =
    nothing_moves keys old joined names uids joins
serve_moves l keys key room old new ask outcome joined planned its names uids may (rows.full h i) joins =
    nothing_moves keys old joined names uids joins
serve_moves l keys key room old new ask outcome joined planned its names uids may
    (rows.created {attrs} {uid} free roomy uid_free fits) joins =
    created_for attrs may free joins where
      created_for : (attrs : KeyAttrs) → attrs ≡ key.attrs → object_named attrs.name old ≡ None
          → Joins old (old ++ record { uid = uid; attrs = attrs; state = states.PreActive } ∷ []) joined
          → ObjectsMove keys old (old ++ record { uid = uid; attrs = attrs; state = states.PreActive } ∷ []) joined
      created_for attrs same free joins =
          subst (λ a. object_named a.name old ≡ None
          → Joins old (old ++ record { uid = uid; attrs = a; state = states.PreActive } ∷ []) joined
          → ObjectsMove keys old (old ++ record { uid = uid; attrs = a; state = states.PreActive } ∷ []) joined)
          (sym same)
          (λ none so. created_moves l keys key old joined uid planned names uids none uid_free fits so) free joins
serve_moves l keys key room old new ask outcome joined planned its names uids may rows.searched joins =
    nothing_moves keys old joined names uids joins
serve_moves l keys key room old new ask outcome joined planned its names uids may (rows.told h) joins =
    nothing_moves keys old joined names uids joins
serve_moves l keys key room old new ask outcome joined planned its names uids may (rows.unknown h) joins =
    nothing_moves keys old joined names uids joins
serve_moves l keys key room old new ask outcome joined planned its names uids may (rows.compromised h) joins =
    nothing_moves keys old joined names uids joins
serve_moves l keys key room old new ask outcome joined planned its names uids may (rows.not_found h i) joins =
    nothing_moves keys old joined names uids joins
serve_moves l keys key room old new ask outcome joined planned its names uids may (rows.wrong_state h i j) joins =
    nothing_moves keys old joined names uids joins
serve_moves l keys key room old new ask outcome joined planned its names uids may
    (rows.done {step = step} {uid = uid} {o = o} {state = state} asked with_uid row) joins =
    done_moves l keys key old joined step uid o state planned its names uids (due_of old key ask step uid may asked)
    with_uid row joins

-- ---- objects of no planned name

-- no key of the plan has a name that is not planned
pub none_planned : (keys : List Key) (name : List ℕ) (found : Option Key) → key_named name keys ≡ found
    → is_some found ≡ false → key_named name keys ≡ None
none_planned keys name None is none = is
none_planned keys name (Some key) is none = absurd cc

foreign_apart : (keys : List Key) (key : Key) (name : List ℕ) → IsPlanned keys key → is_planned keys name ≡ false
    → pointwise nat_eq key.attrs.name name ≡ false
foreign_apart keys key name planned foreign = apart_from key.attrs.name name (λ same.
    let there : is_planned keys name ≡ true = ap (is_planned keys) (sym same) ∙ ap is_some planned in
    let t : true ≡ false = sym there ∙ foreign in absurd cc)

pub comes_moves : (l : Lawbook) (keys : List Key) (p : Past) (o : Object) → DistinctNames p.objects
    → DistinctUids p.objects → IsNew (is_planned keys) p o
    → ObjectsMove keys p.objects (p.objects ++ o ∷ []) None
comes_moves l keys p o names uids new = record {
  names = l.objects.one_more_name p.objects o names new.name_is_free;
  uids = l.objects.one_more_identifier p.objects o uids new.uid_is_free;
  each = λ key planned. stays (other_named l key.attrs.name p.objects o (object_named key.attrs.name p.objects) refl
      (foreign_apart keys key o.attrs.name planned new.foreign)) refl;
  others = λ name none. refl;
}

between_named : (name : List ℕ) (front : List Object) (old new : Object) (back : List Object)
    → pointwise nat_eq name old.attrs.name ≡ false
    → pointwise nat_eq name new.attrs.name ≡ false
    → object_named name (front ++ new ∷ back) ≡ object_named name (front ++ old ∷ back)
between_named name [] old new back was is = rw (was, is) refl
between_named name (x ∷ front) old new back was is = elim (cases_Bool (pointwise nat_eq name x.attrs.name)) [
  | inl same ↦ rw same refl
  | inr apart ↦ rw apart (between_named name front old new back was is)
]

pub foreign_moves : (keys : List Key) (p : Past) (front : List Object) (old new : Object) (back : List Object)
    → IsForeign (is_planned keys) p front old new back → ObjectsMove keys p.objects (front ++ new ∷ back) None
foreign_moves keys p front old new back foreign = record {
  names = foreign.names_differ;
  uids = foreign.uids_differ;
  each = λ key planned. stays
      (between_named key.attrs.name front old new back
      (foreign_apart keys key old.attrs.name planned foreign.was_foreign)
      (foreign_apart keys key new.attrs.name planned foreign.is_foreign)
      ∙ ap (object_named key.attrs.name) (sym foreign.stands))
      refl;
  others = λ name none. refl;
}

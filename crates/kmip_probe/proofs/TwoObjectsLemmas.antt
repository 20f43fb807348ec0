-- How a step of the server moves two objects with names, one of which the question is about: a lemma for each kind of
-- question.
use Rattle.std.proofs.Common.{◌≡◌, ◌≢◌, ◌≤◌, ◌<◌, ◌+◌, ℕ, ℤ, Bool, true, false, ◌&&◌, nat_eq, List, [], ◌∷◌, ◌++◌, map}
use Rattle.std.proofs.Common.{filter, length, option_map, Option, Some, None, IsSome, subst, refl, sym, ap, ◌∙◌, inl}
use Rattle.std.proofs.Common.{inr, arith}
use Rattle.std.specs.Cmp.Lexicographic.{pointwise}
use Rattle.std.specs.Option.{option_to_list}
use Rattle.std.proofs.lemmas.Bool.{cases_Bool, false_from_ne_true}
use Rattle.std.proofs.lemmas.List.{length-append, length-map}
use Rattle.std.proofs.lemmas.List.Elements.{filter_agree}
use Rattle.std.proofs.Math.Bool.{and-true}
use Rattle.std.proofs.lemmas.Option.{same_Some, some_pair_parts}
use Rattle.std.proofs.lemmas.Slice.Eq.{bytes_eq-Decides}
use Rattle.kmip_objects.specs.Lifecycle.{after}
use Rattle.kmip_objects.specs.Objects.{DistinctNames, DistinctUids, Object, object_named, object_with, restated}
use Rattle.kmip_objects.specs.Objects.{all_restated}
use Rattle.kmip_objects.specs.Ranges.{is_compromise}
use Rattle.kmip_objects.specs.Attributes.{attributes_of, by_name}
use Rattle.kmip_objects.specs.declared.attrs.Attrs.{Attrs}
use Rattle.kmip_objects.specs.declared.key_attrs.KeyAttrs.{KeyAttrs}
use Rattle.kmip_objects.specs.declared.key_state.KeyState.{KeyState}
use Rattle.kmip_objects.specs.declared.key_state.KeyState.TheVariants.{PreActive}
use Rattle.kmip_objects.specs.declared.step.Step.{Step}
use Rattle.kmip_batch_items.specs.declared.outcome.Outcome.{Outcome}
use Rattle.kmip_batch_items.specs.declared.outcome.Outcome.TheVariants.{Created, Located, Attributes, Failed}
use Rattle.kmip_batch_items.specs.declared.ask.Ask.{Ask}
use Rattle.kmip_batch_items.specs.declared.ask.Ask.TheVariants as asks
use Rattle.kmip_batch_items.specs.declared.standard.TheConstants.{REASON_NON_UNIQUE_NAME, REASON_WRONG_STATE}
use Rattle.kmip_store.specs.Locating.{is_searched, is_wanted, locate}
use Rattle.kmip_server.specs.ServerStep as rows
use Rattle.kmip_server.specs.ServerStep.{ServerStep, step_asked, success_of}
use Rattle.kmip_objects.specs.ObjectLaws.{ObjectLaws}
use Rattle.kmip_probe.specs.TwoObjects.{missing}

-- the object with these attributes
abbrev pub made : KeyAttrs → List ℕ → KeyState → Object
made attrs uid state = record { uid = uid; attrs = attrs; state = state }

-- The object that a question is about, and the one beside it, each where it is made; there is room for those that are
-- not.
pub record TwoStand (room : ℕ) (objects : List Object) (own other : KeyAttrs) (uid beside : List ℕ)
    (state its : Option KeyState) : Type 0 where
  pub names_differ : DistinctNames objects
  pub uids_differ : DistinctUids objects
  pub own_is : object_named own.name objects ≡ option_map (made own uid) state
  pub other_is : object_named other.name objects ≡ option_map (made other beside) its
  pub roomy : length objects + missing state + missing its ≤ room

pub turned : {room : ℕ} {objects : List Object} {own other : KeyAttrs} {uid beside : List ℕ}
    {state its : Option KeyState}
    → TwoStand room objects own other uid beside state its → TwoStand room objects other own beside uid its state
turned s =
    let enough = s.roomy in
    record {
      names_differ = s.names_differ;
      uids_differ = s.uids_differ;
      own_is = s.other_is;
      other_is = s.own_is;
      roomy = omega (arith, enough);
    }

same_text : (a b : List ℕ) → a ≡ b → pointwise nat_eq a b ≡ true
same_text a b same = (bytes_eq-Decides a b).1 same

other_text : (a b : List ℕ) → a ≢ b → pointwise nat_eq a b ≡ false
other_text a b apart = false_from_ne_true (pointwise nat_eq a b) (λ same. apart ((bytes_eq-Decides a b).0 same))

none_or_some : {A X : Type 0} (a : A) (found : Option A) → found ≡ None → found ≡ Some a → X
none_or_some a found none some = let t : None ≡ Some a = sym none ∙ some in absurd cc

some_none : {A X : Type 0} (found : Option A) → IsSome found → found ≡ None → X
some_none None some none = absurd cc
some_none (Some a) some none = absurd cc

-- ---- a Create

same_attrs : (a b : KeyAttrs) → asks.Create a ≡ asks.Create b → a ≡ b
same_attrs a b is = cc

no_step_asked : (attrs : KeyAttrs) (ask : Ask) (step : Step) (uid : List ℕ) → ask ≡ asks.Create attrs
    → step_asked ask ≡ Some (step, uid) → ⊥
no_step_asked attrs ask step uid is asked =
    let t : ◌≡◌ {A = Option (Step × List ℕ)} None (Some (step, uid)) = sym (ap step_asked is) ∙ asked in absurd cc

no_step_located : (mask : Option ℤ) (given : Attrs) (ask : Ask) (step : Step) (uid : List ℕ)
    → ask ≡ asks.Locate mask given → step_asked ask ≡ Some (step, uid) → ⊥
no_step_located mask given ask step uid is asked =
    let t : ◌≡◌ {A = Option (Step × List ℕ)} None (Some (step, uid)) = sym (ap step_asked is) ∙ asked in absurd cc

-- where no object has the name, and there is room
made_by : (room : ℕ) (old new : List Object) (attrs : KeyAttrs) (ask : Ask) (outcome : Outcome)
    → ask ≡ asks.Create attrs → object_named attrs.name old ≡ None
    → length old < room → ServerStep room old ask outcome new
    → (uid : List ℕ) × (outcome ≡ Created uid) × (object_with uid old ≡ None)
    × (new ≡ old ++ made attrs uid PreActive ∷ [])
made_by room old new attrs ask outcome is free roomy (rows.name_taken {attrs = a} there) =
    some_none (object_named a.name old) there (ap (λ b. object_named b.name old) (same_attrs a attrs is) ∙ free)
made_by room old new attrs ask outcome is free roomy (rows.full {attrs = a} none full) =
    absurd (omega (arith, roomy, full))
made_by room old new attrs ask outcome is free roomy (rows.created {attrs = a} {uid = uid} none less uid_free fits) =
    (uid, refl, uid_free, ap (λ b. old ++ made b uid PreActive ∷ []) (same_attrs a attrs is))
made_by room old new attrs ask outcome is free roomy rows.searched = absurd cc
made_by room old new attrs ask outcome is free roomy (rows.told h) = absurd cc
made_by room old new attrs ask outcome is free roomy (rows.unknown h) = absurd cc
made_by room old new attrs ask outcome is free roomy (rows.compromised h) = absurd cc
made_by room old new attrs ask outcome is free roomy (rows.not_found h i) = absurd (no_step_asked attrs ask _ _ is h)
made_by room old new attrs ask outcome is free roomy (rows.wrong_state h i j) =
    absurd (no_step_asked attrs ask _ _ is h)
made_by room old new attrs ask outcome is free roomy (rows.done h i j) = absurd (no_step_asked attrs ask _ _ is h)

-- where one has it
used_by : (room : ℕ) (old new : List Object) (attrs : KeyAttrs) (o : Object) (ask : Ask) (outcome : Outcome)
    → ask ≡ asks.Create attrs
    → object_named attrs.name old ≡ Some o → ServerStep room old ask outcome new
    → (outcome ≡ Failed (Some REASON_NON_UNIQUE_NAME)) × (new ≡ old)
used_by room old new attrs o ask outcome is there (rows.name_taken h) = (refl, refl)
used_by room old new attrs o ask outcome is there (rows.full {attrs = a} none full) =
    none_or_some o (object_named attrs.name old)
    (ap (λ b. object_named b.name old) (sym (same_attrs a attrs is)) ∙ none) there
used_by room old new attrs o ask outcome is there (rows.created {attrs = a} none less uid_free fits) =
    none_or_some o (object_named attrs.name old)
    (ap (λ b. object_named b.name old) (sym (same_attrs a attrs is)) ∙ none) there
used_by room old new attrs o ask outcome is there rows.searched = absurd cc
used_by room old new attrs o ask outcome is there (rows.told h) = absurd cc
used_by room old new attrs o ask outcome is there (rows.unknown h) = absurd cc
used_by room old new attrs o ask outcome is there (rows.compromised h) = absurd cc
used_by room old new attrs o ask outcome is there (rows.not_found h i) = absurd (no_step_asked attrs ask _ _ is h)
used_by room old new attrs o ask outcome is there (rows.wrong_state h i j) = absurd (no_step_asked attrs ask _ _ is h)
used_by room old new attrs o ask outcome is there (rows.done h i j) = absurd (no_step_asked attrs ask _ _ is h)

-- another object, where it is made, is found beside one more
other_found : (l : ObjectLaws) (name : List ℕ) (old : List Object) (x : Object) (found : Option Object)
    → name ≢ x.attrs.name → object_named name old ≡ found
    → object_named name (old ++ x ∷ []) ≡ found
other_found l name old x None apart is =
    let alone : object_named name (x ∷ []) ≡ None = rw (other_text name x.attrs.name apart) refl in
    l.named_among name old (x ∷ []) is ∙ alone
other_found l name old x (Some o) apart is = l.named_before name old (x ∷ []) o is

one_more : (l : ObjectLaws) (room : ℕ) (old : List Object) (own other : KeyAttrs) (uid fresh beside : List ℕ)
    (its : Option KeyState) → other.name ≢ own.name
    → TwoStand room old own other uid beside None its → object_with fresh old ≡ None
    → TwoStand room (old ++ made own fresh PreActive ∷ []) own other fresh beside (Some PreActive) its
one_more l room old own other uid fresh beside its apart s free =
    let x : Object = made own fresh PreActive in
    let alone : object_named own.name (x ∷ []) ≡ Some x = rw (same_text own.name own.name refl) refl in
    let enough = s.roomy in
    record {
      names_differ = l.one_more_name old x s.names_differ s.own_is;
      uids_differ = l.one_more_identifier old x s.uids_differ free;
      own_is = l.named_among own.name old (x ∷ []) s.own_is ∙ alone;
      other_is = other_found l other.name old x (option_map (made other beside) its) apart s.other_is;
      roomy = omega (arith, length-append old (x ∷ []), enough);
    }

-- a Create with a name that is free
pub comes : (l : ObjectLaws) {room : ℕ} {old new : List Object} {own other : KeyAttrs} {uid beside : List ℕ}
    {its : Option KeyState} {outcome : Outcome}
    → other.name ≢ own.name → TwoStand room old own other uid beside None its
    → ServerStep room old (asks.Create own) outcome new
    → (fresh : List ℕ) × (outcome ≡ Created fresh) × TwoStand room new own other fresh beside (Some PreActive) its
comes l {room} {old} {new} {own} {other} {uid} {beside} {its} {outcome} apart s step =
    let enough = s.roomy in
    let (fresh, is, free, now) = made_by room old new own (asks.Create own) outcome refl s.own_is
    (omega (arith, enough)) step in (
      fresh,
      is,
      subst (λ objects. TwoStand room objects own other fresh beside (Some PreActive) its) (sym now)
          (one_more l room old own other uid fresh beside its apart s free),
    )

-- a Create with a name that is not
pub used : {room : ℕ} {old new : List Object} {own other : KeyAttrs} {uid beside : List ℕ} {state : KeyState}
    {its : Option KeyState} {outcome : Outcome}
    → TwoStand room old own other uid beside (Some state) its → ServerStep room old (asks.Create own) outcome new
    → (outcome ≡ Failed (Some REASON_NON_UNIQUE_NAME)) × (new ≡ old)
used {room} {old} {new} {own} {other} {uid} {beside} {state} {its} {outcome} s step =
    used_by room old new own (made own uid state) (asks.Create own) outcome refl s.own_is step

-- ---- a Locate

abbrev locating : Option ℤ → Attrs → Ask
locating mask given = asks.Locate mask given

same_located : (mask its : Option ℤ) (given other : Attrs) (objects : List Object)
    → locating mask given ≡ locating its other
    → Located (locate mask given objects) ≡ Located (locate its other objects)
same_located mask its given other objects is = cc

located_by : (room : ℕ) (old new : List Object) (mask : Option ℤ) (given : Attrs) (ask : Ask) (outcome : Outcome)
    → ask ≡ locating mask given
    → ServerStep room old ask outcome new → (outcome ≡ Located (locate mask given old)) × (new ≡ old)
located_by room old new mask given ask outcome is (rows.name_taken h) = absurd cc
located_by room old new mask given ask outcome is (rows.full h i) = absurd cc
located_by room old new mask given ask outcome is (rows.created h i j k) = absurd cc
located_by room old new mask given ask outcome is (rows.searched {mask = its} {given = other}) =
    (same_located its mask other given old is, refl)
located_by room old new mask given ask outcome is (rows.told h) = absurd cc
located_by room old new mask given ask outcome is (rows.unknown h) = absurd cc
located_by room old new mask given ask outcome is (rows.compromised h) = absurd cc
located_by room old new mask given ask outcome is (rows.not_found h i) =
    absurd (no_step_located mask given ask _ _ is h)
located_by room old new mask given ask outcome is (rows.wrong_state h i j) =
    absurd (no_step_located mask given ask _ _ is h)
located_by room old new mask given ask outcome is (rows.done h i j) = absurd (no_step_located mask given ask _ _ is h)

both : {X : Type 0} (p q : X → Bool) (xs : List X) → filter (λ x. p x && q x) xs ≡ filter p (filter q xs)
both p q [] = refl
both p q (x ∷ xs) = elim (cases_Bool (q x)) [
  | inl second ↦
      elim (cases_Bool (p x)) [
        | inl first ↦ rw (second, first) (ap (λ ys. x ∷ ys) (both p q xs))
        | inr first ↦ rw (second, first) (both p q xs)
      ]
  | inr second ↦
      elim (cases_Bool (p x)) [
        | inl first ↦ rw (second, first) (both p q xs)
        | inr first ↦ rw (second, first) (both p q xs)
      ]
]

-- the identifiers of those of one name that are searched
abbrev pub found_by : Option ℤ → Option Object → List (List ℕ)
found_by mask found = map (λ o. o.uid) (filter (λ (o : Object). is_searched mask o.state) (option_to_list found))

located_is : (l : ObjectLaws) (mask : Option ℤ) (name : List ℕ) (objects : List Object) → DistinctNames objects
    → locate mask (by_name name) objects ≡ found_by mask (object_named name objects)
located_is l mask name objects distinct =
    ap (map (λ (o : Object). o.uid))
    (filter_agree (is_wanted mask (by_name name)) (λ o. is_searched mask o.state && pointwise nat_eq name o.attrs.name)
    (λ o. simp (and-true) refl) objects
    ∙ both (λ (o : Object). is_searched mask o.state) (λ (o : Object). pointwise nat_eq name o.attrs.name) objects
    ∙ ap (filter (λ (o : Object). is_searched mask o.state)) (l.all_named name objects distinct))

pub found : (l : ObjectLaws) (mask : Option ℤ) {room : ℕ} {old new : List Object} {own other : KeyAttrs}
    {uid beside : List ℕ} {state its : Option KeyState}
    {outcome : Outcome} → TwoStand room old own other uid beside state its
    → ServerStep room old (asks.Locate mask (by_name own.name)) outcome new
    → (outcome ≡ Located (found_by mask (option_map (made own uid) state))) × (new ≡ old)
found l mask {room} {old} {new} {own} {other} {uid} {beside} {state} {its} {outcome} s step =
    let (is, same) = located_by room old new mask (by_name own.name) (locating mask (by_name own.name)) outcome refl
    step in
    (is ∙ ap (λ uids. Located uids) (located_is l mask own.name old s.names_differ ∙ ap (found_by mask) s.own_is), same)

-- ---- Get Attributes

no_step_told : (own : List ℕ) (ask : Ask) (step : Step) (uid : List ℕ) → ask ≡ asks.GetAttributes own
    → step_asked ask ≡ Some (step, uid) → ⊥
no_step_told own ask step uid is asked =
    let t : ◌≡◌ {A = Option (Step × List ℕ)} None (Some (step, uid)) = sym (ap step_asked is) ∙ asked in absurd cc

same_uid : (a b : List ℕ) → asks.GetAttributes a ≡ asks.GetAttributes b → a ≡ b
same_uid a b is = cc

told_by : (room : ℕ) (old new : List Object) (own : List ℕ) (o : Object) (ask : Ask) (outcome : Outcome)
    → ask ≡ asks.GetAttributes own
    → object_with own old ≡ Some o → ServerStep room old ask outcome new
    → (outcome ≡ Attributes own (attributes_of o)) × (new ≡ old)
told_by room old new own o ask outcome is there (rows.name_taken h) = absurd cc
told_by room old new own o ask outcome is there (rows.full h i) = absurd cc
told_by room old new own o ask outcome is there (rows.created h i j k) = absurd cc
told_by room old new own o ask outcome is there rows.searched = absurd cc
told_by room old new own o ask outcome is there (rows.told {uid = uid} {o = x} h) =
    let same = same_uid uid own is in
    let one : x ≡ o = same_Some _ _ (sym h ∙ ap (λ u. object_with u old) same ∙ there) in
    (ap (λ u. Attributes u (attributes_of x)) same ∙ ap (λ y. Attributes own (attributes_of y)) one, refl)
told_by room old new own o ask outcome is there (rows.unknown {uid = uid} h) =
    none_or_some o (object_with own old) (ap (λ u. object_with u old) (sym (same_uid uid own is)) ∙ h) there
told_by room old new own o ask outcome is there (rows.compromised h) = absurd cc
told_by room old new own o ask outcome is there (rows.not_found h i) = absurd (no_step_told own ask _ _ is h)
told_by room old new own o ask outcome is there (rows.wrong_state h i j) = absurd (no_step_told own ask _ _ is h)
told_by room old new own o ask outcome is there (rows.done h i j) = absurd (no_step_told own ask _ _ is h)

pub read : (l : ObjectLaws) {room : ℕ} {old new : List Object} {own other : KeyAttrs} {uid beside : List ℕ}
    {state : KeyState} {its : Option KeyState}
    {outcome : Outcome} → TwoStand room old own other uid beside (Some state) its
    → ServerStep room old (asks.GetAttributes uid) outcome new
    → (outcome ≡ Attributes uid (attributes_of (made own uid state))) × (new ≡ old)
read l {room} {old} {new} {own} {other} {uid} {beside} {state} {its} {outcome} s step =
    told_by room old new uid (made own uid state) (asks.GetAttributes uid) outcome refl
    (l.by_identifier own.name old (made own uid state) s.uids_differ s.own_is) step

-- ---- a step

compromise_is_none : (uid own : List ℕ) (code : ℕ) (step : Step) → is_compromise code ≡ true
    → step_asked (asks.Revoke uid code) ≡ Some (step, own) → ⊥
compromise_is_none uid own code step compromised asked =
    let t : ◌≡◌ {A = Option (Step × List ℕ)} None (Some (step, own)) = rw compromised at asked in absurd cc

-- what a step does to the object with an identifier: nothing where the lifecycle has no row for it
abbrev Steps : List Object → List Object → List ℕ → Step → Outcome → Option KeyState → Type 0
Steps old new uid step outcome None = (outcome ≡ Failed (Some REASON_WRONG_STATE)) × (new ≡ old)
Steps old new uid step outcome (Some next) = (outcome ≡ success_of step uid) × (new ≡ all_restated uid next old)

stepped_by : (room : ℕ) (old new : List Object) (own : List ℕ) (o : Object) (step : Step) (ask : Ask)
    (outcome : Outcome) → step_asked ask ≡ Some (step, own)
    → object_with own old ≡ Some o → ServerStep room old ask outcome new
    → Steps old new own step outcome (after o.state step)
stepped_by room old new own o step ask outcome asked there (rows.name_taken h) = absurd cc
stepped_by room old new own o step ask outcome asked there (rows.full h i) = absurd cc
stepped_by room old new own o step ask outcome asked there (rows.created h i j k) = absurd cc
stepped_by room old new own o step ask outcome asked there rows.searched = absurd cc
stepped_by room old new own o step ask outcome asked there (rows.told h) = absurd cc
stepped_by room old new own o step ask outcome asked there (rows.unknown h) = absurd cc
stepped_by room old new own o step ask outcome asked there (rows.compromised {uid = uid} {code = code} h) =
    absurd (compromise_is_none uid own code step h asked)
stepped_by room old new own o step ask outcome asked there (rows.not_found {step = s} {uid = u} h i) =
    let parts = some_pair_parts s step u own (sym h ∙ asked) in
    none_or_some o (object_with own old) (ap (λ v. object_with v old) (sym parts.1) ∙ i) there
stepped_by room old new own o step ask outcome asked there (rows.wrong_state {step = s} {uid = u} {o = x} h i j) =
    let parts = some_pair_parts s step u own (sym h ∙ asked) in
    let one : x ≡ o = same_Some _ _ (sym i ∙ ap (λ v. object_with v old) parts.1 ∙ there) in
    let row : after o.state step ≡ None = ap (λ y. after y.state step) (sym one) ∙ ap (after x.state) (sym parts.0)
    ∙ j in
    subst (Steps old old own step _) (sym row) (refl, refl)
stepped_by room old new own o step ask outcome asked there
    (rows.done {step = s} {uid = u} {o = x} {state = state} h i j) =
    let parts = some_pair_parts s step u own (sym h ∙ asked) in
    let one : x ≡ o = same_Some _ _ (sym i ∙ ap (λ v. object_with v old) parts.1 ∙ there) in
    let row : after o.state step ≡ Some state = ap (λ y. after y.state step) (sym one)
    ∙ ap (after x.state) (sym parts.0) ∙ j in
    subst (Steps old (all_restated u state old) own step (success_of s u)) (sym row)
    (ap (λ t. success_of t u) parts.0 ∙ ap (success_of step) parts.1, ap (λ v. all_restated v state old) parts.1)

-- a step that the lifecycle has no row for
pub refused : (l : ObjectLaws) (step : Step) {room : ℕ} {old new : List Object} {own other : KeyAttrs}
    {uid beside : List ℕ} {state : KeyState}
    {its : Option KeyState} {ask : Ask} {outcome : Outcome} → step_asked ask ≡ Some (step, uid)
    → after state step ≡ None
    → TwoStand room old own other uid beside (Some state) its → ServerStep room old ask outcome new
    → (outcome ≡ Failed (Some REASON_WRONG_STATE)) × (new ≡ old)
refused l step {room} {old} {new} {own} {other} {uid} {beside} {state} {its} {ask} {outcome} asked row s served =
    subst (Steps old new uid step outcome) row
    (stepped_by room old new uid (made own uid state) step ask outcome asked
    (l.by_identifier own.name old (made own uid state) s.uids_differ s.own_is) served)

other_uid : (l : ObjectLaws) (room : ℕ) (old : List Object) (own other : KeyAttrs) (uid beside : List ℕ)
    (state its : KeyState) → other.name ≢ own.name
    → TwoStand room old own other uid beside (Some state) (Some its) → beside ≢ uid
other_uid l room old own other uid beside state its apart s same =
    let here = l.by_identifier own.name old (made own uid state) s.uids_differ s.own_is in
    let there = l.by_identifier other.name old (made other beside its) s.uids_differ s.other_is in
    apart (ap (λ (o : Object). o.attrs.name) (same_Some _ _ (sym there ∙ ap (λ u. object_with u old) same ∙ here)))

other_kept : (l : ObjectLaws) (room : ℕ) (old : List Object) (own other : KeyAttrs) (uid beside : List ℕ)
    (state next : KeyState) (its : Option KeyState)
    → other.name ≢ own.name → TwoStand room old own other uid beside (Some state) its
    → option_map (restated uid next) (option_map (made other beside) its) ≡ option_map (made other beside) its
other_kept l room old own other uid beside state next None apart s = refl
other_kept l room old own other uid beside state next (Some its) apart s =
    ap (λ (o : Object). Some o) (l.other_kept uid next (made other beside its)
    (other_uid l room old own other uid beside state its apart s))

restates : (l : ObjectLaws) (room : ℕ) (old : List Object) (own other : KeyAttrs) (uid beside : List ℕ)
    (state next : KeyState) (its : Option KeyState)
    → other.name ≢ own.name → TwoStand room old own other uid beside (Some state) its
    → TwoStand room (all_restated uid next old) own other uid beside (Some next) its
restates l room old own other uid beside state next its apart s =
    let enough = s.roomy in
    record {
      names_differ = l.names_stay uid next old s.names_differ;
      uids_differ = l.identifiers_stay uid next old s.uids_differ;
      own_is = l.named_restated own.name uid next old ∙ ap (option_map (restated uid next)) s.own_is
          ∙ ap (λ (o : Object). Some o) (l.own_restated uid next (made own uid state) refl);
      other_is = l.named_restated other.name uid next old ∙ ap (option_map (restated uid next)) s.other_is
          ∙ other_kept l room old own other uid beside state next its apart s;
      roomy = omega (arith, length-map old (restated uid next), enough);
    }

-- a step that it has one for
pub taken : (l : ObjectLaws) (step : Step) (next : KeyState) {room : ℕ} {old new : List Object} {own other : KeyAttrs}
    {uid beside : List ℕ} {state : KeyState}
    {its : Option KeyState} {ask : Ask} {outcome : Outcome} → other.name ≢ own.name
    → step_asked ask ≡ Some (step, uid) → after state step ≡ Some next
    → TwoStand room old own other uid beside (Some state) its → ServerStep room old ask outcome new
    → (outcome ≡ success_of step uid) × TwoStand room new own other uid beside (Some next) its
taken l step next {room} {old} {new} {own} {other} {uid} {beside} {state} {its} {ask} {outcome} apart asked row s
    served =
    let here = l.by_identifier own.name old (made own uid state) s.uids_differ s.own_is in
    let (is, now) = subst (Steps old new uid step outcome) row
    (stepped_by room old new uid (made own uid state) step ask outcome asked here served) in (
      is,
      subst (λ objects. TwoStand room objects own other uid beside (Some next) its) (sym now)
          (restates l room old own other uid beside state next its apart s),
    )

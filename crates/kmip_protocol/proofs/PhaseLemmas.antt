-- What one exchange teaches about a key that is worked on, by its phase; its steps have a file of their own.
use Rattle.std.proofs.Common.{◌≡◌, ◌≤◌, ◌<◌, ℕ, ◌+◌, ◌-◌, true, false, nat_eq, nat_lt, List, [], ◌∷◌, ◌++◌, map, filter}
use Rattle.std.proofs.Common.{length, is_some, option_map, Option, Some, None, Ok, IsSome, IsTrue, subst, refl, sym, ap}
use Rattle.std.proofs.Common.{◌∙◌, inl, inr, arith}
use Rattle.std.specs.Ordering.{int_eq}
use Rattle.std.proofs.lemmas.Bool.{cases_Bool, ltb-true, ltb-false, lt-ltb, le-ltb, eq-eqb}
use Rattle.std.proofs.lemmas.Bool.Decides.{Decides-int_eq}
use Rattle.std.proofs.lemmas.Option.{same_Some}
use Rattle.std.specs.Cmp.Lexicographic.{pointwise}
use Rattle.kmip_objects.specs.Objects.{Object, object_named, object_with}
use Rattle.kmip_objects.specs.Attributes.{attributes_of, by_name}
use Rattle.kmip_objects.specs.Searching.{every_state}
use Rattle.kmip_objects.specs.Ranges.{is_identifier}
use Rattle.kmip_objects.specs.States.{state_number}
use Rattle.kmip_batch_items.specs.declared.outcome.Outcome.{Outcome}
use Rattle.kmip_batch_items.specs.declared.outcome.Outcome.TheVariants.{Created, Located, Attributes, Failed}
use Rattle.kmip_batch_items.specs.declared.ask.Ask.{Ask}
use Rattle.kmip_batch_items.specs.declared.ask.Ask.TheVariants as asks
use Rattle.kmip_objects.specs.declared.key_attrs.KeyAttrs.{KeyAttrs}
use Rattle.kmip_objects.specs.declared.key_state.KeyState.TheVariants.{PreActive}
use Rattle.kmip_objects.specs.declared.step.Step.{Step}
use Rattle.kmip_plan.specs.Chains.{or_zero, place_of, place_reached}
use Rattle.kmip_plan.specs.Plans.{key_fits}
use Rattle.kmip_plan.specs.declared.key.Key.{Key}
use Rattle.kmip_client.specs.declared.knowledge.Knowledge.{Knowledge}
use Rattle.kmip_client.specs.declared.phase.Phase.{Phase}
use Rattle.kmip_client.specs.declared.phase.Phase.TheVariants as phases
use Rattle.kmip_client.specs.Held.{IsHeld}
use Rattle.kmip_client.specs.Knowledge.{chain_length, lose, lost_phase}
use Rattle.kmip_client.specs.Learning.{is_known, is_other, is_number, is_planned, is_named, learn}
use Rattle.kmip_client.specs.Places.{position}
use Rattle.kmip_client.specs.Shapes.{PhaseSuits}
use Rattle.kmip_server.specs.ServerStep as rows
use Rattle.kmip_server.specs.ServerStep.{ServerStep, step_asked}
use Rattle.kmip_protocol.specs.PrivateSettlingLawbook.{Lawbook}
use Rattle.kmip_protocol.specs.Needs.{need_in, need_of}
use Rattle.kmip_protocol.specs.Ready.{IsHere}
use Rattle.kmip_protocol.proofs.SettlingChangeLemmas.{Change, stays, comes, made, here_found, here_with, came_here}
use Rattle.kmip_protocol.proofs.FilterLemmas.{same_text, none_pass}
use Rattle.kmip_protocol.proofs.NeedLemmas.{place_in, need_found, working_needs, finished_needs, go_even}

-- A key that is worked on: what is known of it is true, its object is the plan's own, and where it has none there is
-- room for it.
pub record IsWorked (room : ℕ) (objects : List Object) (key : Key) (known : Knowledge) : Type 0 where
  pub here : (o : Object) → object_named key.attrs.name objects ≡ Some o → IsHere objects key o
  pub held : IsHeld objects key known
  pub more : known.done < chain_length key
  pub fits : key_fits key ≡ true
  pub roomy : object_named key.attrs.name objects ≡ None → length objects < room

-- What the outcome teaches is true, and the key needs one exchange less.
pub record IsNearer (key : Key) (known : Knowledge) (outcome : Outcome) (old new : List Object) : Type 0 where
  pub next : Knowledge
  pub learnt : learn key outcome known ≡ Ok next
  pub held : IsHeld new key next
  pub nearer : need_of key next new + 1 ≡ need_of key known old
  pub change : Change key old new

pub needs : (key : Key) (known : Knowledge) (phase : Phase) (objects : List Object) (found : Option Object)
    → known.phase ≡ phase → known.done < chain_length key
    → object_named key.attrs.name objects ≡ found
    → need_of key known objects ≡ need_in phase (chain_length key) known.done (is_some found) (place_in key found)
needs key known phase objects found phase_is more is =
    need_found key known objects found is ∙ working_needs key known phase found phase_is more

-- a key that has gone as far as its object needs the rest of its chain
pub needs_rest : (key : Key) (known : Knowledge) (objects : List Object) (o : Object) → known.phase ≡ phases.Go
    → known.done ≡ place_reached key.target o.state
    → object_named key.attrs.name objects ≡ Some o → need_of key known objects ≡ chain_length key - known.done
needs_rest key known objects o phase_is even is = elim (cases_Bool (nat_lt known.done (chain_length key))) [
  | inl more ↦
      let e = needs key known phases.Go objects (Some o) phase_is (ltb-true known.done (chain_length key) more) is in
      let f = go_even (chain_length key) known.done (place_reached key.target o.state) even in
      omega (arith, e, f, even)
  | inr all ↦
      let e = need_found key known objects (Some o) is
      ∙ finished_needs key known (Some o) (ltb-false known.done (chain_length key) all) in
      omega (arith, e, ltb-false known.done (chain_length key) all)
]

-- ---- where no object changes

pub stays_nearer : (key : Key) (known next : Knowledge) (outcome : Outcome) (old new : List Object) → new ≡ old
    → learn key outcome known ≡ Ok next
    → IsHeld old key next → need_of key next old + 1 ≡ need_of key known old → IsNearer key known outcome old new
stays_nearer key known next outcome old new same learnt held nearer = record {
  next = next;
  learnt = learnt;
  held = subst (λ objects. IsHeld objects key next) (sym same) held;
  nearer = subst (λ objects. need_of key next objects + 1 ≡ need_of key known old) (sym same) nearer;
  change = stays same;
}

-- the answer "failed" lets the key be looked at again
lost_suits : (uid : Option (List ℕ)) (done : ℕ) → PhaseSuits (lost_phase uid) uid done
lost_suits None done = refl
lost_suits (Some uid) done = λ e. let t : Some uid ≡ None = e in absurd cc

pub lost_held : (objects : List Object) (key : Key) (known : Knowledge) → IsHeld objects key known
    → IsHeld objects key (lose known)
lost_held objects key known held = record {
  holds = record {
    uid_true = held.holds.uid_true;
    done_true = held.holds.done_true;
    has_identifier = held.holds.has_identifier;
  };
  no_clash = held.no_clash;
  suits = lost_suits known.identifier known.done;
}

-- where no identifier is known no step is
pub none_done : (objects : List Object) (key : Key) (known : Knowledge) → IsHeld objects key known
    → known.identifier ≡ None → known.done ≡ 0
none_done objects key known held none = elim (cases_Bool (nat_lt known.done 1)) [
  | inl first ↦ let e = ltb-true known.done 1 first in omega (arith, e)
  | inr later ↦ absurd (held.holds.has_identifier (ltb-false known.done 1 later) none)
]

-- ---- a look by the name

make_learnt : (key : Key) (known : Knowledge) → is_some known.identifier ≡ false
    → learn key (Located []) known ≡ Ok (record known { phase = phases.Make })
make_learnt key known none = rw none refl

check_learnt : (key : Key) (known : Knowledge) (uid : List ℕ) → is_some known.identifier ≡ false
    → is_other known.identifier uid ≡ false
    → learn key (Located (uid ∷ [])) known ≡ Ok (record known { identifier = Some uid; phase = phases.Check })
check_learnt key known uid none other = rw (other, none) refl

look_by : (l : Lawbook) (room : ℕ) (old new : List Object) (key : Key) (known : Knowledge) (outcome : Outcome)
    (found : Option Object) → known.phase ≡ phases.Look
    → IsWorked room old key known → known.identifier ≡ None → new ≡ old
    → outcome ≡ Located (map (λ o. o.uid) (filter (λ (o : Object). pointwise nat_eq key.attrs.name o.attrs.name) old))
    → object_named key.attrs.name old ≡ found → IsNearer key known outcome old new
look_by l room old new key known outcome None phase_is worked none same said is =
    let next : Knowledge = record known { phase = phases.Make } in
    let empty = none_pass (λ (o : Object). pointwise nat_eq key.attrs.name o.attrs.name) old is in
    let before = needs key known phases.Look old None phase_is worked.more is in
    let after = needs key next phases.Make old None refl worked.more is in
    stays_nearer key known next outcome old new same
    (ap (λ o. learn key o known) (said ∙ ap (λ os. Located (map (λ (o : Object). o.uid) os)) empty)
    ∙ make_learnt key known (ap is_some none))
    (record {
      holds = record {
        uid_true = worked.held.holds.uid_true;
        done_true = worked.held.holds.done_true;
        has_identifier = worked.held.holds.has_identifier;
      };
      no_clash = worked.held.no_clash;
      suits = none;
    })
    (omega (arith, before, after))
look_by l room old new key known outcome (Some o) phase_is worked none same said is =
    let next : Knowledge = record known { identifier = Some o.uid; phase = phases.Check } in
    let before = needs key known phases.Look old (Some o) phase_is worked.more is in
    let after = needs key next phases.Check old (Some o) refl worked.more is in
    stays_nearer key known next outcome old new same
    (ap (λ x. learn key x known) (said ∙ ap (λ os. Located (map (λ (x : Object). x.uid) os))
    (worked.here o is).one_named)
    ∙ check_learnt key known o.uid (ap is_some none) (ap (λ i. is_other i o.uid) none))
    (record {
      holds = record {
        uid_true = λ uid same_uid. ap (option_map (λ x. x.uid)) is ∙ same_uid;
        done_true = worked.held.holds.done_true;
        has_identifier = λ from e. let t : Some o.uid ≡ None = e in absurd cc;
      };
      no_clash = worked.held.no_clash;
      suits = λ e. let t : Some o.uid ≡ None = e in absurd cc;
    })
    (omega (arith, before, after))

pub look_nearer : (l : Lawbook) (room : ℕ) (old new : List Object) (key : Key) (known : Knowledge) (outcome : Outcome)
    → known.phase ≡ phases.Look
    → IsWorked room old key known → ServerStep room old (asks.Locate (Some every_state) (by_name key.attrs.name))
    outcome new → IsNearer key known outcome old new
look_nearer l room old new key known outcome phase_is worked step =
    let found = l.server.all_located room old new key.attrs.name outcome step in
    look_by l room old new key known outcome (object_named key.attrs.name old) phase_is worked
    (subst (λ phase. PhaseSuits phase known.identifier known.done) phase_is worked.held.suits) found.0 found.1 refl

-- ---- a Create

created_learnt_is : (key : Key) (known : Knowledge) (uid : List ℕ) → is_other known.identifier uid ≡ false
    → nat_lt known.done 1 ≡ true
    → learn key (Created uid) known ≡ Ok (record known { identifier = Some uid; done = 1; phase = phases.Go })
created_learnt_is key known uid other first = rw (other, first) refl

-- its name is taken: the key has an object
make_taken : (room : ℕ) (objects : List Object) (key : Key) (known : Knowledge) (reason : Option ℕ)
    (found : Option Object) → known.phase ≡ phases.Make
    → IsWorked room objects key known → known.identifier ≡ None → IsSome found
    → object_named key.attrs.name objects ≡ found
    → IsNearer key known (Failed reason) objects objects
make_taken room objects key known reason None phase_is worked none there is = absurd cc
make_taken room objects key known reason (Some o) phase_is worked none there is =
    let before = needs key known phases.Make objects (Some o) phase_is worked.more is in
    let after = needs key (lose known) phases.Look objects (Some o) (ap lost_phase none) worked.more is in
    stays_nearer key known (lose known) (Failed reason) objects objects refl refl
    (lost_held objects key known worked.held) (omega (arith, before, after))

-- the key's object comes
make_made : (l : Lawbook) (room : ℕ) (objects : List Object) (key : Key) (known : Knowledge) (uid : List ℕ)
    → known.phase ≡ phases.Make
    → IsWorked room objects key known → known.identifier ≡ None → object_named key.attrs.name objects ≡ None
    → object_with uid objects ≡ None
    → IsTrue (is_identifier uid) → IsNearer key known (Created uid) objects (objects ++ made uid key ∷ [])
make_made l room objects key known uid phase_is worked none free uid_free fits =
    let next : Knowledge = record known { identifier = Some uid; done = 1; phase = phases.Go } in
    let zero_done = none_done objects key known worked.held none in
    let now = here_found (objects ++ made uid key ∷ []) key (made uid key)
    (came_here l key uid objects fits free uid_free) in
    let one = l.plan.first key.target in
    let there : position key (objects ++ made uid key ∷ []) ≡ place_reached key.target PreActive = ap (place_in key)
    now in
    let before = needs key known phases.Make objects None phase_is worked.more free in
    let after = needs_rest key next (objects ++ made uid key ∷ []) (made uid key) refl (sym one) now in
    let more = worked.more in
    record {
      next = next;
      learnt = created_learnt_is key known uid (ap (λ i. is_other i uid) none)
          (lt-ltb known.done 1 (omega (arith, zero_done)));
      held = record {
        holds = record {
          uid_true = λ own same. ap (option_map (λ x. x.uid)) now ∙ same;
          done_true = omega (arith, there, one);
          has_identifier = λ from e. let t : Some uid ≡ None = e in absurd cc;
        };
        no_clash = worked.held.no_clash;
        suits = (λ e. let t : Some uid ≡ None = e in absurd cc, omega arith);
      };
      nearer = omega (arith, before, after, more);
      change = comes uid fits free uid_free refl;
    }

-- neither a Create nor a Get Attributes asks a step of an object
no_step_asked : (attrs : KeyAttrs) (ask : Ask) (step : Step) (uid : List ℕ) → ask ≡ asks.Create attrs
    → step_asked ask ≡ Some (step, uid) → ⊥
no_step_asked attrs ask step uid is asked =
    let t : ◌≡◌ {A = Option (Step × List ℕ)} None (Some (step, uid)) = sym (ap step_asked is) ∙ asked in absurd cc

no_step_told : (own : List ℕ) (ask : Ask) (step : Step) (uid : List ℕ) → ask ≡ asks.GetAttributes own
    → step_asked ask ≡ Some (step, uid) → ⊥
no_step_told own ask step uid is asked =
    let t : ◌≡◌ {A = Option (Step × List ℕ)} None (Some (step, uid)) = sym (ap step_asked is) ∙ asked in absurd cc

same_attrs : (a b : KeyAttrs) → asks.Create a ≡ asks.Create b → a ≡ b
same_attrs a b is = cc

make_step : (l : Lawbook) (room : ℕ) (old new : List Object) (key : Key) (known : Knowledge) (ask : Ask)
    (outcome : Outcome) → known.phase ≡ phases.Make
    → IsWorked room old key known → known.identifier ≡ None → ask ≡ asks.Create key.attrs
    → ServerStep room old ask outcome new → IsNearer key known outcome old new
make_step l room old new key known ask outcome phase_is worked none is (rows.name_taken {attrs} h) =
    make_taken room old key known _ (object_named key.attrs.name old) phase_is worked none
    (subst (λ a. IsSome (object_named a.name old)) (same_attrs attrs key.attrs is) h) refl
make_step l room old new key known ask outcome phase_is worked none is (rows.full {attrs} free full) =
    let less = worked.roomy (subst (λ a. object_named a.name old ≡ None) (same_attrs attrs key.attrs is) free) in
    absurd (omega (arith, less, full))
make_step l room old new key known ask outcome phase_is worked none is
    (rows.created {attrs} {uid} free roomy uid_free fits) =
    subst (λ a. object_named a.name old ≡ None
    → IsNearer key known (Created uid) old (old ++ record { uid = uid; attrs = a; state = PreActive } ∷ []))
    (sym (same_attrs attrs key.attrs is)) (λ none_named.
    make_made l room old key known uid phase_is worked none none_named uid_free fits) free
make_step l room old new key known ask outcome phase_is worked none is rows.searched = absurd cc
make_step l room old new key known ask outcome phase_is worked none is (rows.told h) = absurd cc
make_step l room old new key known ask outcome phase_is worked none is (rows.unknown h) = absurd cc
make_step l room old new key known ask outcome phase_is worked none is (rows.compromised h) = absurd cc
make_step l room old new key known ask outcome phase_is worked none is (rows.not_found h i) =
    absurd (no_step_asked key.attrs ask _ _ is h)
make_step l room old new key known ask outcome phase_is worked none is (rows.wrong_state h i j) =
    absurd (no_step_asked key.attrs ask _ _ is h)
make_step l room old new key known ask outcome phase_is worked none is (rows.done h i j) =
    absurd (no_step_asked key.attrs ask _ _ is h)

pub make_nearer : (l : Lawbook) (room : ℕ) (old new : List Object) (key : Key) (known : Knowledge) (outcome : Outcome)
    → known.phase ≡ phases.Make
    → IsWorked room old key known → ServerStep room old (asks.Create key.attrs) outcome new
    → IsNearer key known outcome old new
make_nearer l room old new key known outcome phase_is worked step =
    make_step l room old new key known (asks.Create key.attrs) outcome phase_is worked
    (subst (λ phase. PhaseSuits phase known.identifier known.done) phase_is worked.held.suits) refl step

-- ---- a look at the object

told_is_planned : (key : Key) (o : Object) → o.attrs ≡ key.attrs → is_planned key (attributes_of o) ≡ true
told_is_planned key o own =
    let algorithm : is_number key.attrs.algorithm (Some o.attrs.algorithm) ≡ true = eq-eqb o.attrs.algorithm
    key.attrs.algorithm (ap (λ attrs. attrs.algorithm) own) in
    let bits : int_eq o.attrs.length key.attrs.length ≡ true = (Decides-int_eq o.attrs.length key.attrs.length).1
    (ap (λ attrs. attrs.length) own) in
    let usage : int_eq o.attrs.usage key.attrs.usage ≡ true = (Decides-int_eq o.attrs.usage key.attrs.usage).1
    (ap (λ attrs. attrs.usage) own) in
    rw (algorithm, bits, usage) refl

told_learnt : (key : Key) (known : Knowledge) (uid : List ℕ) (o : Object) (place : ℕ)
    → is_known known.identifier uid ≡ true
    → is_named key (attributes_of o) ≡ true → is_planned key (attributes_of o) ≡ true
    → place_of key.target (state_number o.state) ≡ Some place
    → nat_lt place known.done ≡ false → learn key (Attributes uid (attributes_of o)) known ≡ Ok
    (record known { done = place; phase = phases.Go })
told_learnt key known uid o place own named planned at less = rw (own, named, planned, at, less) refl

some_place : (found : Option ℕ) → 1 ≤ or_zero found → found ≡ Some (or_zero found)
some_place None is = absurd (omega (arith, is))
some_place (Some n) is = refl

-- the identifier that is known is that of the key's object
pub own_uid : (objects : List Object) (key : Key) (known : Knowledge) (uid : List ℕ) → IsHeld objects key known
    → known.identifier ≡ Some uid
    → (o : Object) × (object_named key.attrs.name objects ≡ Some o) × (o.uid ≡ uid)
own_uid objects key known uid held is =
    by_found (object_named key.attrs.name objects) refl (held.holds.uid_true uid is) where
      by_found : (found : Option Object) → object_named key.attrs.name objects ≡ found
          → option_map (λ o. o.uid) found ≡ Some uid
          → (o : Object) × (object_named key.attrs.name objects ≡ Some o) × (o.uid ≡ uid)
      by_found None named same = absurd cc
      by_found (Some o) named same = (o, named, same_Some _ _ same)

check_told : (l : Lawbook) (room : ℕ) (objects : List Object) (key : Key) (known : Knowledge) (o : Object)
    → known.phase ≡ phases.Check
    → IsWorked room objects key known → known.identifier ≡ Some o.uid → object_named key.attrs.name objects ≡ Some o
    → IsNearer key known (Attributes o.uid (attributes_of o)) objects objects
check_told l room objects key known o phase_is worked known_is is =
    let here = worked.here o is in
    let place : ℕ = place_reached key.target o.state in
    let there : position key objects ≡ place = ap (place_in key) is in
    let had : known.done ≤ place = omega (arith, there, worked.held.holds.done_true) in
    let next : Knowledge = record known { done = place; phase = phases.Go } in
    let within = l.plan.reached key.target o.state in
    let from = here.own.on_the_way in
    let before = needs key known phases.Check objects (Some o) phase_is worked.more is in
    let after = needs_rest key next objects o refl refl is in
    stays_nearer key known next (Attributes o.uid (attributes_of o)) objects objects refl
    (told_learnt key known o.uid o place (ap (λ i. is_known i o.uid) known_is ∙ same_text o.uid o.uid refl)
    (same_text o.attrs.name key.attrs.name (ap (λ attrs. attrs.name) here.own.attrs_are))
    (told_is_planned key o here.own.attrs_are)
    (some_place (place_of key.target (state_number o.state)) from) (le-ltb place known.done had))
    (record {
      holds = record {
        uid_true = worked.held.holds.uid_true;
        done_true = omega (arith, there);
        has_identifier = λ some e. let t : Some o.uid ≡ None = sym known_is ∙ e in absurd cc;
      };
      no_clash = worked.held.no_clash;
      suits = (λ e. let t : Some o.uid ≡ None = sym known_is ∙ e in absurd cc, from);
    })
    (omega (arith, before, after, within, from))

same_uid : (a b : List ℕ) → asks.GetAttributes a ≡ asks.GetAttributes b → a ≡ b
same_uid a b is = cc

check_step : (l : Lawbook) (room : ℕ) (old new : List Object) (key : Key) (known : Knowledge) (o : Object) (ask : Ask)
    (outcome : Outcome) → known.phase ≡ phases.Check
    → IsWorked room old key known → known.identifier ≡ Some o.uid → object_named key.attrs.name old ≡ Some o
    → ask ≡ asks.GetAttributes o.uid
    → ServerStep room old ask outcome new → IsNearer key known outcome old new
check_step l room old new key known o ask outcome phase_is worked known_is named is (rows.told {uid} {o = x} h) =
    let same = same_uid uid o.uid is in
    let one : x ≡ o = same_Some _ _ (sym h ∙ ap (λ u. object_with u old) same
    ∙ here_with old key o (worked.here o named)) in
    subst (λ u. IsNearer key known (Attributes u (attributes_of x)) old old) (sym same)
    (subst (λ y. IsNearer key known (Attributes o.uid (attributes_of y)) old old) (sym one)
    (check_told l room old key known o phase_is worked known_is named))
check_step l room old new key known o ask outcome phase_is worked known_is named is (rows.unknown {uid} h) =
    let t : Some o ≡ None = sym (here_with old key o (worked.here o named))
    ∙ ap (λ u. object_with u old) (sym (same_uid uid o.uid is)) ∙ h in absurd cc
check_step l room old new key known o ask outcome phase_is worked known_is named is (rows.name_taken h) = absurd cc
check_step l room old new key known o ask outcome phase_is worked known_is named is (rows.full h i) = absurd cc
check_step l room old new key known o ask outcome phase_is worked known_is named is (rows.created h i j k) = absurd cc
check_step l room old new key known o ask outcome phase_is worked known_is named is rows.searched = absurd cc
check_step l room old new key known o ask outcome phase_is worked known_is named is (rows.compromised h) = absurd cc
check_step l room old new key known o ask outcome phase_is worked known_is named is (rows.not_found h i) =
    absurd (no_step_told o.uid ask _ _ is h)
check_step l room old new key known o ask outcome phase_is worked known_is named is (rows.wrong_state h i j) =
    absurd (no_step_told o.uid ask _ _ is h)
check_step l room old new key known o ask outcome phase_is worked known_is named is (rows.done h i j) =
    absurd (no_step_told o.uid ask _ _ is h)

pub check_nearer : (l : Lawbook) (room : ℕ) (old new : List Object) (key : Key) (known : Knowledge) (uid : List ℕ)
    (outcome : Outcome) → known.phase ≡ phases.Check
    → IsWorked room old key known → known.identifier ≡ Some uid
    → ServerStep room old (asks.GetAttributes uid) outcome new → IsNearer key known outcome old new
check_nearer l room old new key known uid outcome phase_is worked known_is step =
    let (o, named, same) = own_uid old key known uid worked.held known_is in
    check_step l room old new key known o (asks.GetAttributes uid) outcome phase_is worked
    (known_is ∙ ap (λ u. Some u) (sym same)) named
    (ap (λ u. asks.GetAttributes u) (sym same)) step

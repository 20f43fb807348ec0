-- How the objects change when the question about a key is served: they stay, the key's comes, or it takes a step. The
-- objects of the
-- other names are what they were.
use Rattle.std.proofs.Common.{◌≡◌, ◌≢◌, ◌≤◌, ◌+◌, ℕ, true, false, nat_eq, List, [], ◌∷◌, ◌++◌, map, length, option_map}
use Rattle.std.proofs.Common.{Option, Some, None, IsTrue, length-append, subst, refl, sym, ap, ◌∙◌, inl, inr, arith}
use Rattle.std.specs.Cmp.Lexicographic.{pointwise}
use Rattle.std.specs.List.{slice_get}
use Rattle.std.specs.Option.{is_none}
use Rattle.std.proofs.lemmas.Bool.{cases_Bool}
use Rattle.std.proofs.lemmas.List.{length-map}
use Rattle.std.proofs.lemmas.Option.{same_Some}
use Rattle.std.proofs.lemmas.Slice.Eq.{bytes_eq-Decides}
use Rattle.kmip_objects.specs.Objects.{Object, object_named, object_with, restated, all_restated}
use Rattle.kmip_objects.specs.Ranges.{is_identifier}
use Rattle.kmip_objects.specs.declared.key_state.KeyState.{KeyState}
use Rattle.kmip_objects.specs.declared.key_state.KeyState.TheVariants.{PreActive}
use Rattle.kmip_plan.specs.Chains.{place_reached}
use Rattle.kmip_plan.specs.Plans.{IsLawful, IsPlanned, key_named}
use Rattle.kmip_plan.specs.declared.key.Key.{Key}
use Rattle.kmip_protocol.specs.Headline.{all_named}
use Rattle.kmip_protocol.specs.PrivateSettlingLawbook.{Lawbook}
use Rattle.kmip_protocol.specs.Needs.{missing}
use Rattle.kmip_protocol.specs.Ready.{all_with, IsHere, AreHere}
use Rattle.kmip_protocol.proofs.FilterLemmas.{same_text, other_text, no_one, none_pass, one_found, found_same}
use Rattle.kmip_protocol.proofs.FilterLemmas.{more_pass, no_more_pass, changed_pass, alone}
use Rattle.kmip_protocol.proofs.SumLemmas.{IsSame, OthersSame, one_made, none_made}

-- the object that a key begins with
abbrev pub made : List ℕ → Key → Object
made uid key = record { uid = uid; attrs = key.attrs; state = PreActive }

pub data Change (key : Key) (old new : List Object) : Type 0 where
  stays : new ≡ old → Change key old new
  comes : (uid : List ℕ) → IsTrue (is_identifier uid) → object_named key.attrs.name old ≡ None
      → object_with uid old ≡ None
      → new ≡ old ++ made uid key ∷ [] → Change key old new
  takes : (o : Object) (state : KeyState) → IsHere old key o → 1 ≤ place_reached key.target state
      → new ≡ all_restated o.uid state old
      → Change key old new

-- two keys of a plan with one name are one
pub same_key : (keys : List Key) (key other : Key) → IsPlanned keys key → IsPlanned keys other
    → other.attrs.name ≡ key.attrs.name → key ≡ other
same_key keys key other planned also same =
    same_Some _ _ (sym planned ∙ ap (λ name. key_named name keys) (sym same) ∙ also)

pub here_found : (objects : List Object) (key : Key) (o : Object) → IsHere objects key o
    → object_named key.attrs.name objects ≡ Some o
here_found objects key o here =
    one_found (λ (x : Object). pointwise nat_eq key.attrs.name x.attrs.name) objects o here.one_named

pub here_with : (objects : List Object) (key : Key) (o : Object) → IsHere objects key o
    → object_with o.uid objects ≡ Some o
here_with objects key o here = one_found (λ (x : Object). pointwise nat_eq o.uid x.uid) objects o here.one_identified

-- ---- one more object

came_named : (key : Key) (uid : List ℕ) (old : List Object) → object_named key.attrs.name old ≡ None
    → all_named key.attrs.name (old ++ made uid key ∷ []) ≡ made uid key ∷ []
came_named key uid old free =
    more_pass (λ (x : Object). pointwise nat_eq key.attrs.name x.attrs.name) old (made uid key)
    (same_text key.attrs.name key.attrs.name refl)
    (none_pass (λ (x : Object). pointwise nat_eq key.attrs.name x.attrs.name) old free)

pub came_here : (l : Lawbook) (key : Key) (uid : List ℕ) (old : List Object) → IsTrue (is_identifier uid)
    → object_named key.attrs.name old ≡ None
    → object_with uid old ≡ None → IsHere (old ++ made uid key ∷ []) key (made uid key)
came_here l key uid old fits free uid_free = record {
  one_named = came_named key uid old free;
  one_identified = more_pass (λ (x : Object). pointwise nat_eq uid x.uid) old (made uid key) (same_text uid uid refl)
      (none_pass (λ (x : Object). pointwise nat_eq uid x.uid) old uid_free);
  own = record {
    identified = fits;
    attrs_are = refl;
    on_the_way = let e = l.plan.first key.target in omega (arith, e);
  };
}

other_came_named : (name : List ℕ) (key : Key) (uid : List ℕ) (old : List Object) → name ≢ key.attrs.name
    → all_named name (old ++ made uid key ∷ []) ≡ all_named name old
other_came_named name key uid old apart =
    no_more_pass (λ (x : Object). pointwise nat_eq name x.attrs.name) old (made uid key)
    (other_text name key.attrs.name apart)

other_came : (name : List ℕ) (key : Key) (uid : List ℕ) (old : List Object) → name ≢ key.attrs.name
    → object_named name (old ++ made uid key ∷ []) ≡ object_named name old
other_came name key uid old apart =
    found_same (λ (x : Object). pointwise nat_eq name x.attrs.name) (old ++ made uid key ∷ []) old
    (other_came_named name key uid old apart)

other_came_here : (other key : Key) (uid : List ℕ) (old : List Object) (o : Object)
    → other.attrs.name ≢ key.attrs.name → object_with uid old ≡ None
    → IsHere old other o → IsHere (old ++ made uid key ∷ []) other o
other_came_here other key uid old o apart uid_free here = record {
  one_named = other_came_named other.attrs.name key uid old apart ∙ here.one_named;
  one_identified =
      no_more_pass (λ (x : Object). pointwise nat_eq o.uid x.uid) old (made uid key) (other_text o.uid uid (λ same.
      let none : object_with o.uid old ≡ None = ap (λ u. object_with u old) same ∙ uid_free in
      no_one o (sym here.one_identified ∙ none_pass (λ (x : Object). pointwise nat_eq o.uid x.uid) old none)))
      ∙ here.one_identified;
  own = here.own;
}

-- ---- a step

taken_named : (l : Lawbook) (name uid : List ℕ) (state : KeyState) (old : List Object)
    → all_named name (all_restated uid state old) ≡ map (restated uid state) (all_named name old)
taken_named l name uid state old =
    changed_pass (λ (x : Object). pointwise nat_eq name x.attrs.name) (restated uid state)
    (λ x. ap (λ attrs. pointwise nat_eq name attrs.name) (l.objects.restated_keeps uid state x).1) old

taken_with : (l : Lawbook) (own uid : List ℕ) (state : KeyState) (old : List Object)
    → all_with own (all_restated uid state old) ≡ map (restated uid state) (all_with own old)
taken_with l own uid state old =
    changed_pass (λ (x : Object). pointwise nat_eq own x.uid) (restated uid state)
    (λ x. ap (pointwise nat_eq own) (l.objects.restated_keeps uid state x).0) old

pub took_here : (l : Lawbook) (key : Key) (o : Object) (state : KeyState) (old : List Object) → IsHere old key o
    → 1 ≤ place_reached key.target state
    → IsHere (all_restated o.uid state old) key (record o { state = state })
took_here l key o state old here from =
    let now = l.objects.own_restated o.uid state o refl in
    record {
      one_named = taken_named l key.attrs.name o.uid state old ∙ ap (map (restated o.uid state)) here.one_named
          ∙ ap (λ x. x ∷ []) now;
      one_identified = taken_with l o.uid o.uid state old ∙ ap (map (restated o.uid state)) here.one_identified
          ∙ ap (λ x. x ∷ []) now;
      own = record { identified = here.own.identified; attrs_are = here.own.attrs_are; on_the_way = from };
    }

-- the object of another key has another identifier
other_uid : (key other : Key) (o x : Object) (old : List Object) → other.attrs.name ≢ key.attrs.name
    → IsHere old key o → IsHere old other x → x.uid ≢ o.uid
other_uid key other o x old apart here there = λ same.
    let one : x ≡ o = alone (λ (y : Object). pointwise nat_eq x.uid y.uid) old x o there.one_identified
    (ap (λ u. all_with u old) same ∙ here.one_identified) in
    apart (sym (ap (λ attrs. attrs.name) there.own.attrs_are) ∙ ap (λ y. y.attrs.name) one
    ∙ ap (λ attrs. attrs.name) here.own.attrs_are)

other_took_here : (l : Lawbook) (key other : Key) (o x : Object) (state : KeyState) (old : List Object)
    → other.attrs.name ≢ key.attrs.name
    → IsHere old key o → IsHere old other x → IsHere (all_restated o.uid state old) other x
other_took_here l key other o x state old apart here there =
    let kept = l.objects.other_kept o.uid state x (other_uid key other o x old apart here there) in
    record {
      one_named = taken_named l other.attrs.name o.uid state old ∙ ap (map (restated o.uid state)) there.one_named
          ∙ ap (λ y. y ∷ []) kept;
      one_identified = taken_with l x.uid o.uid state old ∙ ap (map (restated o.uid state)) there.one_identified
          ∙ ap (λ y. y ∷ []) kept;
      own = there.own;
    }

other_took : (l : Lawbook) (key other : Key) (o : Object) (state : KeyState) (old : List Object)
    (found : Option Object) → other.attrs.name ≢ key.attrs.name
    → IsHere old key o → ((x : Object) → found ≡ Some x → IsHere old other x)
    → object_named other.attrs.name old ≡ found
    → object_named other.attrs.name (all_restated o.uid state old) ≡ found
other_took l key other o state old None apart here its is =
    l.objects.named_restated other.attrs.name o.uid state old ∙ ap (option_map (restated o.uid state)) is
other_took l key other o state old (Some x) apart here its is =
    l.objects.named_restated other.attrs.name o.uid state old ∙ ap (option_map (restated o.uid state)) is
    ∙ ap (λ y. Some y) (l.objects.other_kept o.uid state x (other_uid key other o x old apart here (its x refl)))

-- ---- whichever way they change

-- the objects of the other names are what they were
pub other_same : (l : Lawbook) (keys : List Key) (key other : Key) (old new : List Object) → AreHere keys old
    → IsPlanned keys other → Change key old new
    → other.attrs.name ≢ key.attrs.name → IsSame old new other
other_same l keys key other old new its planned (stays same) apart = ap (object_named other.attrs.name) same
other_same l keys key other old new its planned (comes uid fits free uid_free now) apart =
    ap (object_named other.attrs.name) now ∙ other_came other.attrs.name key uid old apart
other_same l keys key other old new its planned (takes o state here from now) apart =
    ap (object_named other.attrs.name) now
    ∙ other_took l key other o state old (object_named other.attrs.name old) apart here
    (λ x is. its other x planned is) refl

pub places_same : (l : Lawbook) (keys : List Key) (place : ℕ) (key : Key) (old new : List Object) → IsLawful keys
    → slice_get keys place ≡ Some key
    → AreHere keys old → Change key old new → OthersSame keys place old new
places_same l keys place key old new lawful here its change = λ j other apart is.
    other_same l keys key other old new its (l.plan.found keys j other lawful is) change
    (λ same. apart (l.plan.distinct keys j place other key lawful is here same))

-- each is the plan's own still
own_here : (l : Lawbook) (key : Key) (old new : List Object) (x : Object)
    → ((o : Object) → object_named key.attrs.name old ≡ Some o → IsHere old key o)
    → Change key old new → object_named key.attrs.name new ≡ Some x → IsHere new key x
own_here l key old new x its (stays same) is =
    subst (λ objects. IsHere objects key x) (sym same) (its x (sym (ap (object_named key.attrs.name) same) ∙ is))
own_here l key old new x its (comes uid fits free uid_free now) is =
    let there = came_here l key uid old fits free uid_free in
    let one : made uid key ≡ x = same_Some _ _
    (sym (here_found (old ++ made uid key ∷ []) key (made uid key) there)
    ∙ sym (ap (object_named key.attrs.name) now) ∙ is) in
    subst (λ objects. IsHere objects key x) (sym now) (subst (IsHere (old ++ made uid key ∷ []) key) one there)
own_here l key old new x its (takes o state here from now) is =
    let there = took_here l key o state old here from in
    let one : record o { state = state } ≡ x = same_Some _ _
    (sym (here_found (all_restated o.uid state old) key (record o { state = state }) there)
    ∙ sym (ap (object_named key.attrs.name) now) ∙ is) in
    subst (λ objects. IsHere objects key x) (sym now) (subst (IsHere (all_restated o.uid state old) key) one there)

other_here : (l : Lawbook) (key other : Key) (old new : List Object) (x : Object) → other.attrs.name ≢ key.attrs.name
    → IsHere old other x → Change key old new
    → IsHere new other x
other_here l key other old new x apart here (stays same) = subst (λ objects. IsHere objects other x) (sym same) here
other_here l key other old new x apart here (comes uid fits free uid_free now) =
    subst (λ objects. IsHere objects other x) (sym now) (other_came_here other key uid old x apart uid_free here)
other_here l key other old new x apart here (takes o state there from now) =
    subst (λ objects. IsHere objects other x) (sym now) (other_took_here l key other o x state old apart there here)

pub here_after : (l : Lawbook) (keys : List Key) (key : Key) (old new : List Object) → IsPlanned keys key
    → AreHere keys old → Change key old new → AreHere keys new
here_after l keys key old new planned its change =
    λ other x also is. elim (cases_Bool (pointwise nat_eq other.attrs.name key.attrs.name)) [
      | inl same ↦
          let one : key ≡ other = same_key keys key other planned also
          ((bytes_eq-Decides other.attrs.name key.attrs.name).0 same) in
          subst (λ k. object_named k.attrs.name new ≡ Some x → IsHere new k x) one
          (λ found. own_here l key old new x (λ o was. its key o planned was) change found) is
      | inr differ ↦
          let apart : other.attrs.name ≢ key.attrs.name = λ e.
          let t : true ≡ false = sym (same_text other.attrs.name key.attrs.name e) ∙ differ in absurd cc in
          other_here l key other old new x apart (its other x also
          (sym (other_same l keys key other old new its also change apart) ∙ is)) change
    ]

-- ---- and there is room still

pub room_after : (l : Lawbook) (keys : List Key) (place room : ℕ) (key : Key) (old new : List Object) → IsLawful keys
    → slice_get keys place ≡ Some key
    → AreHere keys old → Change key old new → length old + missing keys old ≤ room
    → length new + missing keys new ≤ room
room_after l keys place room key old new lawful here its (stays same) roomy =
    subst (λ objects. length objects + missing keys objects ≤ room) (sym same) roomy
room_after l keys place room key old new lawful here its (comes uid fits free uid_free now) roomy =
    let more : length new ≡ length old + 1 = ap length now ∙ length-append old (made uid key ∷ []) in
    let there : object_named key.attrs.name new ≡ Some (made uid key) =
    ap (object_named key.attrs.name) now ∙ here_found (old ++ made uid key ∷ []) key (made uid key)
    (came_here l key uid old fits free uid_free) in
    let less = one_made keys place key old new (made uid key)
    (places_same l keys place key old new lawful here its (comes uid fits free uid_free now)) here free there in
    omega (arith, more, less, roomy)
room_after l keys place room key old new lawful here its (takes o state there from now) roomy =
    let long : length new ≡ length old = ap length now ∙ length-map old (restated o.uid state) in
    let few : missing keys new ≡ missing keys old = none_made keys old new (λ name.
    ap (λ objects. is_none (object_named name objects)) now
    ∙ ap is_none (l.objects.named_restated name o.uid state old)
    ∙ stays_some (object_named name old) (restated o.uid state)) in
    omega (arith, long, few, roomy) where
      stays_some : (found : Option Object) (f : Object → Object) → is_none (option_map f found) ≡ is_none found
      stays_some None f = refl
      stays_some (Some x) f = refl

-- How far a look has come with a key after a message, by what the replies say.
use Rattle.std.proofs.Common.{◌≡◌, ◌≤◌, ◌<◌, ℕ, Bool, true, false, ◌&&◌, ◌||◌, not, nat_lt, ◌==◌, List, [], ◌∷◌, length, map, Option, Some, None, Result, Ok, Err, refl, sym, ap, subst, ◌∙◌, inl, inr, arith, if◌then◌else◌}
use Rattle.std.specs.Bool.{⊤}
use Rattle.std.proofs.lemmas.Bool.{and_parts, cases_Bool, ltb-true}
use Rattle.std.proofs.lemmas.List.Elements.{Contains-append_right}
use Rattle.std.proofs.lemmas.Option.{same_Some}
use Rattle.std.proofs.lemmas.Slice.Eq.{bytes_eq-Decides}
use Rattle.std.specs.List.{AllZip, Contains, find, list_all}
use Rattle.std.specs.Option.{is_some, option_map_or}
use Rattle.std.specs.Cmp.Lexicographic.{pointwise}
use Rattle.std.specs.Prelude.{nat_eq}
use Rattle.kmip_objects.specs.Attributes.{attributes_of}
use Rattle.kmip_objects.specs.Objects.{Object}
use Rattle.kmip_objects.specs.Ranges.{is_identifier}
use Rattle.kmip_objects.specs.declared.attrs.Attrs.{Attrs}
use Rattle.kmip_batch_items.specs.BatchItems.{answer_fits}
use Rattle.kmip_batch_items.specs.Fits.{is_own, outcome_fits}
use Rattle.kmip_batch_items.specs.Ranges.{is_batch_id}
use Rattle.kmip_batch_items.specs.declared.outcome.Outcome.{Outcome}
use Rattle.kmip_batch_items.specs.declared.outcome.Outcome.TheVariants.{Created, Located, Attributes, Activated, Revoked, Destroyed, Failed}
use Rattle.kmip_batch_items.specs.declared.reply.Reply.{Reply}
use Rattle.kmip_batch_items.specs.declared.standard.TheConstants.{OPERATION_LOCATE}
use Rattle.kmip_plan.specs.Chains.{place_of}
use Rattle.kmip_plan.specs.declared.key.Key.{Key}
use Rattle.kmip_client.specs.Clients.{tells}
use Rattle.kmip_client.specs.Knowledge.{fresh_knowledge}
use Rattle.kmip_client.specs.Learning.{attributes_learnt, is_named, is_planned, none_learnt, one_learnt, place_learnt, state_learnt, with_clash}
use Rattle.kmip_client.specs.declared.clash.Clash.TheVariants as clashes
use Rattle.kmip_client.specs.declared.hear_fault.HearFault.{HearFault}
use Rattle.kmip_client.specs.declared.hear_fault.HearFault.TheVariants.{OtherName}
use Rattle.kmip_client.specs.declared.knowledge.Knowledge.{Knowledge}
use Rattle.kmip_client.specs.declared.phase.Phase.{Phase}
use Rattle.kmip_client.specs.declared.phase.Phase.TheVariants as phases
use Rattle.kmip_protocol.specs.Headline.{all_named}
use Rattle.kmip_look.specs.PrivateAsking.{id_of, is_asked, is_in, is_refused, part_number}
use Rattle.kmip_look.specs.PrivateHearing.{heard, heard_each, heard_found, heard_from, heard_key, heard_told, is_answer, learnt_by}
use Rattle.kmip_look.specs.PrivateKeeping.{IsAt, SaysOf}
use Rattle.kmip_look.specs.PrivateKeeping as keeping
use Rattle.kmip_look.specs.Standings as standings
use Rattle.kmip_look.specs.Standings.{StandsSo, is_told, shown_of}
use Rattle.kmip_look.specs.declared.looked.Looked.{Looked}
use Rattle.kmip_look.specs.declared.part.Part.{Part}
use Rattle.kmip_look.specs.declared.part.Part.TheVariants.{Find, Tell}
use Rattle.kmip_look.specs.declared.shown.Shown.{Shown}
use Rattle.kmip_look.specs.declared.why.Why.{Why}

-- ---- small lemmas

pub same_ok : {A E : Type 0} (x y : A) → ◌≡◌ {A = Result A E} (Ok x) (Ok y) → x ≡ y
same_ok {A} {E} x y is = ap value is where
  value : Result A E → A
  value (Ok a) = a
  value (Err e) = x

-- what is known and shown of a key, and why not more, are all that is said of it
pub made_of : (looked : Looked) (known : Knowledge) (shown : Option Shown) → looked.known ≡ known → looked.shown ≡ shown
    → looked ≡ record { known = known; shown = shown; why = looked.why }
made_of looked known shown is so =
    subst (λ k. looked ≡ record { known = k; shown = shown; why = looked.why }) is
    (subst (λ s. looked ≡ record { known = looked.known; shown = s; why = looked.why }) so refl)

-- ---- a key that is told is not asked about

not_both : (part : Part) (phase : Phase) (clash refused : Bool) → (tells phase || clash) ≡ true → (is_in part phase && not clash && not refused) ≡ true → ⊥
not_both part phase true refused told asked =
    let unclashed : not true ≡ true = (and_parts (is_in part phase) (not true) (and_parts (is_in part phase && not true) (not refused) asked).0).1 in
    absurd cc
not_both part phases.Look false refused told asked = absurd cc
not_both part phases.Check false refused told asked = absurd cc
not_both Find phases.Make false refused told asked = absurd cc
not_both Tell phases.Make false refused told asked = absurd cc
not_both Find phases.Go false refused told asked = absurd cc
not_both Tell phases.Go false refused told asked = absurd cc

pub told_is_not_asked : (part : Part) (looked : Looked) → is_told looked.known ≡ true → is_asked part looked ≡ true → ⊥
told_is_not_asked part looked told asked = not_both part looked.known.phase (is_some looked.known.clash) (is_refused looked.why) told asked

-- a key of which nothing was heard is not asked about in the second part
pub unheard_not_told : (looked : Looked) → looked.known ≡ fresh_knowledge → is_asked Tell looked ≡ true → ⊥
unheard_not_told looked known asked =
    let fresh : is_asked Tell (record { known = fresh_knowledge; shown = looked.shown; why = looked.why }) ≡ true =
    subst (λ k. is_asked Tell (record { known = k; shown = looked.shown; why = looked.why }) ≡ true) known asked in
    absurd cc

-- one whose object was found is not asked about in the first
pub found_not_looked : (uid : List ℕ) (looked : Looked) → looked.known ≡ one_learnt uid fresh_knowledge → is_asked Find looked ≡ true → ⊥
found_not_looked uid looked known asked =
    let found : is_asked Find (record { known = one_learnt uid fresh_knowledge; shown = looked.shown; why = looked.why }) ≡ true =
    subst (λ k. is_asked Find (record { known = k; shown = looked.shown; why = looked.why }) ≡ true) known asked in
    absurd cc

-- ---- attributes that are learnt tell how a key stands

placed_told : (place : Option ℕ) (uid : List ℕ) → is_told (place_learnt place (one_learnt uid fresh_knowledge)) ≡ true
placed_told None uid = refl
placed_told (Some place) uid = elim (cases_Bool (nat_lt place 0)) [
  | inl less ↦ let none : place < 0 = ltb-true place 0 less in absurd (omega (arith, none))
  | inr more ↦ rw more refl
]

state_told : (key : Key) (state : Option ℕ) (uid : List ℕ) → is_told (state_learnt key state (one_learnt uid fresh_knowledge)) ≡ true
state_told key None uid = refl
state_told key (Some state) uid = placed_told (place_of key.target state) uid

either_told : (named planned : Bool) (x y known : Knowledge) → is_told x ≡ true → is_told y ≡ true
    → ◌≡◌ {A = Result Knowledge HearFault} (if named then Ok (if planned then x else y) else Err OtherName) (Ok known)
    → is_told known ≡ true
either_told true true x y known xs ys is = subst (λ k. is_told k ≡ true) (same_ok {E = HearFault} x known is) xs
either_told true false x y known xs ys is = subst (λ k. is_told k ≡ true) (same_ok {E = HearFault} y known is) ys
either_told false planned x y known xs ys is = absurd cc

pub attributes_told : (key : Key) (told : Attrs) (uid : List ℕ) (known : Knowledge) → attributes_learnt key told (one_learnt uid fresh_knowledge) ≡ Ok known
    → is_told known ≡ true
attributes_told key told uid known is =
    either_told (is_named key told) (is_planned key told) (state_learnt key told.state (one_learnt uid fresh_knowledge))
    (with_clash clashes.Attributes (one_learnt uid fresh_knowledge)) known (state_told key told.state uid) refl is

either_named : (named planned : Bool) (x y known : Knowledge)
    → ◌≡◌ {A = Result Knowledge HearFault} (if named then Ok (if planned then x else y) else Err OtherName) (Ok known) → named ≡ true
either_named true planned x y known is = refl
either_named false planned x y known is = absurd cc

named_by : (key : Key) (told : Attrs) (old known : Knowledge) → attributes_learnt key told old ≡ Ok known → is_named key told ≡ true
named_by key told old known is =
    either_named (is_named key told) (is_planned key told) (state_learnt key told.state old) (with_clash clashes.Attributes old) known is

-- ---- what an outcome has to teach

-- What follows of an outcome for a key: of the object that was found, or of how the key stands.
pub record Teaches (Found : List ℕ → Type 0) (Told : Looked → Type 0) (key : Key) (outcome : Outcome) : Type 0 where
  pub none : outcome ≡ Located [] → (new : Looked) → new.known ≡ none_learnt fresh_knowledge → new.shown ≡ None → Told new
  pub one : (uid : List ℕ) → outcome ≡ Located (uid ∷ []) → Found uid
  pub several : (uid other : List ℕ) (more : List (List ℕ)) → outcome ≡ Located (uid ∷ other ∷ more) → (new : Looked)
      → new.known ≡ with_clash clashes.TwoObjects fresh_knowledge → new.shown ≡ None → Told new
  pub tells : (uid : List ℕ) (told : Attrs) → outcome ≡ Attributes uid told → Found uid → (new : Looked)
      → attributes_learnt key told (one_learnt uid fresh_knowledge) ≡ Ok new.known → new.shown ≡ Some (shown_of told) → Told new

pub first_fits : (operation : Option ℕ) (uid : List ℕ) (uids : List (List ℕ)) → outcome_fits operation (Located (uid ∷ uids)) ≡ true → is_identifier uid ≡ true
first_fits operation uid uids fits =
    (and_parts (is_identifier uid) (list_all is_identifier uids)
    (and_parts (is_own OPERATION_LOCATE operation) (list_all is_identifier (uid ∷ uids)) fits).1).0

found_at : (Unheard : Type 0) (Found : List ℕ → Type 0) (Told : Looked → Type 0) (key : Key) (outcome : Outcome) (operation : Option ℕ) (why : Why)
    → outcome_fits operation outcome ≡ true → Teaches Found Told key outcome → Unheard
    → IsAt Unheard Found Told (heard_found key outcome (record { known = fresh_knowledge; shown = None; why = why }))
found_at U F T key (Failed reason) operation why fits t u = keeping.unheard u refl refl
found_at U F T key (Located []) operation why fits t u = keeping.told refl (t.none refl _ refl refl)
found_at U F T key (Located (uid ∷ [])) operation why fits t u = keeping.found (first_fits operation uid [] fits) (t.one uid refl) refl refl
found_at U F T key (Located (uid ∷ other ∷ more)) operation why fits t u = keeping.told refl (t.several uid other more refl _ refl refl)
found_at U F T key (Created uid) operation why fits t u = keeping.unheard u refl refl
found_at U F T key (Attributes uid told) operation why fits t u = keeping.unheard u refl refl
found_at U F T key (Activated uid) operation why fits t u = keeping.unheard u refl refl
found_at U F T key (Revoked uid) operation why fits t u = keeping.unheard u refl refl
found_at U F T key (Destroyed uid) operation why fits t u = keeping.unheard u refl refl

learnt_at : (Unheard : Type 0) (Found : List ℕ → Type 0) (Told : Looked → Type 0) (key : Key) (uid : List ℕ) (told : Attrs) (why : Why)
    (learnt : Result Knowledge HearFault) → attributes_learnt key told (one_learnt uid fresh_knowledge) ≡ learnt → is_identifier uid ≡ true → Found uid
    → Teaches Found Told key (Attributes uid told)
    → IsAt Unheard Found Told (learnt_by learnt (Some (shown_of told)) (record { known = one_learnt uid fresh_knowledge; shown = None; why = why }))
learnt_at U F T key uid told why (Ok known) is fits f t = keeping.told (attributes_told key told uid known is) (t.tells uid told refl f _ is refl)
learnt_at U F T key uid told why (Err fault) is fits f t = keeping.found fits f refl refl

told_at : (Unheard : Type 0) (Found : List ℕ → Type 0) (Told : Looked → Type 0) (key : Key) (outcome : Outcome) (uid : List ℕ) (why : Why)
    → is_identifier uid ≡ true → Found uid → Teaches Found Told key outcome
    → IsAt Unheard Found Told (heard_told key outcome (record { known = one_learnt uid fresh_knowledge; shown = None; why = why }))
told_at U F T key (Failed reason) uid why fits f t = keeping.found fits f refl refl
told_at U F T key (Attributes other told) uid why fits f t = elim (cases_Bool (pointwise nat_eq uid other)) [
  | inl same ↦
      let one : uid ≡ other = (bytes_eq-Decides uid other).0 same in
      rw same (learnt_at U F T key uid told why (attributes_learnt key told (one_learnt uid fresh_knowledge)) refl fits f
      (subst (λ u. Teaches F T key (Attributes u told)) (sym one) t))
  | inr apart ↦ rw apart (keeping.found fits f refl refl)
]
told_at U F T key (Located uids) uid why fits f t = keeping.found fits f refl refl
told_at U F T key (Created other) uid why fits f t = keeping.found fits f refl refl
told_at U F T key (Activated other) uid why fits f t = keeping.found fits f refl refl
told_at U F T key (Revoked other) uid why fits f t = keeping.found fits f refl refl
told_at U F T key (Destroyed other) uid why fits f t = keeping.found fits f refl refl

-- ---- one key

-- What every answer to the question about a key teaches, and that it is in its ranges.
abbrev pub Answered : (List ℕ → Type 0) → (Looked → Type 0) → Key → Reply → Type 0
Answered Found Told key reply = Teaches Found Told key reply.outcome × (answer_fits reply ≡ true)

pub fits_of : (reply : Reply) → answer_fits reply ≡ true → outcome_fits reply.operation reply.outcome ≡ true
fits_of reply fits = (and_parts (option_map_or is_batch_id reply.id true) (outcome_fits reply.operation reply.outcome) fits).1

-- a reply that was found is one of them, and passes the test
pub found_in : {X : Type 0} (test : X → Bool) (xs : List X) (x : X) → find test xs ≡ Some x → Contains xs x × (test x ≡ true)
found_in test [] x is = absurd cc
found_in test (y ∷ ys) x is = elim (cases_Bool (test y)) [
  | inl passes ↦
      let one : y ≡ x = same_Some y x (subst (λ b. ◌≡◌ (if b then Some y else find test ys) (Some x)) passes is) in
      (subst (Contains (y ∷ ys)) one (0, omega arith, refl), subst (λ z. test z ≡ true) one passes)
  | inr fails ↦
      let rest = found_in test ys x (subst (λ b. ◌≡◌ (if b then Some y else find test ys) (Some x)) fails is) in
      (Contains-append_right (y ∷ []) ys x rest.0, rest.1)
]

heard_at : (Unheard : Type 0) (Found : List ℕ → Type 0) (Told : Looked → Type 0) (part : Part) (key : Key) (reply : Reply) (looked : Looked)
    → is_asked part looked ≡ true → Answered Found Told key reply → IsAt Unheard Found Told looked → IsAt Unheard Found Told (heard part key reply.outcome looked)
heard_at U F T Find key reply looked asked (t, fits) (keeping.unheard u known shown) =
    subst (λ l. IsAt U F T (heard_found key reply.outcome l)) (sym (made_of looked fresh_knowledge None known shown))
    (found_at U F T key reply.outcome reply.operation looked.why (fits_of reply fits) t u)
heard_at U F T Tell key reply looked asked (t, fits) (keeping.unheard u known shown) = absurd (unheard_not_told looked known asked)
heard_at U F T Find key reply looked asked (t, fits) (keeping.found {uid = uid} in_range f known shown) = absurd (found_not_looked uid looked known asked)
heard_at U F T Tell key reply looked asked (t, fits) (keeping.found {uid = uid} in_range f known shown) =
    subst (λ l. IsAt U F T (heard_told key reply.outcome l)) (sym (made_of looked (one_learnt uid fresh_knowledge) None known shown))
    (told_at U F T key reply.outcome uid looked.why in_range f t)
heard_at U F T part key reply looked asked answered (keeping.told told so) = absurd (told_is_not_asked part looked told asked)

-- where no answer came, it stays where it was
lost_at : (Unheard : Type 0) (Found : List ℕ → Type 0) (Told : Looked → Type 0) (part : Part) (why : Why) (looked : Looked) → is_asked part looked ≡ true
    → IsAt Unheard Found Told looked → IsAt Unheard Found Told (record looked { why = why })
lost_at U F T part why looked asked (keeping.unheard u known shown) = keeping.unheard u known shown
lost_at U F T part why looked asked (keeping.found in_range f known shown) = keeping.found in_range f known shown
lost_at U F T part why looked asked (keeping.told told so) = absurd (told_is_not_asked part looked told asked)

from_at : (Unheard : Type 0) (Found : List ℕ → Type 0) (Told : Looked → Type 0) (part : Part) (mark : List ℕ) (why : Why) (replies : List Reply) (key : Key)
    (looked : Looked) (found : Option Reply) → find (is_answer (part_number part) (id_of part mark key)) replies ≡ found → is_asked part looked ≡ true
    → ((reply : Reply) → Contains replies reply → is_answer (part_number part) (id_of part mark key) reply ≡ true → Answered Found Told key reply)
    → IsAt Unheard Found Told looked → IsAt Unheard Found Told (heard_from part key why found looked)
from_at U F T part mark why replies key looked None is asked answers at = lost_at U F T part why looked asked at
from_at U F T part mark why replies key looked (Some reply) is asked answers at =
    let there = found_in (is_answer (part_number part) (id_of part mark key)) replies reply is in
    heard_at U F T part key reply looked asked (answers reply there.0 there.1) at

pub key_at : (Unheard : Type 0) (Found : List ℕ → Type 0) (Told : Looked → Type 0) (part : Part) (mark : List ℕ) (why : Why) (replies : List Reply) (key : Key)
    (looked : Looked)
    → ((reply : Reply) → Contains replies reply → is_answer (part_number part) (id_of part mark key) reply ≡ true → Answered Found Told key reply)
    → IsAt Unheard Found Told looked → IsAt Unheard Found Told (heard_key part mark why replies key looked)
key_at U F T part mark why replies key looked answers at = elim (cases_Bool (is_asked part looked)) [
  | inl asked ↦ subst (λ b. IsAt U F T (if b then heard_from part key why (find (is_answer (part_number part) (id_of part mark key)) replies) looked else looked))
      (sym asked)
      (from_at U F T part mark why replies key looked (find (is_answer (part_number part) (id_of part mark key)) replies) refl asked answers at)
  | inr idle ↦ subst (λ b. IsAt U F T (if b then heard_from part key why (find (is_answer (part_number part) (id_of part mark key)) replies) looked else looked))
      (sym idle) at
]

-- ---- all keys

pub each_at : (Unheard : Type 0) (Found : Key → List ℕ → Type 0) (Told : Key → Looked → Type 0) (part : Part) (mark : List ℕ) (why : Why)
    (replies : List Reply) (keys : List Key) (lookeds : List Looked)
    → ((key : Key) (reply : Reply) → Contains replies reply → is_answer (part_number part) (id_of part mark key) reply ≡ true
    → Answered (Found key) (Told key) key reply)
    → AllZip (λ key. IsAt Unheard (Found key) (Told key)) keys lookeds
    → AllZip (λ key. IsAt Unheard (Found key) (Told key)) keys (heard_each part mark why replies keys lookeds)
each_at U F T part mark why replies [] [] answers at = tt
each_at U F T part mark why replies [] (looked ∷ lookeds) answers at = absurd at
each_at U F T part mark why replies (key ∷ keys) [] answers at = absurd at
each_at U F T part mark why replies (key ∷ keys) (looked ∷ lookeds) answers at = (
  key_at U (F key) (T key) part mark why replies key looked (answers key) at.0,
  each_at U F T part mark why replies keys lookeds answers at.1,
)

-- ---- what the outcomes of a server teach

abbrev uids_in : Outcome → List (List ℕ)
uids_in (Located uids) = uids
uids_in outcome = []

abbrev uid_in : Outcome → List ℕ
uid_in (Attributes uid told) = uid
uid_in outcome = []

abbrev told_in : Attrs → Outcome → Attrs
told_in other (Attributes uid told) = told
told_in other outcome = other

none_there : (objects : List Object) → [] ≡ map (λ (o : Object). o.uid) objects → objects ≡ []
none_there [] is = refl
none_there (o ∷ objects) is = absurd cc

two_there : (uid other : List ℕ) (more : List (List ℕ)) (objects : List Object) → uid ∷ other ∷ more ≡ map (λ (o : Object). o.uid) objects → 2 ≤ length objects
two_there uid other more [] is = absurd cc
two_there uid other more (o ∷ []) is =
    let none : other ∷ more ≡ [] = ap tail is in absurd cc where
      tail : List (List ℕ) → List (List ℕ)
      tail [] = []
      tail (x ∷ xs) = xs
two_there uid other more (o ∷ p ∷ objects) is = omega arith

pub teaches_so : (key : Key) (objects : List Object) (outcome : Outcome) (Told : Looked → Type 0) → ((new : Looked) → StandsSo objects key new → Told new)
    → SaysOf key.attrs.name objects outcome → Teaches (λ uid. ⊤) Told key outcome
teaches_so key objects outcome T so (inl is) = record {
  none = λ located new known shown. so new (standings.absent (none_there (all_named key.attrs.name objects) (ap uids_in (sym located ∙ is))) known shown);
  one = λ uid located. tt;
  several = λ uid other more located new known shown.
      so new (standings.several (two_there uid other more (all_named key.attrs.name objects) (ap uids_in (sym located ∙ is))) known shown);
  tells = λ uid told attributes found new learnt shown.
      let t : Attributes uid told ≡ Located (map (λ (o : Object). o.uid) (all_named key.attrs.name objects)) = sym attributes ∙ is in absurd cc;
}
teaches_so key objects outcome T so (inr (own, o, with_uid, is)) = record {
  none = λ located new known shown. let t : Located [] ≡ Attributes own (attributes_of o) = sym located ∙ is in absurd cc;
  one = λ uid located. tt;
  several = λ uid other more located new known shown. let t : Located (uid ∷ other ∷ more) ≡ Attributes own (attributes_of o) = sym located ∙ is in absurd cc;
  tells = λ uid told attributes found new learnt shown.
      let t : Attributes uid told ≡ Attributes own (attributes_of o) = sym attributes ∙ is in
      let same : uid ≡ own = ap uid_in t in
      let shows : told ≡ attributes_of o = ap (told_in told) t in
      let own_learnt : attributes_learnt key (attributes_of o) (one_learnt own fresh_knowledge) ≡ Ok new.known =
      subst (λ u. attributes_learnt key (attributes_of o) (one_learnt u fresh_knowledge) ≡ Ok new.known) same
      (subst (λ a. attributes_learnt key a (one_learnt uid fresh_knowledge) ≡ Ok new.known) shows learnt) in
      so new (standings.there (record {
        uid = own;
        object = o;
        stands = with_uid;
        name_is = (bytes_eq-Decides o.attrs.name key.attrs.name).0 (named_by key (attributes_of o) (one_learnt own fresh_knowledge) new.known own_learnt);
        shown_is = shown ∙ ap (λ a. Some (shown_of a)) shows;
        learnt = own_learnt;
      }));
}

pub teaches_nothing : (key : Key) (outcome : Outcome) → Teaches (λ uid. ⊤) (λ looked. ⊤) key outcome
teaches_nothing key outcome = record {
  none = λ located new known shown. tt;
  one = λ uid located. tt;
  several = λ uid other more located new known shown. tt;
  tells = λ uid told attributes found new learnt shown. tt;
}

pub teaches_failed : (Found : List ℕ → Type 0) (Told : Looked → Type 0) (key : Key) (outcome : Outcome) (reason : Option ℕ) → outcome ≡ Failed reason
    → Teaches Found Told key outcome
teaches_failed F T key outcome reason is = record {
  none = λ located new known shown. let t : Located [] ≡ Failed reason = sym located ∙ is in absurd cc;
  one = λ uid located. let t : Located (uid ∷ []) ≡ Failed reason = sym located ∙ is in absurd cc;
  several = λ uid other more located new known shown. let t : Located (uid ∷ other ∷ more) ≡ Failed reason = sym located ∙ is in absurd cc;
  tells = λ uid told attributes found new learnt shown. let t : Attributes uid told ≡ Failed reason = sym attributes ∙ is in absurd cc;
}

-- ---- the id of an answer

id_told : (id : List ℕ) (told : Option (List ℕ)) → option_map_or (λ other. pointwise nat_eq id other) told false ≡ true → told ≡ Some id
id_told id None is = absurd cc
id_told id (Some other) is = ap Some (sym ((bytes_eq-Decides id other).0 is))

pub answer_id : (number : ℕ) (id : List ℕ) (reply : Reply) → is_answer number id reply ≡ true → reply.id ≡ Some id
answer_id number id reply is =
    id_told id reply.id (and_parts (option_map_or (λ other. pointwise nat_eq id other) reply.id false) (option_map_or (λ n. n == number) reply.operation true) is).0

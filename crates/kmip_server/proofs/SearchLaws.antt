-- A Locate by a name alone that searches the objects in every state finds the object of that name, and no other.
use Rattle.std.proofs.Common.{map, filter, ◌≡◌, ℕ, ℤ, Bool, true, false, ◌&&◌, nat_eq, List, [], ◌∷◌, Option, Some, None, refl, sym, ap, ◌∙◌, inl, inr}
use Rattle.std.specs.Cmp.Lexicographic.{pointwise}
use Rattle.std.specs.Option.{option_map, option_to_list}
use Rattle.std.proofs.lemmas.Bool.{cases_Bool, cond-true, cond-false}
use Rattle.std.proofs.Math.Bool.{and-true}
use Rattle.std.proofs.lemmas.Option.{none-some}
use Rattle.std.proofs.lemmas.Slice.Eq.{bytes_eq-Decides}
use Rattle.kmip_objects.specs.Objects.{DistinctNames, Object, object_named}
use Rattle.kmip_objects.specs.Attributes.{by_name, has_given}
use Rattle.kmip_objects.specs.Searching.{every_state}
use Rattle.kmip_objects.specs.declared.key_state.KeyState.{KeyState}
use Rattle.kmip_objects.specs.declared.key_state.KeyState.TheVariants.{PreActive, Active, Deactivated, Compromised, Destroyed, DestroyedCompromised}
use Rattle.kmip_batch_items.specs.declared.outcome.Outcome.{Outcome}
use Rattle.kmip_batch_items.specs.declared.outcome.Outcome.TheVariants.{Located}
use Rattle.kmip_batch_items.specs.declared.ask.Ask.{Ask}
use Rattle.kmip_batch_items.specs.declared.ask.Ask.TheVariants.{Locate}
use Rattle.kmip_objects.specs.declared.attrs.Attrs.{Attrs}
use Rattle.kmip_server.specs.Laws.{LocateFindsAllNamed, LocateFindsTheName}
use Rattle.kmip_server.specs.ServerStep as rules_of
use Rattle.kmip_server.specs.ServerStep.{ServerStep, step_asked}
use Rattle.kmip_store.specs.Locating.{is_searched, is_wanted, locate}

abbrev locating : Option ℤ → Attrs → Ask
locating mask given = Locate mask given

-- every state is searched
searched : (state : KeyState) → is_searched (Some every_state) state ≡ true
searched PreActive = refl
searched Active = refl
searched Deactivated = refl
searched Compromised = refl
searched Destroyed = refl
searched DestroyedCompromised = refl

and_first : (a b : Bool) → a ≡ true → (a && b) ≡ b
and_first true b is = refl
and_first false b is = absurd cc

-- the name alone decides
pub wanted_by_name : (name : List ℕ) (o : Object) → is_wanted (Some every_state) (by_name name) o ≡ pointwise nat_eq name o.attrs.name
wanted_by_name name o =
    and_first (is_searched (Some every_state) o.state) (has_given (by_name name) o.attrs o.state) (searched o.state)
    ∙ simp (and-true) refl

-- no object of another name is wanted
none_wanted : (name : List ℕ) (objects : List Object) → object_named name objects ≡ None
    → locate (Some every_state) (by_name name) objects ≡ []
none_wanted name [] none = refl
none_wanted name (o ∷ objects) none = elim (cases_Bool (pointwise nat_eq name o.attrs.name)) [
  | inl same ↦ absurd (none-some o (sym none ∙ cond-true _ (Some o) (object_named name objects) same))
  | inr other ↦
      rw (wanted_by_name name o ∙ other) (none_wanted name objects (sym (cond-false _ (Some o) (object_named name objects) other) ∙ none))
]

pub located_by_name : (name : List ℕ) (objects : List Object) → DistinctNames objects
    → locate (Some every_state) (by_name name) objects ≡ option_to_list (option_map (λ o. o.uid) (object_named name objects))
located_by_name name [] distinct = refl
located_by_name name (o ∷ objects) distinct = elim (cases_Bool (pointwise nat_eq name o.attrs.name)) [
  | inl same ↦
      let free : object_named name objects ≡ None = ap (λ n. object_named n objects) ((bytes_eq-Decides name o.attrs.name).0 same) ∙ distinct.0 in
      rw (wanted_by_name name o ∙ same, same) (ap (λ uids. o.uid ∷ uids) (none_wanted name objects free))
  | inr other ↦ rw (wanted_by_name name o ∙ other, other) (located_by_name name objects distinct.1)
]

same_located : (mask own : Option ℤ) (given other : Attrs) (objects : List Object) → locating mask given ≡ locating own other
    → Located (locate mask given objects) ≡ Located (locate own other objects)
same_located mask own given other objects is = cc

-- The step of a Locate changes nothing, and answers what was found.
step_located : (room : ℕ) (objects after : List Object) (ask : Ask) (mask : Option ℤ) (given : Attrs) (outcome : Outcome)
    → ask ≡ locating mask given → ServerStep room objects ask outcome after
    → (after ≡ objects) × (outcome ≡ Located (locate mask given objects))
step_located room objects after ask mask given outcome is (rules_of.name_taken taken) = absurd cc
step_located room objects after ask mask given outcome is (rules_of.full free over) = absurd cc
step_located room objects after ask mask given outcome is (rules_of.created free roomy apart identified) = absurd cc
step_located room objects after ask mask given outcome is (rules_of.searched {mask = own} {given = other}) = (refl, same_located own mask other given objects is)
step_located room objects after ask mask given outcome is (rules_of.told found) = absurd cc
step_located room objects after ask mask given outcome is (rules_of.unknown none) = absurd cc
step_located room objects after ask mask given outcome is (rules_of.compromised known) = absurd cc
step_located room objects after ask mask given outcome is (rules_of.not_found asked none) = absurd (none-some _ (sym (ap step_asked is) ∙ asked))
step_located room objects after ask mask given outcome is (rules_of.wrong_state asked found stuck) = absurd (none-some _ (sym (ap step_asked is) ∙ asked))
step_located room objects after ask mask given outcome is (rules_of.done asked found moved) = absurd (none-some _ (sym (ap step_asked is) ∙ asked))

pub name_located : LocateFindsTheName
name_located room objects after name outcome distinct step =
    let located = step_located room objects after _ (Some every_state) (by_name name) outcome refl step in
    (located.0, located.1 ∙ ap Located (located_by_name name objects distinct))

all_located : (name : List ℕ) (objects : List Object)
    → locate (Some every_state) (by_name name) objects ≡ map (λ o. o.uid) (filter (λ o. pointwise nat_eq name o.attrs.name) objects)
all_located name [] = refl
all_located name (o ∷ objects) = elim (cases_Bool (pointwise nat_eq name o.attrs.name)) [
  | inl same ↦ rw (wanted_by_name name o ∙ same, same) (ap (λ uids. o.uid ∷ uids) (all_located name objects))
  | inr other ↦ rw (wanted_by_name name o ∙ other, other) (all_located name objects)
]

pub all_named_located : LocateFindsAllNamed
all_named_located room objects after name outcome step =
    let located = step_located room objects after _ (Some every_state) (by_name name) outcome refl step in
    (located.0, located.1 ∙ ap Located (all_located name objects))

-- How the object of a planned name may change: it stays, it comes, or it takes the next step of its chain.
use Rattle.std.proofs.Common.{◌≡◌, ◌≤◌, ◌+◌, ℕ, List, [], ◌∷◌, ◌++◌, take, option_map, append-nil, Option, Some, None, IsTrue, MatchOption, refl, sym, ap, subst, ◌∙◌, arith}
use Rattle.std.specs.Option.{option_map_or}
use Rattle.std.proofs.lemmas.Option.{MatchOption-at_some, same_Some}
use Rattle.kmip_objects.specs.Lifecycle.{after}
use Rattle.kmip_objects.specs.Objects.{Object, object_named}
use Rattle.kmip_objects.specs.Ranges.{is_identifier}
use Rattle.kmip_objects.specs.declared.key_state.KeyState.{KeyState}
use Rattle.kmip_objects.specs.declared.key_state.KeyState.TheVariants as states
use Rattle.kmip_objects.specs.declared.step.Step.{Step}
use Rattle.kmip_objects.specs.declared.step.Step.TheVariants.{Create, Activate, Revoke, Destroy}
use Rattle.kmip_plan.specs.Chains.{chain, place_reached}
use Rattle.kmip_plan.specs.ChainLaws.{PreActiveIsFirst}
use Rattle.kmip_plan.specs.declared.key.Key.{Key}
use Rattle.kmip_plan.specs.declared.target.Target.{Target}
use Rattle.kmip_plan.specs.declared.target.Target.TheVariants as targets
use Rattle.kmip_client.specs.Places.{GoesOnward}
use Rattle.kmip_protocol.specs.Past.{step_between, change}
use Rattle.kmip_protocol.specs.Sound.{IsObjectOf}

pub data KeyChange (key : Key) (old new : Option Object) (steps : List Step) : Type 0 where
  stays : new ≡ old → steps ≡ [] → KeyChange key old new steps
  comes : (uid : List ℕ) → IsTrue (is_identifier uid) → old ≡ None
      → new ≡ Some (record { uid = uid; attrs = key.attrs; state = states.PreActive })
      → steps ≡ Create ∷ [] → KeyChange key old new steps
  advances : (o : Object) (state : KeyState) (step : Step) → old ≡ Some o → new ≡ Some (record o { state = state }) → steps ≡ step ∷ []
      → place_reached key.target state ≡ place_reached key.target o.state + 1
      → take (place_reached key.target state) (chain key.target) ≡ take (place_reached key.target o.state) (chain key.target) ++ step ∷ []
      → KeyChange key old new steps

-- how many steps the object has had
abbrev pub place_in : Key → Option Object → ℕ
place_in key found = option_map_or (λ o. place_reached key.target o.state) found 0

abbrev pub uid_in : Option Object → Option (List ℕ)
uid_in found = option_map (λ o. o.uid) found

-- the step between a state and itself is none
pub no_step : (state : KeyState) → step_between state state ≡ None
no_step states.PreActive = refl
no_step states.Active = refl
no_step states.Deactivated = refl
no_step states.Compromised = refl
no_step states.Destroyed = refl
no_step states.DestroyedCompromised = refl

pub no_change : (found : Option Object) → change found found ≡ None
no_change None = refl
no_change (Some o) = no_step o.state

-- the step that was taken is the one between
row_between : (state : KeyState) (step : Step) → MatchOption (after state step) (Unit {0}) (λ new. step_between state new ≡ Some step)
row_between states.PreActive Create = tt
row_between states.PreActive Activate = refl
row_between states.PreActive Revoke = tt
row_between states.PreActive Destroy = refl
row_between states.Active Create = tt
row_between states.Active Activate = tt
row_between states.Active Revoke = refl
row_between states.Active Destroy = tt
row_between states.Deactivated Create = tt
row_between states.Deactivated Activate = tt
row_between states.Deactivated Revoke = tt
row_between states.Deactivated Destroy = refl
row_between states.Compromised Create = tt
row_between states.Compromised Activate = tt
row_between states.Compromised Revoke = tt
row_between states.Compromised Destroy = tt
row_between states.Destroyed Create = tt
row_between states.Destroyed Activate = tt
row_between states.Destroyed Revoke = tt
row_between states.Destroyed Destroy = tt
row_between states.DestroyedCompromised Create = tt
row_between states.DestroyedCompromised Activate = tt
row_between states.DestroyedCompromised Revoke = tt
row_between states.DestroyedCompromised Destroy = tt

pub step_is_between : (old new : KeyState) (step : Step) → after old step ≡ Some new → step_between old new ≡ Some step
step_is_between old new step is = MatchOption-at_some (Unit {0}) (λ x. step_between old x ≡ Some step) new is (row_between old step)

-- ---- what a change keeps

pub uid_kept : (key : Key) (old new : Option Object) (steps : List Step) (uid : List ℕ) → KeyChange key old new steps → uid_in old ≡ Some uid → uid_in new ≡ Some uid
uid_kept key old new steps uid (stays same none) is = ap uid_in same ∙ is
uid_kept key old new steps uid (comes own fits was now one) is =
    let none : None ≡ Some uid = ap uid_in (sym was) ∙ is in absurd cc
uid_kept key old new steps uid (advances o state step was now one further joins) is = ap uid_in now ∙ ap uid_in (sym was) ∙ is

pub place_grows : (key : Key) (old new : Option Object) (steps : List Step) → KeyChange key old new steps → place_in key old ≤ place_in key new
place_grows key old new steps (stays same none) = let e : place_in key new ≡ place_in key old = ap (place_in key) same in omega (arith, e)
place_grows key old new steps (comes own fits was now one) = let e : place_in key old ≡ 0 = ap (place_in key) was in omega (arith, e)
place_grows key old new steps (advances o state step was now one further joins) =
    let e : place_in key old ≡ place_reached key.target o.state = ap (place_in key) was in
    let f : place_in key new ≡ place_reached key.target state = ap (place_in key) now in
    omega (arith, e, f, further)

pub goes_onward : (key : Key) (old new : List Object) (steps : List Step)
    → KeyChange key (object_named key.attrs.name old) (object_named key.attrs.name new) steps → GoesOnward key old new
goes_onward key old new steps moves = record {
  uid_stays = λ uid is. uid_kept key (object_named key.attrs.name old) (object_named key.attrs.name new) steps uid moves is;
  never_falls = place_grows key (object_named key.attrs.name old) (object_named key.attrs.name new) steps moves;
}

first_step : (target : Target) → take 1 (chain target) ≡ Create ∷ []
first_step targets.Created = refl
first_step targets.Active = refl
first_step targets.Revoked = refl
first_step targets.Destroyed = refl
first_step targets.Discarded = refl

-- the steps that were done, and then those of the change, are the first steps of the chain still
pub steps_join : PreActiveIsFirst → (key : Key) (old new : Option Object) (steps : List Step) → KeyChange key old new steps
    → take (place_in key old) (chain key.target) ++ steps ≡ take (place_in key new) (chain key.target)
steps_join first key old new steps (stays same none) =
    ap (λ more. take (place_in key old) (chain key.target) ++ more) none
    ∙ append-nil (take (place_in key old) (chain key.target))
    ∙ ap (λ found. take (place_in key found) (chain key.target)) (sym same)
steps_join first key old new steps (comes own fits was now one) =
    ap (λ found. take (place_in key found) (chain key.target) ++ steps) was
    ∙ one
    ∙ sym (first_step key.target)
    ∙ ap (λ n. take n (chain key.target)) (sym (first key.target))
    ∙ ap (λ found. take (place_in key found) (chain key.target)) (sym now)
steps_join first key old new steps (advances o state step was now one further joins) =
    ap (λ found. take (place_in key found) (chain key.target) ++ steps) was
    ∙ ap (λ more. take (place_reached key.target o.state) (chain key.target) ++ more) one
    ∙ sym joins
    ∙ ap (λ found. take (place_in key found) (chain key.target)) (sym now)

-- the object is the plan's still
pub stays_its_own : PreActiveIsFirst → (key : Key) (old new : Option Object) (steps : List Step) (x : Object) → KeyChange key old new steps
    → ((o : Object) → old ≡ Some o → IsObjectOf key o) → new ≡ Some x → IsObjectOf key x
stays_its_own first key old new steps x (stays same none) own is = own x (sym same ∙ is)
stays_its_own first key old new steps x (comes uid fits was now one) own is =
    subst (IsObjectOf key) (same_Some _ _ (sym now ∙ is)) (record {
      identified = fits;
      attrs_are = refl;
      on_the_way = let e = first key.target in omega (arith, e);
    })
stays_its_own first key old new steps x (advances o state step was now one further joins) own is =
    let had = own o was in
    subst (IsObjectOf key) (same_Some _ _ (sym now ∙ is)) (record {
      identified = had.identified;
      attrs_are = had.attrs_are;
      on_the_way = omega (arith, further);
    })

-- What is kept suits the plan and is as true as what is known, and who goes on from it knows the same.
use Rattle.std.proofs.Common.{◌≡◌, ◌≢◌, ◌≤◌, ◌==◌, ◌||◌, ◌&&◌, ℕ, zero, suc, Bool, true, false, nat_le, List, [], ◌∷◌, ◌++◌, length, map, drop, Option, Some, None, IfSome, IsTrue, refl, sym, ap, subst, ◌∙◌, inl, inr, arith, is_some}
use Rattle.std.proofs.lemmas.Bool.{cases_Bool, and_parts, leb-true, le-leb, eqb-true, eqb-false}
use Rattle.std.specs.List.{AllZip}
use Rattle.std.specs.Option.{option_map, option_map_or}
use Rattle.kmip_objects.specs.Objects.{Object, object_named}
use Rattle.kmip_objects.specs.declared.key_attrs.KeyAttrs.{KeyAttrs}
use Rattle.kmip_plan.specs.Chains.{place_reached}
use Rattle.kmip_plan.specs.ChainLaws.{ReachedIsNoLess}
use Rattle.kmip_plan.specs.Chains.{LeadsOn}
use Rattle.kmip_plan.specs.Prolonging.{GoesOn, Prolongs}
use Rattle.kmip_plan.specs.declared.target.Target.{Target}
use Rattle.kmip_objects.specs.Ranges.{is_identifier}
use Rattle.kmip_plan.specs.declared.key.Key.{Key}
use Rattle.kmip_progress.specs.Suiting.{is_known, known_fits, nothing_known, Suits}
use Rattle.kmip_progress.specs.declared.known.Known.{Known}
use Rattle.kmip_client.specs.declared.knowledge.Knowledge.{Knowledge}
use Rattle.kmip_client.specs.Held.{TrueOf, TrueProgress, Held}
use Rattle.kmip_client.specs.Knowledge.{chain_length, lost_phase}
use Rattle.kmip_client.specs.Places.{uid_of, position}
use Rattle.kmip_client.specs.Saving.{known_of, knowledge_from}
use Rattle.kmip_client.specs.Shapes.{PhaseSuits}
use Rattle.kmip_client.specs.Private.{IsShaped}

-- ---- the shape

lost_suits : (uid : Option (List ℕ)) (done : ℕ) → PhaseSuits (lost_phase uid) uid done
lost_suits None done = refl
lost_suits (Some uid) done = λ none. absurd cc

some_of : (uid : Option (List ℕ)) → is_some uid ≡ true → uid ≢ None
some_of None is = absurd cc
some_of (Some uid) is = λ none. absurd cc

is_some_of : (uid : Option (List ℕ)) → uid ≢ None → is_some uid ≡ true
is_some_of None some = absurd (some refl)
is_some_of (Some uid) some = refl

counted_known : (done : ℕ) (uid : Option (List ℕ)) → (done == 0 || is_some uid) ≡ true → 1 ≤ done → uid ≢ None
counted_known done uid is some =
    elim (cases_Bool (done == 0)) [
      | inl none ↦ absurd (omega (arith, eqb-true done 0 none))
      | inr more ↦ some_of uid (rw more at is)
    ]

one_or_more : (n : ℕ) → n ≢ 0 → 1 ≤ n
one_or_more zero some = absurd (some refl)
one_or_more (suc n) some = omega arith

known_counted : (done : ℕ) (uid : Option (List ℕ)) → (1 ≤ done → uid ≢ None) → (done == 0 || is_some uid) ≡ true
known_counted done uid has =
    elim (cases_Bool (done == 0)) [
      | inl none ↦ rw none refl
      | inr more ↦ rw more (is_some_of uid (has (one_or_more done (eqb-false done 0 more))))
    ]

ranged : (uid : Option (List ℕ)) → option_map_or is_identifier uid true ≡ true → IfSome uid (λ u. IsTrue (is_identifier u))
ranged None is = tt
ranged (Some uid) is = is

range_of : (uid : Option (List ℕ)) → IfSome uid (λ u. IsTrue (is_identifier u)) → option_map_or is_identifier uid true ≡ true
range_of None is = refl
range_of (Some uid) is = is

goes_on_shaped : (key : Key) (known : Known) → known_fits key known ≡ true → IsShaped key (knowledge_from known)
goes_on_shaped key known fits =
    let parts = and_parts (nat_le known.done (chain_length key)) (is_known known) fits in
    let own = and_parts (known.done == 0 || is_some known.identifier) (option_map_or is_identifier known.identifier true) parts.1 in
    record {
      few = leb-true known.done (chain_length key) parts.0;
      suits = lost_suits known.identifier known.done;
      has_identifier = counted_known known.done known.identifier own.0;
      in_range = ranged known.identifier own.1;
      unsettled = λ some. absurd (some refl);
    }

pub all_shaped : (keys : List Key) (saved : List Known) → Suits keys saved → AllZip IsShaped keys (map knowledge_from saved)
all_shaped [] [] suits = tt
all_shaped [] (known ∷ saved) suits = absurd suits
all_shaped (key ∷ keys) [] suits = absurd suits
all_shaped (key ∷ keys) (known ∷ saved) suits = (goes_on_shaped key known suits.0, all_shaped keys saved suits.1)

pub as_many : (keys : List Key) (saved : List Known) → Suits keys saved → length (map knowledge_from saved) ≡ length keys
as_many [] [] suits = refl
as_many [] (known ∷ saved) suits = absurd suits
as_many (key ∷ keys) [] suits = absurd suits
as_many (key ∷ keys) (known ∷ saved) suits = ap suc (as_many keys saved suits.1)

both : (a b : Bool) → a ≡ true → b ≡ true → (a && b) ≡ true
both true b x y = y
both false b x y = absurd cc

kept_fits : (key : Key) (knowledge : Knowledge) → IsShaped key knowledge → known_fits key (known_of knowledge) ≡ true
kept_fits key knowledge shaped =
    both (nat_le knowledge.done (chain_length key)) (is_known (known_of knowledge)) (le-leb knowledge.done (chain_length key) shaped.few)
    (both (knowledge.done == 0 || is_some knowledge.identifier) (option_map_or is_identifier knowledge.identifier true)
    (known_counted knowledge.done knowledge.identifier shaped.has_identifier) (range_of knowledge.identifier shaped.in_range))

pub all_suit : (keys : List Key) (knowns : List Knowledge) → AllZip IsShaped keys knowns → Suits keys (map known_of knowns)
all_suit [] [] each = tt
all_suit [] (knowledge ∷ knowns) each = absurd each
all_suit (key ∷ keys) [] each = absurd each
all_suit (key ∷ keys) (knowledge ∷ knowns) each = (kept_fits key knowledge each.0, all_suit keys knowns each.1)

-- ---- the truth

pub all_held : (objects : List Object) (keys : List Key) (saved : List Known) → TrueProgress objects keys saved → Held objects keys (map knowledge_from saved)
all_held objects [] [] so = tt
all_held objects [] (known ∷ saved) so = absurd so
all_held objects (key ∷ keys) [] so = absurd so
all_held objects (key ∷ keys) (known ∷ saved) so =
    (record { holds = so.0; no_clash = refl; suits = lost_suits known.identifier known.done }, all_held objects keys saved so.1)

pub all_true : (objects : List Object) (keys : List Key) (knowns : List Knowledge) → Held objects keys knowns → TrueProgress objects keys (map known_of knowns)
all_true objects [] [] held = tt
all_true objects [] (knowledge ∷ knowns) held = absurd held
all_true objects (key ∷ keys) [] held = absurd held
all_true objects (key ∷ keys) (knowledge ∷ knowns) held = (held.0.holds, all_true objects keys knowns held.1)

-- ---- under a plan that prolongs the old one

nothing_true : (objects : List Object) (key : Key) → TrueOf objects key nothing_known
nothing_true objects key = record { uid_true = λ uid is. absurd cc; done_true = omega arith; has_identifier = λ some. absurd (omega arith) }

all_nothing : (objects : List Object) (keys : List Key) → TrueProgress objects keys (map (λ key. nothing_known) keys)
all_nothing objects [] = tt
all_nothing objects (key ∷ keys) = (nothing_true objects key, all_nothing objects keys)

reached : (target further : Target) (found : Option Object) → ReachedIsNoLess → LeadsOn target further
    → option_map_or (λ o. place_reached target o.state) found 0 ≤ option_map_or (λ o. place_reached further o.state) found 0
reached target further None law on = omega arith
reached target further (Some o) law on = law target further o.state on

pub same_uid : (objects : List Object) (new old : Key) → new.attrs ≡ old.attrs → uid_of new objects ≡ uid_of old objects
same_uid objects new old same = ap (λ (a : KeyAttrs). option_map (λ o. o.uid) (object_named a.name objects)) same

pub further : (objects : List Object) (new old : Key) → ReachedIsNoLess → GoesOn new old → position old objects ≤ position new objects
further objects new old law on =
    subst (λ (a : KeyAttrs). position old objects ≤ option_map_or (λ o. place_reached new.target o.state) (object_named a.name objects) 0) (sym on.attrs_same)
    (reached old.target new.target (object_named old.attrs.name objects) law on.leads_on)

still_true : (objects : List Object) (new old : Key) (known : Known) → ReachedIsNoLess → GoesOn new old → TrueOf objects old known → TrueOf objects new known
still_true objects new old known law on so = record {
  uid_true = λ uid is. same_uid objects new old on.attrs_same ∙ so.uid_true uid is;
  done_true = omega (arith, so.done_true, further objects new old law on);
  has_identifier = so.has_identifier;
}

pub prolonged_true : (objects : List Object) (new old : List Key) (saved : List Known) → ReachedIsNoLess → Prolongs new old → TrueProgress objects old saved
    → TrueProgress objects new (saved ++ map (λ key. nothing_known) (drop (length old) new))
prolonged_true objects new [] [] law on so = all_nothing objects new
prolonged_true objects new [] (known ∷ saved) law on so = absurd so
prolonged_true objects [] (old ∷ olds) saved law on so = absurd on
prolonged_true objects (new ∷ news) (old ∷ olds) [] law on so = absurd so
prolonged_true objects (new ∷ news) (old ∷ olds) (known ∷ saved) law on so =
    (still_true objects new old known law on.0 so.0, prolonged_true objects news olds saved law on.1 so.1)

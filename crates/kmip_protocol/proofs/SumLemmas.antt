-- What all keys need, how many have no object, and what is known of all, key by key.
use Rattle.std.proofs.Common.{◌≡◌, ◌≢◌, ◌≤◌, ◌<◌, ℕ, zero, suc, ◌+◌, Bool, true, false, List, [], ◌∷◌, length, map, option_map, Some, None, slice_set, subst, refl, sym, ap, ◌∙◌, arith}
use Rattle.std.specs.List.{slice_get}
use Rattle.std.specs.Option.{is_none}
use Rattle.std.proofs.lemmas.Option.{same_Some}
use Rattle.kmip_objects.specs.Objects.{Object, object_named}
use Rattle.kmip_plan.specs.Chains.{place_reached, bound}
use Rattle.kmip_plan.specs.Laws.{BoundsAddUp}
use Rattle.kmip_plan.specs.ChainLaws.{ReachedIsWithin}
use Rattle.kmip_plan.specs.declared.key.Key.{Key}
use Rattle.kmip_client.specs.declared.knowledge.Knowledge.{Knowledge}
use Rattle.kmip_client.specs.declared.verdict.Verdict.TheVariants.{Finished}
use Rattle.kmip_client.specs.Clients.{one_if, verdict_at, AreSettled}
use Rattle.kmip_client.specs.Held.{IsHeld, Held}
use Rattle.kmip_client.specs.Knowledge.{chain_length, fresh_knowledge}
use Rattle.kmip_client.specs.Places.{position}
use Rattle.kmip_protocol.specs.Needs.{need_of, need_all, chains_and_looks, missing}
use Rattle.kmip_protocol.proofs.NeedLemmas.{place_in, need_by, key_most, key_finished, key_settled, key_at_the_end, key_fresh}

-- ---- the same objects

abbrev pub IsSame : List Object → List Object → Key → Type 0
IsSame old new key = object_named key.attrs.name new ≡ object_named key.attrs.name old

-- of the keys at all places, and at all places but one
abbrev pub AllSame : List Key → List Object → List Object → Type 0
AllSame keys old new = (j : ℕ) (key : Key) → slice_get keys j ≡ Some key → IsSame old new key

abbrev pub OthersSame : List Key → ℕ → List Object → List Object → Type 0
OthersSame keys place old new = (j : ℕ) (key : Key) → j ≢ place → slice_get keys j ≡ Some key → IsSame old new key

rest_same : (key : Key) (keys : List Key) (old new : List Object) → OthersSame (key ∷ keys) zero old new → AllSame keys old new
rest_same key keys old new same = λ j k is. same (suc j) k (λ e. absurd (omega (arith, e))) is

later_same : (key : Key) (keys : List Key) (place : ℕ) (old new : List Object) → OthersSame (key ∷ keys) (suc place) old new → OthersSame keys place old new
later_same key keys place old new same = λ j k apart is. same (suc j) k (λ e. apart (omega (arith, e))) is

first_same : (key : Key) (keys : List Key) (place : ℕ) (old new : List Object) → OthersSame (key ∷ keys) (suc place) old new → IsSame old new key
first_same key keys place old new same = same zero key (λ e. absurd (omega (arith, e))) refl

same_need : (key : Key) (known : Knowledge) (old new : List Object) → IsSame old new key → need_of key known new ≡ need_of key known old
same_need key known old new same = ap (need_by key known) same

pub same_held : (key : Key) (known : Knowledge) (old new : List Object) → IsSame old new key → IsHeld old key known → IsHeld new key known
same_held key known old new same held =
    let stays : position key new ≡ position key old = ap (place_in key) same in
    record {
      holds = record {
        uid_true = λ uid is. ap (option_map (λ o. o.uid)) same ∙ held.holds.uid_true uid is;
        done_true = omega (arith, stays, held.holds.done_true);
        has_identifier = held.holds.has_identifier;
      };
      no_clash = held.no_clash;
      suits = held.suits;
    }

all_need : (keys : List Key) (knowns : List Knowledge) (old new : List Object) → AllSame keys old new → need_all keys knowns new ≡ need_all keys knowns old
all_need [] knowns old new same = refl
all_need (key ∷ keys) [] old new same = refl
all_need (key ∷ keys) (known ∷ knowns) old new same =
    omega (arith, same_need key known old new (same zero key refl), all_need keys knowns old new (λ j k is. same (suc j) k is))

all_held : (keys : List Key) (knowns : List Knowledge) (old new : List Object) → AllSame keys old new → Held old keys knowns → Held new keys knowns
all_held [] [] old new same held = tt
all_held [] (known ∷ knowns) old new same held = absurd held
all_held (key ∷ keys) [] old new same held = absurd held
all_held (key ∷ keys) (known ∷ knowns) old new same held =
    (same_held key known old new (same zero key refl) held.0, all_held keys knowns old new (λ j k is. same (suc j) k is) held.1)

-- ---- one key

pub one_nearer : (keys : List Key) (knowns : List Knowledge) (place : ℕ) (key : Key) (known next : Knowledge) (old new : List Object)
    → OthersSame keys place old new → slice_get keys place ≡ Some key → slice_get knowns place ≡ Some known
    → need_of key next new + 1 ≡ need_of key known old
    → need_all keys (slice_set knowns place next) new + 1 ≡ need_all keys knowns old
one_nearer [] knowns place key known next old new same here there nearer = absurd cc
one_nearer (k ∷ keys) [] place key known next old new same here there nearer = absurd cc
one_nearer (k ∷ keys) (kn ∷ knowns) zero key known next old new same here there nearer =
    let own : need_of k next new + 1 ≡ need_of k kn old =
    subst (λ x. need_of x next new + 1 ≡ need_of x kn old) (sym (same_Some k key here))
    (subst (λ x. need_of key next new + 1 ≡ need_of key x old) (sym (same_Some kn known there)) nearer) in
    omega (arith, own, all_need keys knowns old new (rest_same k keys old new same))
one_nearer (k ∷ keys) (kn ∷ knowns) (suc place) key known next old new same here there nearer =
    omega (
      arith,
      same_need k kn old new (first_same k keys place old new same),
      one_nearer keys knowns place key known next old new (later_same k keys place old new same) here there nearer,
    )

pub one_held : (keys : List Key) (knowns : List Knowledge) (place : ℕ) (key : Key) (next : Knowledge) (old new : List Object)
    → OthersSame keys place old new → slice_get keys place ≡ Some key → Held old keys knowns → IsHeld new key next
    → Held new keys (slice_set knowns place next)
one_held [] knowns place key next old new same here held own = absurd cc
one_held (k ∷ keys) [] place key next old new same here held own = absurd held
one_held (k ∷ keys) (kn ∷ knowns) zero key next old new same here held own =
    (subst (λ x. IsHeld new x next) (sym (same_Some k key here)) own, all_held keys knowns old new (rest_same k keys old new same) held.1)
one_held (k ∷ keys) (kn ∷ knowns) (suc place) key next old new same here held own =
    (same_held k kn old new (first_same k keys place old new same) held.0, one_held keys knowns place key next old new (later_same k keys place old new same) here held.1 own)

pub held_at : (keys : List Key) (knowns : List Knowledge) (place : ℕ) (key : Key) (known : Knowledge) (objects : List Object)
    → Held objects keys knowns → slice_get keys place ≡ Some key → slice_get knowns place ≡ Some known → IsHeld objects key known
held_at [] knowns place key known objects held here there = absurd cc
held_at (k ∷ keys) [] place key known objects held here there = absurd held
held_at (k ∷ keys) (kn ∷ knowns) zero key known objects held here there =
    subst (λ x. IsHeld objects x known) (same_Some k key here) (subst (λ x. IsHeld objects k x) (same_Some kn known there) held.0)
held_at (k ∷ keys) (kn ∷ knowns) (suc place) key known objects held here there = held_at keys knowns place key known objects held.1 here there

-- ---- the keys without an object

all_missing : (keys : List Key) (old new : List Object) → AllSame keys old new → missing keys new ≡ missing keys old
all_missing [] old new same = refl
all_missing (key ∷ keys) old new same =
    omega (arith, ap (λ found. one_if (is_none found)) (same zero key refl), all_missing keys old new (λ j k is. same (suc j) k is))

-- one of them, and then it has one
pub one_missing : (keys : List Key) (place : ℕ) (key : Key) (objects : List Object) → slice_get keys place ≡ Some key
    → object_named key.attrs.name objects ≡ None → 1 ≤ missing keys objects
one_missing [] place key objects here none = absurd cc
one_missing (k ∷ keys) zero key objects here none =
    let own : object_named k.attrs.name objects ≡ None = subst (λ x. object_named x.attrs.name objects ≡ None) (sym (same_Some k key here)) none in
    omega (arith, ap (λ found. one_if (is_none found)) own)
one_missing (k ∷ keys) (suc place) key objects here none = omega (arith, one_missing keys place key objects here none)

pub one_made : (keys : List Key) (place : ℕ) (key : Key) (old new : List Object) (o : Object) → OthersSame keys place old new → slice_get keys place ≡ Some key
    → object_named key.attrs.name old ≡ None → object_named key.attrs.name new ≡ Some o → missing keys new + 1 ≡ missing keys old
one_made [] place key old new o same here was now = absurd cc
one_made (k ∷ keys) zero key old new o same here was now =
    let none : object_named k.attrs.name old ≡ None = subst (λ x. object_named x.attrs.name old ≡ None) (sym (same_Some k key here)) was in
    let some : object_named k.attrs.name new ≡ Some o = subst (λ x. object_named x.attrs.name new ≡ Some o) (sym (same_Some k key here)) now in
    omega (arith, ap (λ found. one_if (is_none found)) none, ap (λ found. one_if (is_none found)) some, all_missing keys old new (rest_same k keys old new same))
one_made (k ∷ keys) (suc place) key old new o same here was now =
    omega (
      arith,
      ap (λ found. one_if (is_none found)) (first_same k keys place old new same),
      one_made keys place key old new o (later_same k keys place old new same) here was now,
    )

-- where each that had one has one
pub none_made : (keys : List Key) (old new : List Object) → ((name : List ℕ) → is_none (object_named name new) ≡ is_none (object_named name old))
    → missing keys new ≡ missing keys old
none_made [] old new same = refl
none_made (key ∷ keys) old new same = omega (arith, ap one_if (same key.attrs.name), none_made keys old new same)

few_missing : (keys : List Key) (objects : List Object) → missing keys objects ≤ length keys
few_missing [] objects = omega arith
few_missing (key ∷ keys) objects = omega (arith, at_most_one (is_none (object_named key.attrs.name objects)), few_missing keys objects) where
  at_most_one : (b : Bool) → one_if b ≤ 1
  at_most_one true = omega arith
  at_most_one false = omega arith

pub room_for_all : (keys : List Key) (objects : List Object) (room : ℕ) → length objects + length keys ≤ room → length objects + missing keys objects ≤ room
room_for_all keys objects room all = omega (arith, all, few_missing keys objects)

-- ---- all keys

pub all_most : BoundsAddUp → (keys : List Key) (knowns : List Knowledge) (objects : List Object)
    → ((j : ℕ) (key : Key) (o : Object) → slice_get keys j ≡ Some key → object_named key.attrs.name objects ≡ Some o → 1 ≤ place_reached key.target o.state)
    → need_all keys knowns objects ≤ bound keys
all_most add [] knowns objects from = omega arith
all_most add (key ∷ keys) [] objects from = omega arith
all_most add (key ∷ keys) (known ∷ knowns) objects from =
    omega (
      arith,
      add.1 key keys,
      key_most key known objects (λ o is. from zero key o refl is),
      all_most add keys knowns objects (λ j k o here is. from (suc j) k o here is),
    )

pub all_finished : (keys : List Key) (knowns : List Knowledge) (objects : List Object) (place : ℕ) → Held objects keys knowns → need_all keys knowns objects ≡ 0
    → place < length keys → verdict_at keys knowns place ≡ Finished
all_finished [] knowns objects place held none within = absurd (omega (arith, within))
all_finished (key ∷ keys) [] objects place held none within = absurd held
all_finished (key ∷ keys) (known ∷ knowns) objects zero held none within = key_finished key known objects (omega (arith, none))
all_finished (key ∷ keys) (known ∷ knowns) objects (suc place) held none within =
    all_finished keys knowns objects place held.1 (omega (arith, none)) (omega (arith, within))

pub all_settled : (keys : List Key) (knowns : List Knowledge) (objects : List Object) → Held objects keys knowns → AreSettled keys knowns
    → need_all keys knowns objects ≡ 0
all_settled [] knowns objects held settled = refl
all_settled (key ∷ keys) [] objects held settled = refl
all_settled (key ∷ keys) (known ∷ knowns) objects held settled =
    omega (arith, key_settled key known objects held.0.no_clash settled.0, all_settled keys knowns objects held.1 settled.1)

pub all_at_the_end : ReachedIsWithin → (keys : List Key) (knowns : List Knowledge) (objects : List Object) (place : ℕ) (key : Key) → Held objects keys knowns
    → slice_get keys place ≡ Some key → verdict_at keys knowns place ≡ Finished → position key objects ≡ chain_length key
all_at_the_end reached [] knowns objects place key held here finished = absurd cc
all_at_the_end reached (k ∷ keys) [] objects place key held here finished = absurd held
all_at_the_end reached (k ∷ keys) (known ∷ knowns) objects zero key held here finished =
    subst (λ x. position x objects ≡ chain_length x) (same_Some k key here) (key_at_the_end reached objects k known held.0 finished)
all_at_the_end reached (k ∷ keys) (known ∷ knowns) objects (suc place) key held here finished =
    all_at_the_end reached keys knowns objects place key held.1 here finished

-- ---- nothing known

nothing_held : (objects : List Object) (key : Key) → IsHeld objects key fresh_knowledge
nothing_held objects key = record {
  holds = record {
    uid_true = λ uid is. let t : None ≡ Some uid = is in absurd cc;
    done_true = omega arith;
    has_identifier = λ some. absurd (omega (arith, some));
  };
  no_clash = refl;
  suits = refl;
}

pub all_fresh : (keys : List Key) (objects : List Object) → Held objects keys (map (λ key. fresh_knowledge) keys)
all_fresh [] objects = tt
all_fresh (key ∷ keys) objects = (nothing_held objects key, all_fresh keys objects)

pub fresh_needs : (keys : List Key) (objects : List Object)
    → ((j : ℕ) (key : Key) → slice_get keys j ≡ Some key → object_named key.attrs.name objects ≡ None)
    → need_all keys (map (λ key. fresh_knowledge) keys) objects ≡ chains_and_looks keys
fresh_needs [] objects none = refl
fresh_needs (key ∷ keys) objects none =
    omega (arith, key_fresh key objects (none zero key refl), fresh_needs keys objects (λ j k is. none (suc j) k is))

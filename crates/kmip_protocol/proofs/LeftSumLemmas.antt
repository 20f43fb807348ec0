-- What is left for all keys, key by key.
use Rattle.std.proofs.Common.{◌≡◌, ◌≢◌, ◌≤◌, ℕ, zero, suc, ◌+◌, true, false, List, [], ◌∷◌, length, map, option_map}
use Rattle.std.proofs.Common.{is_some, Option, Some, None, slice_set, refl, sym, ap, ◌∙◌, arith}
use Rattle.std.specs.List.{AllZip, slice_get}
use Rattle.std.specs.Option.{option_map_or}
use Rattle.std.proofs.lemmas.Option.{same_Some}
use Rattle.kmip_objects.specs.Objects.{Object, object_named}
use Rattle.kmip_objects.specs.declared.step.Step.{Step}
use Rattle.kmip_plan.specs.Chains.{bound, place_reached, step_at}
use Rattle.kmip_plan.specs.declared.key.Key.{Key}
use Rattle.kmip_plan.specs.Laws.{BoundsAddUp}
use Rattle.kmip_plan.specs.Plans.{IsPlanned}
use Rattle.kmip_client.specs.Knowledge.{chain_length, fresh_knowledge}
use Rattle.kmip_client.specs.declared.knowledge.Knowledge.{Knowledge}
use Rattle.kmip_client.specs.declared.phase.Phase.TheVariants as phases
use Rattle.kmip_client.specs.Held.{IsHeld}
use Rattle.kmip_client.specs.Places.{position}
use Rattle.kmip_client.specs.Shapes.{IsKept}
use Rattle.kmip_protocol.specs.Exchanges.{with_exchange}
use Rattle.kmip_protocol.specs.Past.{Past}
use Rattle.kmip_protocol.specs.Sound.{Sound}
use Rattle.kmip_protocol.specs.PrivateSettlingLawbook.{Lawbook}
use Rattle.kmip_client.specs.Bounding.{most_left_of, most_left}
use Rattle.kmip_protocol.specs.Losing.{is_under_way, left_of, left_all, was_asked}
use Rattle.kmip_protocol.specs.Needs.{need_all}
use Rattle.kmip_protocol.proofs.LeftLemmas.{AreNumbers, is_there, left_by, left_is, need_left, most_falls, most_most}
use Rattle.kmip_protocol.proofs.NeedLemmas.{chain_some, no_less, place_in, position_within, some_there}

pub needs_left : (keys : List Key) (p : Past) (knowns : List Knowledge)
    → need_all keys knowns p.objects ≤ left_all keys knowns p
needs_left [] p knowns = omega arith
needs_left (key ∷ keys) p [] = omega arith
needs_left (key ∷ keys) p (known ∷ knowns) = omega (arith, need_left key known p, needs_left keys p knowns)

pub all_most_falls : (keys : List Key) (old new : List Knowledge) → AllZip IsKept old new
    → most_left keys new ≤ most_left keys old
all_most_falls [] old new kept = omega arith
all_most_falls (key ∷ keys) [] [] kept = omega arith
all_most_falls (key ∷ keys) [] (new ∷ news) kept = absurd kept
all_most_falls (key ∷ keys) (old ∷ olds) [] kept = omega arith
all_most_falls (key ∷ keys) (old ∷ olds) (new ∷ news) kept =
    omega (arith, most_falls key old new kept.0, all_most_falls keys olds news kept.1)

-- ---- what is known allows

pub all_most_known : (keys : List Key) (knowns : List Knowledge) (p : Past)
    → ((j : ℕ) (key : Key) (known : Knowledge) → slice_get keys j ≡ Some key → slice_get knowns j ≡ Some known
    → left_of key known p ≤ most_left_of key known)
    → left_all keys knowns p ≤ most_left keys knowns
all_most_known [] knowns p each = omega arith
all_most_known (key ∷ keys) [] p each = omega arith
all_most_known (key ∷ keys) (known ∷ knowns) p each =
    omega (arith, each zero key known refl refl, all_most_known keys knowns p (λ j k kn is at. each (suc j) k kn is at))

pub all_most_bound : BoundsAddUp → (keys : List Key) (knowns : List Knowledge)
    → most_left keys knowns ≤ bound keys + length keys
all_most_bound add [] knowns = omega arith
all_most_bound add (key ∷ keys) [] = omega arith
all_most_bound add (key ∷ keys) (known ∷ knowns) =
    omega (arith, add.1 key keys, most_most key known, all_most_bound add keys knowns)

-- the numbers of a key of a sound past
pub numbers : (l : Lawbook) (keys : List Key) (p : Past) (key : Key) (known : Knowledge) → Sound keys p
    → IsPlanned keys key → IsHeld p.objects key known
    → AreNumbers known.phase (chain_length key) known.done (position key p.objects) (is_there key p) known.identifier
numbers l keys p key known sound planned held = record {
  suits = held.suits;
  had = held.holds.done_true;
  within = position_within l.plan.reached key p.objects;
  from = some_there (object_named key.attrs.name p.objects) (λ o. place_reached key.target o.state)
      (λ o is. (sound.objects key o planned is).on_the_way);
  none = none_there (object_named key.attrs.name p.objects);
  own = own_there known.identifier (object_named key.attrs.name p.objects) held.holds.uid_true;
  has_identifier = held.holds.has_identifier;
} where
  none_there : (found : Option Object) → is_some found ≡ false → place_in key found ≡ 0
  none_there None none = refl
  none_there (Some o) none = absurd cc

  own_there : (uid : Option (List ℕ)) (found : Option Object)
      → ((own : List ℕ) → uid ≡ Some own → option_map (λ o. o.uid) found ≡ Some own)
      → is_some uid ≡ true → is_some found ≡ true
  own_there None found true_of some = absurd cc
  own_there (Some uid) None true_of some = let t : None ≡ Some uid = true_of uid refl in absurd cc
  own_there (Some uid) (Some o) true_of some = refl

-- ---- nothing of the plan has happened

opened : (key : Key) (p : Past) → object_named key.attrs.name p.objects ≡ None → p.requests ≡ []
    → left_of key fresh_knowledge p ≡ chain_length key + 2
opened key p none asked =
    left_is key fresh_knowledge p
    ∙ ap (λ there. left_by phases.Look (chain_length key) 0 there (position key p.objects) (is_under_way key p))
    (ap is_some none)
    ∙ ap (left_by phases.Look (chain_length key) 0 false (position key p.objects))
    (none_asked (step_at key.target (position key p.objects + 1)))
    ∙ rw (no_less (chain_length key) 0 (chain_some key.target)) (omega arith) where
      none_asked : (step : Option Step) → option_map_or (was_asked key p.requests) step false ≡ false
      none_asked None = refl
      none_asked (Some step) = ap (λ requests. was_asked key requests step) asked

pub all_opened : BoundsAddUp → (keys : List Key) (p : Past)
    → ((j : ℕ) (key : Key) → slice_get keys j ≡ Some key → object_named key.attrs.name p.objects ≡ None)
    → p.requests ≡ []
    → left_all keys (map (λ key. fresh_knowledge) keys) p ≡ bound keys
all_opened add [] p none asked = sym add.0
all_opened add (key ∷ keys) p none asked =
    omega (
      arith,
      add.1 key keys,
      opened key p (none zero key refl) asked,
      all_opened add keys p
          (λ j k is. none (suc j) k is) asked,
    )

-- ---- other pasts, and other knowledge

-- no more is left for any key
pub all_left : (keys : List Key) (knowns : List Knowledge) (old new : Past)
    → ((j : ℕ) (key : Key) (known : Knowledge) → slice_get keys j ≡ Some key → slice_get knowns j ≡ Some known
    → left_of key known new ≤ left_of key known old)
    → left_all keys knowns new ≤ left_all keys knowns old
all_left [] knowns old new each = omega arith
all_left (key ∷ keys) [] old new each = omega arith
all_left (key ∷ keys) (known ∷ knowns) old new each =
    omega (arith, each zero key known refl refl, all_left keys knowns old new (λ j k kn is at. each (suc j) k kn is at))

-- one more at most for one key, and no more for any other
pub all_but_one : (keys : List Key) (knowns : List Knowledge) (place : ℕ) (old new : Past)
    → ((j : ℕ) (key : Key) (known : Knowledge) → slice_get keys j ≡ Some key → slice_get knowns j ≡ Some known
    → j ≢ place → left_of key known new ≤ left_of key known old)
    → ((key : Key) (known : Knowledge) → slice_get keys place ≡ Some key → slice_get knowns place ≡ Some known
    → left_of key known new ≤ left_of key known old + 1)
    → left_all keys knowns new ≤ left_all keys knowns old + 1
all_but_one [] knowns place old new others one = omega arith
all_but_one (key ∷ keys) [] place old new others one = omega arith
all_but_one (key ∷ keys) (known ∷ knowns) zero old new others one =
    let rest = all_left keys knowns old new (λ j k kn is at.
    others (suc j) k kn is at (λ e. absurd (omega (arith, e)))) in
    omega (arith, one key known refl refl, rest)
all_but_one (key ∷ keys) (known ∷ knowns) (suc place) old new others one =
    let rest = all_but_one keys knowns place old new
    (λ j k kn is at apart. others (suc j) k kn is at (λ e. apart (omega (arith, e)))) one in
    omega (arith, others zero key known refl refl (λ e. absurd (omega (arith, e))), rest)

-- where what is known of one key changes, it is known of that key alone
pub set_here : (knowns : List Knowledge) (place : ℕ) (known next : Knowledge) → slice_get knowns place ≡ Some known
    → slice_get (slice_set knowns place next) place ≡ Some next
set_here [] place known next there = absurd cc
set_here (kn ∷ knowns) zero known next there = refl
set_here (kn ∷ knowns) (suc place) known next there = set_here knowns place known next there

pub set_elsewhere : (knowns : List Knowledge) (place other : ℕ) (next : Knowledge) → place ≢ other
    → slice_get (slice_set knowns place next) other ≡ slice_get knowns other
set_elsewhere [] place other next apart = refl
set_elsewhere (kn ∷ knowns) zero zero next apart = absurd (apart refl)
set_elsewhere (kn ∷ knowns) zero (suc other) next apart = refl
set_elsewhere (kn ∷ knowns) (suc place) zero next apart = refl
set_elsewhere (kn ∷ knowns) (suc place) (suc other) next apart =
    set_elsewhere knowns place other next (λ e. apart (omega (arith, e)))

-- an exchange that is made leaves the same
pub exchange_left : (keys : List Key) (knowns : List Knowledge) (sent : List ℕ) (answer : Option (List ℕ)) (p : Past)
    → left_all keys knowns (with_exchange sent answer p) ≡ left_all keys knowns p
exchange_left [] knowns sent answer p = refl
exchange_left (key ∷ keys) [] sent answer p = refl
exchange_left (key ∷ keys) (known ∷ knowns) sent answer p =
    ap (λ rest. left_of key known p + rest) (exchange_left keys knowns sent answer p)

-- one less for one key, and no more for any other
pub one_less : (keys : List Key) (knowns : List Knowledge) (place : ℕ) (key : Key) (known next : Knowledge)
    (old new : Past)
    → ((j : ℕ) (k : Key) (kn : Knowledge) → slice_get keys j ≡ Some k → slice_get knowns j ≡ Some kn → j ≢ place
    → left_of k kn new ≤ left_of k kn old)
    → slice_get keys place ≡ Some key → slice_get knowns place ≡ Some known
    → left_of key next new + 1 ≤ left_of key known old
    → left_all keys (slice_set knowns place next) new + 1 ≤ left_all keys knowns old
one_less [] knowns place key known next old new others here there less = absurd cc
one_less (k ∷ keys) [] place key known next old new others here there less = absurd cc
one_less (k ∷ keys) (kn ∷ knowns) zero key known next old new others here there less =
    let now : left_of k next new ≡ left_of key next new = ap (λ x. left_of x next new) (same_Some k key here) in
    let was : left_of k kn old ≡ left_of key known old = ap (λ x. left_of x kn old) (same_Some k key here)
    ∙ ap (λ x. left_of key x old) (same_Some kn known there) in
    let rest = all_left keys knowns old new (λ j x y is at. others (suc j) x y is at (λ e. absurd (omega (arith, e))))
    in
    omega (arith, now, was, rest, less)
one_less (k ∷ keys) (kn ∷ knowns) (suc place) key known next old new others here there less =
    let rest = one_less keys knowns place key known next old new
    (λ j x y is at apart. others (suc j) x y is at (λ e. apart (omega (arith, e)))) here there less in
    omega (arith, others zero k kn refl refl (λ e. absurd (omega (arith, e))), rest)

-- Lists by their places, and the key of the newest plan at a place.
use Rattle.std.proofs.Common.{◌≡◌, ◌≤◌, ◌+◌, ◌++◌, ◌∷◌, ◌∙◌, [], ap, arith, Bool, cond, false, find, List, map, Option, refl, slice_get, slice_set, Some, subst, suc, sym, true, zero, ℕ}
use Rattle.std.specs.List.{All, position_from}
use Rattle.std.proofs.lemmas.Iterator.Adapters.{position_from-zero}
use Rattle.std.proofs.lemmas.List.Elements.{All-append, All-nil}
use Rattle.kmip_client.specs.Hearing.{place_named}
use Rattle.kmip_objects.specs.declared.key_attrs.KeyAttrs.{KeyAttrs}
use Rattle.kmip_plan.specs.Plans.{key_named}
use Rattle.kmip_plan.specs.Prolonging.{GoesOn, Prolongs}
use Rattle.kmip_plan.specs.TargetWords.{is_text}
use Rattle.kmip_plan.specs.declared.key.Key.{Key}
use Rattle.kmip_progress.specs.Suiting.{nothing_known}
use Rattle.kmip_progress.specs.declared.known.Known.{Known}
use Rattle.kmip_runs.specs.Headline.{reported_by, steps_counted}
use Rattle.kmip_server.specs.declared.effect.Effect.{Effect}

abbrev some_of : {X : Type 0} → X → Option X
some_of x = Some x

pub same_some : {X : Type 0} (x y : X) → some_of x ≡ some_of y → x ≡ y
same_some x y e = cc

-- two at one place are one
pub same_at : {X : Type 0} (found : Option X) (x y : X) → found ≡ Some x → found ≡ Some y → x ≡ y
same_at found x y e f = cc

-- what stands in a mapped list was made of what stands there
pub mapped_at : {X Y : Type 0} (f : X → Y) (xs : List X) (place : ℕ) (y : Y) → slice_get (map f xs) place ≡ Some y
    → (x : X) × (slice_get xs place ≡ Some x) × (f x ≡ y)
mapped_at f [] place y is = absurd cc
mapped_at f (x ∷ xs) zero y is = (x, refl, same_some (f x) y is)
mapped_at f (x ∷ xs) (suc place) y is = mapped_at f xs place y is

-- what stands in a list that was set at a place is the new, or stood there
pub set_at : {X : Type 0} (Q : Type 0) (xs : List X) (place other : ℕ) (new y : X) → slice_get (slice_set xs place new) other ≡ Some y
    → (place ≡ other → new ≡ y → Q) → (slice_get xs other ≡ Some y → Q) → Q
set_at Q [] place other new y is here there = there is
set_at Q (x ∷ xs) zero zero new y is here there = here refl (same_some new y is)
set_at Q (x ∷ xs) zero (suc other) new y is here there = there is
set_at Q (x ∷ xs) (suc place) zero new y is here there = there is
set_at Q (x ∷ xs) (suc place) (suc other) new y is here there = set_at Q xs place other new y is (λ same. here (ap suc same)) there

-- what is carried to a plan was saved, or is nothing
pub carried_at : (Q : Type 0) (saved : List Known) (rest : List Key) (place : ℕ) (known : Known)
    → slice_get (saved ++ map (λ key. nothing_known) rest) place ≡ Some known → (slice_get saved place ≡ Some known → Q) → (nothing_known ≡ known → Q) → Q
carried_at Q [] rest place known is there none = none (mapped_at (λ (key : Key). nothing_known) rest place known is).2
carried_at Q (x ∷ saved) rest zero known is there none = there is
carried_at Q (x ∷ saved) rest (suc place) known is there none = carried_at Q saved rest place known is there none

-- what is reported holds where it holds at each place
pub each_reported : (P : Effect → Type 0) (keys : List Key) (counts : List ℕ)
    → ((place : ℕ) (key : Key) (count : ℕ) → slice_get keys place ≡ Some key → slice_get counts place ≡ Some count → All P (steps_counted key count))
    → All P (reported_by keys counts)
each_reported P [] counts each = All-nil P
each_reported P (key ∷ keys) [] each = All-nil P
each_reported P (key ∷ keys) (count ∷ counts) each =
    All-append P (steps_counted key count) (reported_by keys counts) (each zero key count refl refl)
    (each_reported P keys counts (λ place k n here there. each (suc place) k n here there))

-- ---- the key with a name

from_on : (f : Key → Bool) (own : List Key) (from at : ℕ) → position_from f from own ≡ Some at → from ≤ at
from_on f [] from at is = absurd cc
from_on f (old ∷ olds) from at is = by_test (f old) (from_on f olds (from + 1) at) is where
  by_test : (b : Bool) → (position_from f (from + 1) olds ≡ Some at → from + 1 ≤ at) → cond b (some_of from) (position_from f (from + 1) olds) ≡ Some at → from ≤ at
  by_test true rest is = omega (arith, same_some from at is)
  by_test false rest is = omega (arith, rest is)

-- where the first key of a plan that passes stands, the first key of a plan that prolongs it does
first_onward : (f : Key → Bool) (keys own : List Key) (from place : ℕ) (newest : Key) → ((new old : Key) → GoesOn new old → f new ≡ f old) → Prolongs keys own
    → position_from f from own ≡ Some (from + place) → slice_get keys place ≡ Some newest → find f keys ≡ Some newest
first_onward f keys [] from place newest same on is here = absurd cc
first_onward f [] (old ∷ olds) from place newest same on is here = absurd on
first_onward f (new ∷ news) (old ∷ olds) from place newest same on is here =
    by_test (λ p at there. first_onward f news olds (from + 1) p newest same on.1 at there) (f old) refl
  where
    by_place : ((p : ℕ) → position_from f (from + 1) olds ≡ Some (from + 1 + p) → slice_get news p ≡ Some newest → find f news ≡ Some newest)
        → (place : ℕ) → position_from f (from + 1) olds ≡ Some (from + place) → slice_get (new ∷ news) place ≡ Some newest → find f news ≡ Some newest
    by_place rest zero is here = absurd (omega (arith, from_on f olds (from + 1) (from + zero) is))
    by_place rest (suc place) is here =
        let shifted : from + suc place ≡ from + 1 + place = omega arith in
        rest place (subst (λ n. position_from f (from + 1) olds ≡ Some n) shifted is) here

    first : (place : ℕ) → place ≡ zero → slice_get (new ∷ news) place ≡ Some newest → some_of new ≡ Some newest
    first zero none here = here
    first (suc place) none here = absurd (omega (arith, none))

    by_test : ((p : ℕ) → position_from f (from + 1) olds ≡ Some (from + 1 + p) → slice_get news p ≡ Some newest → find f news ≡ Some newest)
        → (b : Bool) → f old ≡ b → find f (new ∷ news) ≡ Some newest
    by_test rest true passes =
        let at : from ≡ from + place = same_some from (from + place) (rw passes at is) in
        rw (same new old on.0 ∙ passes) (first place (omega (arith, at)) here)
    by_test rest false fails = rw (same new old on.0 ∙ fails) (by_place rest place (rw fails at is) here)

-- so the newest plan has the key at that place under the name
pub named_newest : (keys own : List Key) (name : List ℕ) (place : ℕ) (newest : Key) → Prolongs keys own → place_named name own ≡ Some place
    → slice_get keys place ≡ Some newest → key_named name keys ≡ Some newest
named_newest keys own name place newest on is here =
    let passes : Key → Bool = λ (k : Key). is_text name k.attrs.name in
    first_onward passes keys own 0 place newest (λ new old goes. ap (λ (a : KeyAttrs). is_text name a.name) goes.attrs_same) on
    (sym (position_from-zero passes own) ∙ is ∙ ap some_of (plain place)) here
  where
    plain : (n : ℕ) → n ≡ 0 + n
    plain n = omega arith

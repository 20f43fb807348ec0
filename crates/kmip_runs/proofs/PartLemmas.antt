-- Plans in turn, and what was noted on each of them.
use Rattle.std.proofs.Common.{◌≡◌, ◌≢◌, ◌<◌, ◌⊎◌, ℕ, zero, suc, List, [], ◌∷◌, ◌++◌, length, map, take, flat_map}
use Rattle.std.proofs.Common.{slice_get, Some, sym, ap, subst, refl, ◌∙◌, inl, inr, append_assoc, append-nil, arith}
use Rattle.std.specs.Prelude.{⊤}
use Rattle.kmip_plan.specs.Prolonging.{Prolongs}
use Rattle.kmip_plan.specs.declared.key.Key.{Key}
use Rattle.kmip_progress.specs.declared.known.Known.{Known}
use Rattle.kmip_protocol.specs.Past.{Past}
use Rattle.kmip_runs.specs.PrivateLawbook.{Lawbook}
use Rattle.kmip_runs.specs.Campaigns.{AreParts, AreProlonged, IsPart, LastIsShort, Premises, carried_over, first_plan}
use Rattle.kmip_runs.specs.Campaigns.{last_plan}
use Rattle.kmip_runs.specs.Remembering.{Notes, noted_saves}
use Rattle.kmip_runs.specs.declared.run.Run.{Run}
use Rattle.kmip_runs.proofs.RunLemmas.{known_if}

-- ---- plans in turn

same_plan : (a b : List Key) → Some a ≡ Some b → a ≡ b
same_plan a b is = cc

-- the last plan prolongs each of them
pub last_prolongs : Lawbook → (plans : List (List Key)) (place : ℕ) (keys : List Key) → AreProlonged plans
    → slice_get plans place ≡ Some keys
    → Prolongs (last_plan plans) keys
last_prolongs l [] place keys prolonged is = absurd cc
last_prolongs l (first ∷ []) zero keys prolonged is =
    subst (λ ks. Prolongs first ks) (same_plan first keys is) (l.plan.plan_itself first)
last_prolongs l (first ∷ []) (suc place) keys prolonged is = absurd cc
last_prolongs l (first ∷ next ∷ plans) zero keys prolonged is =
    subst (λ ks. Prolongs (last_plan (next ∷ plans)) ks) (same_plan first keys is)
    (l.plan.plan_again first next (last_plan (next ∷ plans)) prolonged.0
    (last_prolongs l (next ∷ plans) zero next prolonged.1 refl))
last_prolongs l (first ∷ next ∷ plans) (suc place) keys prolonged is =
    last_prolongs l (next ∷ plans) place keys prolonged.1 is

-- and each prolongs the one before it
pub next_prolongs : (plans : List (List Key)) (place : ℕ) (keys next : List Key) → AreProlonged plans
    → slice_get plans place ≡ Some keys
    → slice_get plans (suc place) ≡ Some next → Prolongs next keys
next_prolongs [] place keys next prolonged is then = absurd cc
next_prolongs (first ∷ []) zero keys next prolonged is then = absurd cc
next_prolongs (first ∷ []) (suc place) keys next prolonged is then = absurd cc
next_prolongs (first ∷ second ∷ plans) zero keys next prolonged is then =
    subst (λ ks. Prolongs next ks) (same_plan first keys is)
    (subst (λ ks. Prolongs ks first) (same_plan second next then) prolonged.0)
next_prolongs (first ∷ second ∷ plans) (suc place) keys next prolonged is then =
    next_prolongs (second ∷ plans) place keys next prolonged.1 is then

pub first_is : (plans : List (List Key)) (keys : List Key) → slice_get plans 0 ≡ Some keys → first_plan plans ≡ keys
first_is [] keys is = absurd cc
first_is (first ∷ plans) keys is = same_plan first keys is

pub last_is : (plans : List (List Key)) (place : ℕ) (keys : List Key) → suc place ≡ length plans
    → slice_get plans place ≡ Some keys → last_plan plans ≡ keys
last_is [] place keys all is = absurd cc
last_is (first ∷ []) zero keys all is = same_plan first keys is
last_is (first ∷ []) (suc place) keys all is = absurd cc
last_is (first ∷ next ∷ plans) zero keys all is = absurd (omega (arith, all))
last_is (first ∷ next ∷ plans) (suc place) keys all is = last_is (next ∷ plans) place keys (omega (arith, all)) is

-- ---- what was noted

pub take_none : {A : Type 0} (xs : List A) → take 0 xs ≡ []
take_none [] = refl
take_none (x ∷ xs) = refl

take_all : {A : Type 0} (xs : List A) → take (length xs) xs ≡ xs
take_all [] = refl
take_all (x ∷ xs) = ap (λ ys. x ∷ ys) (take_all xs)

one_of : {A : Type 0} (whole : Type 0) → (whole ⊎ (◌≢◌ {A = List A} [] [])) → whole
one_of whole (inl holds) = holds
one_of whole (inr none) = absurd (none refl)

still_more : (first second more : Type 0) → (second → first) → second ⊎ more → first ⊎ more
still_more first second more to (inl holds) = inl (to holds)
still_more first second more to (inr holds) = inr holds

same_list : (a b : List Run) → Some a ≡ Some b → a ≡ b
same_list a b is = cc

not_empty : {A X : Type 0} (x : A) (xs : List A) → x ∷ xs ≡ [] → X
not_empty x xs is = absurd cc

module _ (premises : Premises) where
  pub part_if : (keys : List Key) (carried : List (List Known)) (list : List Run) (part : Notes)
      (whole other : Type 0) (old new : Past) → (other → whole)
      → IsPart keys carried list part premises whole old new → IsPart keys carried list part premises other old new
  part_if keys carried list part whole other old new to is = record {
    order = is.order;
    complete = λ holds. is.complete (to holds);
    known = known_if keys carried list part premises.honest whole other old new to is.known;
    turned = record {
      talks = is.turned.talks;
      clients = is.turned.clients;
      turned = is.turned.turned;
      until = is.turned.until;
      sent_are = is.turned.sent_are;
      handed_are = is.turned.handed_are;
      no_more = λ holds. is.turned.no_more (to holds);
    };
    settles = λ calmly holds. is.settles calmly (to holds);
  }

  -- less is said where it is said of less
  pub parts_if : (plans : List (List Key)) (runs : List (List Run)) (saved : List (List Known)) (parts : List Notes)
      (whole other : Type 0) (old new : Past) → (other → whole)
      → AreParts plans runs saved parts premises whole old new → AreParts plans runs saved parts premises other old new
  parts_if plans runs saved [] whole other old new to are = (λ holds. are.0 (to holds), are.1)
  parts_if [] runs saved (p ∷ parts) whole other old new to are = absurd are
  parts_if (keys ∷ plans) [] saved (p ∷ parts) whole other old new to are = absurd are
  parts_if (keys ∷ plans) (list ∷ runs) saved (p ∷ parts) whole other old new to are = (
    are.0,
    part_if keys (map (carried_over keys) saved) list p (whole ⊎ (parts ≢ [])) (other ⊎ (parts ≢ [])) old are.0
        (still_more whole other (parts ≢ []) to) are.1,
    parts_if plans runs (saved ++ p.saved) parts whole other are.0 new to are.2,
  )

  -- the runs on the first plans were made, and those on the others were not
  pub parts_broken : (plans : List (List Key)) (runs : List (List Run)) (saved : List (List Known))
      (parts : List Notes) (place : ℕ) (whole : Type 0) (old new : Past)
      → (whole → ⊥) → AreParts (take place plans) (take place runs) saved parts premises whole old new
      → AreParts plans runs saved parts premises whole old new
  parts_broken plans runs saved [] place whole old new none are = (λ holds. absurd (none holds), are.1)
  parts_broken [] runs saved (p ∷ parts) zero whole old new none are = absurd are
  parts_broken [] runs saved (p ∷ parts) (suc place) whole old new none are = absurd are
  parts_broken (keys ∷ plans) runs saved (p ∷ parts) zero whole old new none are = absurd are
  parts_broken (keys ∷ plans) [] saved (p ∷ parts) (suc place) whole old new none are = absurd are
  parts_broken (keys ∷ plans) (list ∷ runs) saved (p ∷ parts) (suc place) whole old new none are =
      (are.0, are.1, parts_broken plans runs (saved ++ p.saved) parts place whole are.0 new none are.2)

  -- the runs on all plans were made
  pub parts_all : (plans : List (List Key)) (runs : List (List Run)) (saved : List (List Known)) (parts : List Notes)
      (place : ℕ) (whole : Type 0) (old new : Past)
      → place ≡ length plans → length runs ≡ length plans
      → AreParts (take place plans) (take place runs) saved parts premises ⊤ old new
      → AreParts plans runs saved parts premises whole old new
  parts_all plans runs saved parts place whole old new all as_many are =
      let all_plans = ap (λ n. take n plans) all ∙ take_all plans in
      let all_runs = ap (λ n. take n runs) (all ∙ sym as_many) ∙ take_all runs in
      parts_if plans runs saved parts ⊤ whole old new (λ holds. tt)
      (subst (λ ps. AreParts ps runs saved parts premises ⊤ old new) all_plans
      (subst (λ rs. AreParts (take place plans) rs saved parts premises ⊤ old new) all_runs are))

  -- the runs of one more plan were made
  pub parts_more : (plans : List (List Key)) (runs : List (List Run)) (saved : List (List Known)) (parts : List Notes)
      (place : ℕ) (keys : List Key) (list : List Run) (part : Notes)
      (whole : Type 0) (old between new : Past) → slice_get plans place ≡ Some keys → slice_get runs place ≡ Some list
      → AreParts (take place plans) (take place runs) saved parts premises ⊤ old between
      → IsPart keys (map (carried_over keys) (saved ++ flat_map noted_saves parts)) list part premises whole between new
      → AreParts (take (suc place) plans) (take (suc place) runs) saved (parts ++ part ∷ []) premises whole old new
  parts_more [] runs saved parts place keys list part whole old between new is so before more = absurd cc
  parts_more (first ∷ plans) [] saved parts place keys list part whole old between new is so before more = absurd cc
  parts_more (first ∷ plans) (runs ∷ lists) saved [] zero keys list part whole old between new is so before more =
      rw (same_plan first keys is, same_list runs list so, before.1) (
        new,
        part_if keys (map (carried_over keys) saved) list part whole (whole ⊎ (◌≢◌ {A = List Notes} [] [])) between
            new (one_of whole)
            (subst (λ s. IsPart keys (map (carried_over keys) s) list part premises whole between new)
            (append-nil saved) more),
        (λ holds. take_none plans, refl),
      )
  parts_more (first ∷ plans) (runs ∷ lists) saved [] (suc place) keys list part whole old between new is so before
      more =
      not_empty first (take place plans) (before.0 tt)
  parts_more (first ∷ plans) (runs ∷ lists) saved (p ∷ parts) zero keys list part whole old between new is so before
      more = absurd before
  parts_more (first ∷ plans) (runs ∷ lists) saved (p ∷ parts) (suc place) keys list part whole old between new is so
      before more = (
        before.0,
        part_if first (map (carried_over first) saved) runs p (⊤ ⊎ (parts ≢ [])) (whole ⊎ (parts ++ part ∷ [] ≢ [])) old
            before.0 (λ both. inl tt) before.1,
        parts_more plans lists (saved ++ p.saved) parts place keys list part whole before.0 between new is so before.2
            (subst (λ s. IsPart keys (map (carried_over keys) s) list part premises whole between new)
            (sym (append_assoc saved p.saved (flat_map noted_saves parts))) more),
      )

  -- as many parts as plans, where the runs on each were made
  pub parts_long : (plans : List (List Key)) (runs : List (List Run)) (saved : List (List Known)) (parts : List Notes)
      (old new : Past)
      → AreParts plans runs saved parts premises ⊤ old new → length parts ≡ length plans
  parts_long plans runs saved [] old new are = ap length (sym (are.0 tt))
  parts_long [] runs saved (p ∷ parts) old new are = absurd are
  parts_long (keys ∷ plans) [] saved (p ∷ parts) old new are = absurd are
  parts_long (keys ∷ plans) (list ∷ runs) saved (p ∷ parts) old new are = ap (λ n. suc n)
      (parts_long plans runs (saved ++ p.saved) parts are.0 new are.2)

-- one more part is the last
pub last_short : (runs : List (List Run)) (parts : List Notes) (part : Notes) (place : ℕ) (list : List Run)
    → length parts ≡ place → slice_get runs place ≡ Some list
    → length part.ends < length list → LastIsShort runs (parts ++ part ∷ [])
last_short [] parts part place list long is short = absurd cc
last_short (first ∷ runs) [] part zero list long is short =
    subst (λ (l : List Run). length part.ends < length l) (sym (same_list first list is)) short
last_short (first ∷ runs) [] part (suc place) list long is short = absurd cc
last_short (first ∷ runs) (p ∷ parts) part zero list long is short = absurd cc
last_short (first ∷ runs) (p ∷ []) part (suc place) list long is short =
    last_short runs [] part place list (omega (arith, long)) is short
last_short (first ∷ runs) (p ∷ q ∷ parts) part (suc place) list long is short =
    last_short runs (q ∷ parts) part place list (omega (arith, long)) is short

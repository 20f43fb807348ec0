-- What is known and saved is true, and stays so; and what is counted was reached.
use Rattle.std.proofs.Common.{◌≡◌, ◌<◌, ◌≤◌, List, None, Option, Some, [], ◌∷◌, arith, map, refl, slice_get, subst, suc}
use Rattle.std.proofs.Common.{take, zero, ℕ, inl}
use Rattle.std.specs.List.{All, AllZip}
use Rattle.std.proofs.lemmas.List.Elements.{All-append, All-cons, All-head, All-nil, All-tail, All-weaker}
use Rattle.kmip_batch_items.specs.declared.request.Request.{Request}
use Rattle.kmip_client.specs.Asking.{at_place, requests_at}
use Rattle.kmip_client.specs.Clients.{WorksAt, fresh}
use Rattle.kmip_client.specs.Held.{Held, IsHeld, TrueProgress}
use Rattle.kmip_client.specs.Justified.{Justified}
use Rattle.kmip_client.specs.Knowledge.{lost_phase}
use Rattle.kmip_client.specs.Places.{Onward, position}
use Rattle.kmip_client.specs.Questions.{request_about}
use Rattle.kmip_client.specs.Saving.{knowledge_from, known_of}
use Rattle.kmip_client.specs.Shapes.{PhaseSuits}
use Rattle.kmip_client.specs.Verdicts.{counts_of}
use Rattle.kmip_client.specs.declared.knowledge.Knowledge.{Knowledge}
use Rattle.kmip_objects.specs.Objects.{Object}
use Rattle.kmip_objects.specs.declared.step.Step.{Step}
use Rattle.kmip_plan.specs.Chains.{chain, step_at, step_place}
use Rattle.kmip_plan.specs.Plans.{IsLawful, IsPlanned}
use Rattle.kmip_plan.specs.declared.key.Key.{Key}
use Rattle.kmip_plan.specs.declared.target.Target.{Target}
use Rattle.kmip_progress.specs.declared.known.Known.{Known}
use Rattle.kmip_protocol.specs.Laws.{IsReached}
use Rattle.kmip_protocol.specs.Past.{Past}
use Rattle.kmip_protocol.specs.Sound.{IsHarmless}
use Rattle.kmip_runs.specs.Headline.{reported_by, steps_counted}
use Rattle.kmip_company.specs.PrivateLawbook.{Lawbook}

-- ---- what is known

-- nothing that is known is true
pub held_fresh : (objects : List Object) (keys : List Key) → Held objects keys (fresh keys).knowns
held_fresh objects [] = tt
held_fresh objects (key ∷ keys) = (
  record {
    holds = record {
      uid_true = λ uid is. absurd cc;
      done_true = omega arith;
      has_identifier = λ some.
          absurd (omega (arith, some));
    };
    no_clash = refl;
    suits = refl;
  },
  held_fresh objects keys,
)

-- who goes on from what was saved looks at each key again
pub suits_again : (identifier : Option (List ℕ)) (done : ℕ) → PhaseSuits (lost_phase identifier) identifier done
suits_again None done = refl
suits_again (Some uid) done = λ is. absurd cc

pub held_again : (objects : List Object) (keys : List Key) (saved : List Known) → TrueProgress objects keys saved
    → Held objects keys (map knowledge_from saved)
held_again objects [] [] holds = tt
held_again objects [] (known ∷ saved) holds = absurd holds
held_again objects (key ∷ keys) [] holds = absurd holds
held_again objects (key ∷ keys) (known ∷ saved) holds = (
  record { holds = holds.0; no_clash = refl; suits = suits_again known.identifier known.done },
  held_again objects
      keys saved holds.1,
)

pub true_of_held : (objects : List Object) (keys : List Key) (knowns : List Knowledge) → Held objects keys knowns
    → TrueProgress objects keys (map known_of knowns)
true_of_held objects [] [] held = tt
true_of_held objects [] (known ∷ knowns) held = absurd held
true_of_held objects (key ∷ keys) [] held = absurd held
true_of_held objects (key ∷ keys) (known ∷ knowns) held = (held.0.holds, true_of_held objects keys knowns held.1)

saved_again : (saved : List Known) → map known_of (map knowledge_from saved) ≡ saved
saved_again [] = refl
saved_again (known ∷ saved) = rw (saved_again saved) refl

-- what was saved stays true
pub true_still : Lawbook → (keys : List Key) (saved : List Known) (old new : List Object) → IsLawful keys
    → Onward keys old new → TrueProgress old keys saved
    → TrueProgress new keys saved
true_still l keys saved old new lawful on was =
    subst (TrueProgress new keys) (saved_again saved)
    (true_of_held new keys (map knowledge_from saved)
    (l.client.known_for_good keys (map knowledge_from saved) old new lawful on (held_again old keys saved was)))

-- ---- what is counted

-- no more of each key is counted than its object has come to
abbrev pub AreReached : List Object → List Key → List ℕ → Type 0
AreReached objects keys counts = AllZip (λ key count. count ≤ position key objects) keys counts

pub saved_reached : (objects : List Object) (keys : List Key) (saved : List Known) → TrueProgress objects keys saved
    → AreReached objects keys (map (λ known. known.done) saved)
saved_reached objects [] [] holds = tt
saved_reached objects [] (known ∷ saved) holds = absurd holds
saved_reached objects (key ∷ keys) [] holds = absurd holds
saved_reached objects (key ∷ keys) (known ∷ saved) holds = (holds.0.done_true, saved_reached objects keys saved holds.1)

pub counts_reached : (objects : List Object) (keys : List Key) (knowns : List Knowledge) → Held objects keys knowns
    → AreReached objects keys (counts_of knowns)
counts_reached objects [] [] held = tt
counts_reached objects [] (known ∷ knowns) held = absurd held
counts_reached objects (key ∷ keys) [] held = absurd held
counts_reached objects (key ∷ keys) (known ∷ knowns) held =
    (held.0.holds.done_true, counts_reached objects keys knowns held.1)

-- a fact of each of the first of a list, by its place
pub first_are : {X Y : Type 0} (P : Y → Type 0) (f : X → Y) (xs : List X) (count : ℕ)
    → ((place : ℕ) (x : X) → slice_get xs place ≡ Some x → place < count → P (f x))
    → All P (map f (take count xs))
first_are P f xs zero each = All-nil P
first_are P f [] (suc count) each = All-nil P
first_are P f (x ∷ xs) (suc count) each =
    All-cons P (f x) (map f (take count xs)) (each zero x refl (omega arith))
    (first_are P f xs count (λ place y is below. each (suc place) y is (omega (arith, below))))

steps_reached : Lawbook → (plan : List Key) (p : Past) (key : Key) (count : ℕ) → IsPlanned plan key
    → count ≤ position key p.objects
    → All (IsReached plan p) (steps_counted key count)
steps_reached l plan p key count planned reached =
    first_are (IsReached plan p) (λ step. record { name = key.attrs.name; step = step }) (chain key.target) count
    (λ place step is below.
    let at : step_place key.target step ≡ suc place = (l.plan.places key.target (suc place) step (omega arith)).0
    (stands key.target place step is) in
    (key, planned, refl, omega (arith, at), omega (arith, at, below, reached)))
  where
    stands : (target : Target) (place : ℕ) (step : Step) → slice_get (chain target) place ≡ Some step
        → step_at target (suc place) ≡ Some step
    stands target place step is = is

-- each of these keys is one of the plan's
abbrev AreOf : List Key → List Key → Type 0
AreOf plan keys = (place : ℕ) (key : Key) → slice_get keys place ≡ Some key → IsPlanned plan key

reached_of : Lawbook → (plan : List Key) (p : Past) (keys : List Key) (counts : List ℕ) → AreOf plan keys
    → AreReached p.objects keys counts
    → All (IsReached plan p) (reported_by keys counts)
reached_of l plan p [] [] of reached = All-nil (IsReached plan p)
reached_of l plan p [] (count ∷ counts) of reached = absurd reached
reached_of l plan p (key ∷ keys) [] of reached = absurd reached
reached_of l plan p (key ∷ keys) (count ∷ counts) of reached =
    All-append (IsReached plan p) (steps_counted key count) (reported_by keys counts)
    (steps_reached l plan p key count (of zero key refl) reached.0)
    (reached_of l plan p keys counts (λ place k is. of (suc place) k is) reached.1)

pub all_reached : Lawbook → (keys : List Key) (p : Past) (counts : List ℕ) → IsLawful keys
    → AreReached p.objects keys counts
    → All (IsReached keys p) (reported_by keys counts)
all_reached l keys p counts lawful reached =
    reached_of l keys p keys counts (λ place key is. l.plan.found keys place key lawful is) reached

-- ---- what is asked

abbrev some_key : Key → Option Key
some_key a = Some a

same_key : (a b : Key) → some_key a ≡ some_key b → a ≡ b
same_key a b e = cc

abbrev some_known : Knowledge → Option Knowledge
some_known a = Some a

same_known : (a b : Knowledge) → some_known a ≡ some_known b → a ≡ b
same_known a b e = cc

held_at : (objects : List Object) (keys : List Key) (knowns : List Knowledge) (place : ℕ) (key : Key)
    (known : Knowledge) → Held objects keys knowns
    → slice_get keys place ≡ Some key → slice_get knowns place ≡ Some known → IsHeld objects key known
held_at objects [] knowns place key known held here there = absurd cc
held_at objects (k ∷ keys) [] place key known held here there = absurd held
held_at objects (k ∷ keys) (x ∷ knowns) zero key known held here there =
    subst (λ y. IsHeld objects key y) (same_known x known there)
    (subst (λ j. IsHeld objects j x) (same_key k key here) held.0)
held_at objects (k ∷ keys) (x ∷ knowns) (suc place) key known held here there =
    held_at objects keys knowns place key known held.1 here there

pub asked_there : (keys : List Key) (knowns : List Knowledge) (place : ℕ) (w : WorksAt keys knowns place)
    → at_place (λ place key known. request_about key known) keys knowns place ≡ Some (request_about w.key w.known)
asked_there keys knowns place w = rw (w.key_is, w.known_is) refl

-- what may be asked does no harm
pub all_harmless : (keys : List Key) (objects : List Object) (requests : List Request) → All (Justified keys objects) requests
    → All (IsHarmless keys objects) requests
all_harmless keys objects requests just =
    All-weaker (Justified keys objects) (IsHarmless keys objects) (λ request one. inl one) requests just

-- what a client that knows the truth asks may be asked
pub all_justified : Lawbook → (keys : List Key) (objects : List Object) (knowns : List Knowledge) (places : List ℕ)
    → IsLawful keys → Held objects keys knowns
    → All (WorksAt keys knowns) places → All (Justified keys objects) (requests_at keys knowns places)
all_justified l keys objects knowns [] lawful held works = All-nil (Justified keys objects)
all_justified l keys objects knowns (place ∷ places) lawful held works =
    let w = All-head (WorksAt keys knowns) place places works in
    rw (asked_there keys knowns place w)
    (All-cons (Justified keys objects) (request_about w.key w.known) (requests_at keys knowns places)
    (record {
      key = w.key;
      is_planned = l.plan.found keys place w.key lawful w.key_is;
      id_is = refl;
      may = l.client.asks objects w.key w.known
          (held_at objects keys knowns place w.key w.known held w.key_is w.known_is) w.works;
    })
    (all_justified l keys objects knowns places lawful held (All-tail (WorksAt keys knowns) place places works)))

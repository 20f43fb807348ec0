-- Whose turn it is, and what is asked.
use Rattle.std.proofs.Common.{◌≡◌, ◌≢◌, ℕ, zero, suc, ◌+◌, ◌≤◌, ◌<◌, Bool, true, ◌&&◌, List, [], ◌∷◌, ◌++◌, length, take, drop, Option, Some, Result, Ok, Err, IfOk, subst, refl, sym, ap, ◌∙◌, inl, inr, arith, append-nil}
use Rattle.std.proofs.lemmas.Bool.{cases_Bool}
use Rattle.std.proofs.lemmas.List.Elements.{All-nil, All-cons, All-head, All-tail, All-append, All-take, All-weaker}
use Rattle.std.specs.List.{All, AllZip, list_all, slice_get}
use Rattle.kmip_objects.specs.Objects.{Object}
use Rattle.kmip_batch_items.specs.RequestFits.{request_fits}
use Rattle.kmip_batch_items.specs.declared.request.Request.{Request}
use Rattle.kmip_batch_items.specs.Operations.{operation_of}
use Rattle.kmip_messages.specs.Members.{may_have}
use Rattle.kmip_messages.specs.Written.{requests_fit}
use Rattle.kmip_plan.specs.ChainLaws.{NextStepsStand, RevokesAreOfTheRevoked}
use Rattle.kmip_plan.specs.declared.key.Key.{Key}
use Rattle.kmip_plan.specs.Laws.{KeysAreFound}
use Rattle.kmip_plan.specs.Plans.{IsLawful, EachFits}
use Rattle.kmip_client.specs.Knowledge.{is_working}
use Rattle.kmip_client.specs.declared.knowledge.Knowledge.{Knowledge}
use Rattle.kmip_client.specs.declared.part.Part.{Part}
use Rattle.kmip_client.specs.Asking.{all_working_from, in_turn, next_places, at_place, at_places, requests_at, AreApart}
use Rattle.kmip_client.specs.Clients.{ClientState, WorksAt, AreSettled, one_if, working_count}
use Rattle.kmip_client.specs.Held.{Held, IsHeld}
use Rattle.kmip_client.specs.Justified.{Justified}
use Rattle.kmip_client.specs.Questions.{request_about}
use Rattle.kmip_client.specs.Private.{IsShaped}
use Rattle.kmip_client.proofs.ClientLemmas.{at_both}
use Rattle.kmip_client.proofs.HeldLemmas.{question_justified}
use Rattle.kmip_client.proofs.QuestionLemmas.{question_fits}

-- ---- whose turn it is

-- what was cut before more came is cut again behind it
pub cut_twice : {A : Type 0} (n : ℕ) (xs ys : List A) → take n (take n xs ++ ys) ≡ take n (xs ++ ys)
cut_twice zero xs ys = refl
cut_twice (suc n) [] ys = refl
cut_twice (suc n) (x ∷ xs) ys = ap (λ rest. x ∷ rest) (cut_twice n xs ys)

get_drop : {A : Type 0} (n : ℕ) (xs : List A) (i : ℕ) (x : A) → slice_get (drop n xs) i ≡ Some x → slice_get xs (n + i) ≡ Some x
get_drop zero xs i x is =
    let sum : i ≡ 0 + i = omega arith in
    subst (λ m. slice_get xs m ≡ Some x) sum is
get_drop (suc n) [] i x is = absurd cc
get_drop (suc n) (a ∷ xs) i x is =
    let sum : suc (n + i) ≡ suc n + i = omega arith in
    subst (λ m. slice_get (a ∷ xs) m ≡ Some x) sum (get_drop n xs i x is)

get_take : {A : Type 0} (n : ℕ) (xs : List A) (i : ℕ) (x : A) → slice_get (take n xs) i ≡ Some x → slice_get xs i ≡ Some x
get_take zero xs i x is = absurd cc
get_take (suc n) [] i x is = absurd cc
get_take (suc n) (a ∷ xs) zero x is = is
get_take (suc n) (a ∷ xs) (suc i) x is = get_take n xs i x is

-- one list is a part of the other, from a place on
abbrev IsPart : {A : Type 0} → ℕ → List A → List A → Type 0
IsPart {A} n part xs = (i : ℕ) (x : A) → slice_get part i ≡ Some x → slice_get xs (n + i) ≡ Some x

part_tail : {A : Type 0} (n : ℕ) (a : A) (part xs : List A) → IsPart n (a ∷ part) xs → IsPart (n + 1) part xs
part_tail n a part xs at = λ i x is.
    let sum : n + suc i ≡ n + 1 + i = omega arith in
    subst (λ m. slice_get xs m ≡ Some x) sum (at (suc i) x is)

part_head : {A : Type 0} (n : ℕ) (a : A) (part xs : List A) → IsPart n (a ∷ part) xs → slice_get xs n ≡ Some a
part_head n a part xs at =
    let sum : n + 0 ≡ n = omega arith in
    subst (λ m. slice_get xs m ≡ Some a) sum (at 0 a refl)

front_part : {A : Type 0} (n : ℕ) (xs : List A) → IsPart 0 (take n xs) xs
front_part n xs = λ i x is.
    let sum : i ≡ 0 + i = omega arith in
    subst (λ m. slice_get xs m ≡ Some x) sum (get_take n xs i x is)

works_from : (n : ℕ) (ks : List Key) (os : List Knowledge) (keys : List Key) (knowns : List Knowledge) → IsPart n ks keys → IsPart n os knowns
    → All (WorksAt keys knowns) (all_working_from n ks os)
works_from n [] os keys knowns here there = All-nil (WorksAt keys knowns)
works_from n (k ∷ ks) [] keys knowns here there = All-nil (WorksAt keys knowns)
works_from n (k ∷ ks) (o ∷ os) keys knowns here there =
    let more = works_from (n + 1) ks os keys knowns (part_tail n k ks keys here) (part_tail n o os knowns there) in
    elim (cases_Bool (is_working k o)) [
      | inl works ↦ rw works
          (All-cons (WorksAt keys knowns) n (all_working_from (n + 1) ks os)
          (record { key = k; known = o; key_is = part_head n k ks keys here; known_is = part_head n o os knowns there; works = works }) more)
      | inr settled ↦ rw settled more
    ]

-- each key that is asked about is worked on
pub places_work : (c : ClientState) → All (WorksAt c.keys c.knowns) (next_places c)
places_work c =
    All-take (WorksAt c.keys c.knowns) c.batch (in_turn c)
    (All-append (WorksAt c.keys c.knowns)
    (all_working_from c.next (drop c.next c.keys) (drop c.next c.knowns)) (all_working_from 0 (take c.next c.keys) (take c.next c.knowns))
    (works_from c.next (drop c.next c.keys) (drop c.next c.knowns) c.keys c.knowns (get_drop c.next c.keys) (get_drop c.next c.knowns))
    (works_from 0 (take c.next c.keys) (take c.next c.knowns) c.keys c.knowns (front_part c.next c.keys) (front_part c.next c.knowns)))

-- ---- each once

-- the places of some keys lie within their list
within_from : (n : ℕ) (keys : List Key) (knowns : List Knowledge) → All (λ p. (n ≤ p) × (p < n + length keys)) (all_working_from n keys knowns)
within_from n [] knowns = All-nil (λ p. (n ≤ p) × (p < n + 0))
within_from n (key ∷ keys) [] = All-nil (λ p. (n ≤ p) × (p < n + length (key ∷ keys)))
within_from n (key ∷ keys) (known ∷ knowns) =
    let more = All-weaker (λ p. (n + 1 ≤ p) × (p < n + 1 + length keys)) (λ p. (n ≤ p) × (p < n + length (key ∷ keys)))
    (λ p is. (omega (arith, is.0), omega (arith, is.1))) (all_working_from (n + 1) keys knowns) (within_from (n + 1) keys knowns) in
    elim (cases_Bool (is_working key known)) [
      | inl works ↦ rw works
          (All-cons (λ p. (n ≤ p) × (p < n + length (key ∷ keys))) n (all_working_from (n + 1) keys knowns) (omega arith, omega arith) more)
      | inr settled ↦ rw settled more
    ]

apart_from : (n : ℕ) (keys : List Key) (knowns : List Knowledge) → AreApart (all_working_from n keys knowns)
apart_from n [] knowns = tt
apart_from n (key ∷ keys) [] = tt
apart_from n (key ∷ keys) (known ∷ knowns) =
    let others = All-weaker (λ p. (n + 1 ≤ p) × (p < n + 1 + length keys)) (λ p. p ≢ n)
    (λ p is. λ same. absurd (omega (arith, is.0, same))) (all_working_from (n + 1) keys knowns) (within_from (n + 1) keys knowns) in
    elim (cases_Bool (is_working key known)) [
      | inl works ↦ rw works (others, apart_from (n + 1) keys knowns)
      | inr settled ↦ rw settled (apart_from (n + 1) keys knowns)
    ]

-- places from one on, and then places below it
apart_both : (n : ℕ) (behind front : List ℕ) → AreApart behind → AreApart front → All (λ p. n ≤ p) behind → All (λ p. p < n) front → AreApart (behind ++ front)
apart_both n [] front one two high low = two
apart_both n (place ∷ behind) front one two high low =
    let from : n ≤ place = All-head (λ p. n ≤ p) place behind high in (
      All-append (λ p. p ≢ place) behind front one.0 (All-weaker (λ p. p < n) (λ p. p ≢ place) (λ p below. λ same. absurd (omega (arith, from, below, same))) front low),
      apart_both n behind front one.1 two (All-tail (λ p. n ≤ p) place behind high) low,
    )

apart_cut : (most : ℕ) (places : List ℕ) → AreApart places → AreApart (take most places)
apart_cut zero places apart = tt
apart_cut (suc most) [] apart = tt
apart_cut (suc most) (place ∷ places) apart = (All-take (λ p. p ≢ place) most places apart.0, apart_cut most places apart.1)

pub few_cut : {A : Type 0} (n : ℕ) (xs : List A) → length (take n xs) ≤ n
few_cut zero xs = omega arith
few_cut (suc n) [] = omega arith
few_cut (suc n) (x ∷ xs) = omega (arith, few_cut n xs)

-- no key is asked about twice
pub places_apart : (c : ClientState) → AreApart (next_places c)
places_apart c =
    let behind : List ℕ = all_working_from c.next (drop c.next c.keys) (drop c.next c.knowns) in
    let front : List ℕ = all_working_from 0 (take c.next c.keys) (take c.next c.knowns) in
    let few = few_cut c.next c.keys in
    apart_cut c.batch (in_turn c)
    (apart_both c.next behind front (apart_from c.next (drop c.next c.keys) (drop c.next c.knowns)) (apart_from 0 (take c.next c.keys) (take c.next c.knowns))
    (All-weaker (λ p. (c.next ≤ p) × (p < c.next + length (drop c.next c.keys))) (λ p. c.next ≤ p) (λ p is. is.0) behind
    (within_from c.next (drop c.next c.keys) (drop c.next c.knowns)))
    (All-weaker (λ p. (0 ≤ p) × (p < 0 + length (take c.next c.keys))) (λ p. p < c.next) (λ p is. omega (arith, is.1, few)) front
    (within_from 0 (take c.next c.keys) (take c.next c.knowns))))

-- ---- none has the turn

pub none_all : (place : ℕ) (keys : List Key) (knowns : List Knowledge) → length knowns ≡ length keys → all_working_from place keys knowns ≡ [] → AreSettled keys knowns
none_all place [] [] many none = tt
none_all place [] (known ∷ knowns) many none = absurd (omega arith)
none_all place (key ∷ keys) [] many none = absurd (omega arith)
none_all place (key ∷ keys) (known ∷ knowns) many none =
    elim (cases_Bool (is_working key known)) [
      | inl works ↦ absurd (not_none (rw works at none))
      | inr settled ↦ (settled, none_all (place + 1) keys knowns (omega arith) (rw settled at none))
    ]
  where
    not_none : {xs : List ℕ} {x : ℕ} → (x ∷ xs) ≡ [] → ⊥
    not_none is = absurd cc

none_parts : (n a b : ℕ) (keys : List Key) (knowns : List Knowledge) → length knowns ≡ length keys → all_working_from a (take n keys) (take n knowns) ≡ []
    → all_working_from b (drop n keys) (drop n knowns) ≡ [] → AreSettled keys knowns
none_parts zero a b keys knowns many front behind = none_all b keys knowns many behind
none_parts (suc n) a b [] [] many front behind = tt
none_parts (suc n) a b [] (known ∷ knowns) many front behind = absurd (omega arith)
none_parts (suc n) a b (key ∷ keys) [] many front behind = absurd (omega arith)
none_parts (suc n) a b (key ∷ keys) (known ∷ knowns) many front behind =
    elim (cases_Bool (is_working key known)) [
      | inl works ↦ absurd (not_none (rw works at front))
      | inr settled ↦ (settled, none_parts n (a + 1) b keys knowns (omega arith) (rw settled at front) behind)
    ]
  where
    not_none : {xs : List ℕ} {x : ℕ} → (x ∷ xs) ≡ [] → ⊥
    not_none is = absurd cc

cut_none : {A : Type 0} (most : ℕ) (xs : List A) → 1 ≤ most → take most xs ≡ [] → xs ≡ []
cut_none zero xs some none = absurd (omega arith)
cut_none (suc most) [] some none = refl
cut_none (suc most) (x ∷ xs) some none = absurd cc

both_none : {A : Type 0} (xs ys : List A) → xs ++ ys ≡ [] → (xs ≡ []) × (ys ≡ [])
both_none [] ys none = (refl, none)
both_none (x ∷ xs) ys none = absurd cc

pub no_places : (c : ClientState) → 1 ≤ c.batch → length c.knowns ≡ length c.keys → next_places c ≡ [] → AreSettled c.keys c.knowns
no_places c some many none =
    let parts = both_none (all_working_from c.next (drop c.next c.keys) (drop c.next c.knowns)) (all_working_from 0 (take c.next c.keys) (take c.next c.knowns))
    (cut_none c.batch (in_turn c) some none) in
    none_parts c.next 0 c.next c.keys c.knowns many parts.1 parts.0

-- and none is asked about where none is counted
pub none_from : (place : ℕ) (keys : List Key) (knowns : List Knowledge) → working_count keys knowns ≡ 0 → all_working_from place keys knowns ≡ []
none_from place [] knowns none = refl
none_from place (key ∷ keys) [] none = refl
none_from place (key ∷ keys) (known ∷ knowns) none =
    elim (cases_Bool (is_working key known)) [
      | inl works ↦ absurd (omega (arith, ap one_if works))
      | inr settled ↦ rw settled (none_from (place + 1) keys knowns (omega arith))
    ]

-- fewer are counted in a part
none_behind : (n : ℕ) (keys : List Key) (knowns : List Knowledge) → working_count keys knowns ≡ 0 → working_count (drop n keys) (drop n knowns) ≡ 0
none_behind zero keys knowns none = none
none_behind (suc n) [] [] none = refl
none_behind (suc n) [] (known ∷ knowns) none = refl
none_behind (suc n) (key ∷ keys) [] none = unknown n keys
  where
    unknown : (n : ℕ) (keys : List Key) → working_count (drop n keys) [] ≡ 0
    unknown zero [] = refl
    unknown zero (key ∷ keys) = refl
    unknown (suc n) [] = refl
    unknown (suc n) (key ∷ keys) = unknown n keys
none_behind (suc n) (key ∷ keys) (known ∷ knowns) none = none_behind n keys knowns (omega arith)

none_before : (n : ℕ) (keys : List Key) (knowns : List Knowledge) → working_count keys knowns ≡ 0 → working_count (take n keys) (take n knowns) ≡ 0
none_before zero keys knowns none = refl
none_before (suc n) [] knowns none = refl
none_before (suc n) (key ∷ keys) [] none = refl
none_before (suc n) (key ∷ keys) (known ∷ knowns) none = omega (arith, none, none_before n keys knowns (omega (arith, none)))

pub none_next : (c : ClientState) → working_count c.keys c.knowns ≡ 0 → next_places c ≡ []
none_next c none =
    rw (
      none_from c.next (drop c.next c.keys) (drop c.next c.knowns) (none_behind c.next c.keys c.knowns none),
      none_from 0 (take c.next c.keys) (take c.next c.knowns) (none_before c.next c.keys c.knowns none),
    ) (nothing_cut c.batch)
  where
    nothing_cut : (n : ℕ) → take {A = ℕ} n [] ≡ []
    nothing_cut zero = refl
    nothing_cut (suc n) = refl

-- ---- what is asked

pub within_some : {A : Type 0} (xs : List A) (place : ℕ) (x : A) → slice_get xs place ≡ Some x → place < length xs
within_some [] place x is = absurd cc
within_some (a ∷ xs) zero x is = omega arith
within_some (a ∷ xs) (suc place) x is = omega (arith, within_some xs place x is)

pub if_ok : {A E : Type 0} (P Q : A → Type 0) (r : Result A E) → ((x : A) → P x → Q x) → IfOk r P → IfOk r Q
if_ok P Q (Ok x) to holds = to x holds
if_ok P Q (Err e) to holds = tt

pub at_said : {A : Type 0} (f : ℕ → Key → Knowledge → A) (keys : List Key) (knowns : List Knowledge) (place : ℕ) (key : Key) (known : Knowledge)
    → slice_get keys place ≡ Some key → slice_get knowns place ≡ Some known → at_place f keys knowns place ≡ Some (f place key known)
at_said f keys knowns place key known here there = rw (here, there) refl

-- the request about each place that is worked on
abbrev pub request_there : List Key → List Knowledge → ℕ → Option Request
request_there keys knowns place = at_place (λ place key known. request_about key known) keys knowns place

asked_there : (keys : List Key) (knowns : List Knowledge) (place : ℕ) (w : WorksAt keys knowns place)
    → request_there keys knowns place ≡ Some (request_about w.key w.known)
asked_there keys knowns place w = at_said (λ place key known. request_about key known) keys knowns place w.key w.known w.key_is w.known_is

-- a fact of each request is a fact of all
each_request : (P : Request → Type 0) (keys : List Key) (knowns : List Knowledge) (places : List ℕ)
    → ((place : ℕ) (w : WorksAt keys knowns place) → P (request_about w.key w.known)) → All (WorksAt keys knowns) places
    → All P (requests_at keys knowns places)
each_request P keys knowns [] one works = All-nil P
each_request P keys knowns (place ∷ places) one works =
    let w = All-head (WorksAt keys knowns) place places works in
    rw (asked_there keys knowns place w)
    (All-cons P (request_about w.key w.known) (requests_at keys knowns places) (one place w)
    (each_request P keys knowns places one (All-tail (WorksAt keys knowns) place places works)))

pub requests_justified : (keys : List Key) (objects : List Object) (knowns : List Knowledge) (places : List ℕ) → NextStepsStand → KeysAreFound → IsLawful keys
    → Held objects keys knowns → All (WorksAt keys knowns) places → All (Justified keys objects) (requests_at keys knowns places)
requests_justified keys objects knowns places law found lawful held works =
    each_request (Justified keys objects) keys knowns places
    (λ place w. question_justified keys objects w.key w.known law (found keys place w.key lawful w.key_is)
    (at_both (IsHeld objects) keys knowns place w.key w.known held w.key_is w.known_is) w.works) works

pub requests_are_fit : (keys : List Key) (knowns : List Knowledge) (places : List ℕ) → RevokesAreOfTheRevoked → AllZip IsShaped keys knowns → EachFits keys
    → All (WorksAt keys knowns) places → (list_all request_fits (requests_at keys knowns places) ≡ true) × (length (requests_at keys knowns places) ≡ length places)
requests_are_fit keys knowns [] law shaped fit works = (refl, refl)
requests_are_fit keys knowns (place ∷ places) law shaped fit works =
    let w = All-head (WorksAt keys knowns) place places works in
    let more = requests_are_fit keys knowns places law shaped fit (All-tail (WorksAt keys knowns) place places works) in
    let first : request_fits (request_about w.key w.known) ≡ true =
    question_fits w.key w.known law (fit place w.key w.key_is) (at_both IsShaped keys knowns place w.key w.known shaped w.key_is w.known_is) in
    rw (asked_there keys knowns place w) (rw (first, more.0) refl, ap suc more.1)

-- once nothing is left, all are there
pub all_there : {A : Type 0} (f : ℕ → Key → Knowledge → A) (keys : List Key) (knowns : List Knowledge) (places : List ℕ) (i : ℕ) (xs : List A)
    → length places ≤ i → xs ++ at_places f keys knowns (drop i places) ≡ at_places f keys knowns places → xs ≡ at_places f keys knowns places
all_there f keys knowns places i xs past is =
    let none : drop i places ≡ [] = drop_past i places past in
    sym (append-nil xs) ∙ ap (λ left. xs ++ at_places f keys knowns left) (sym none) ∙ is
  where
    drop_past : {A : Type 0} (n : ℕ) (xs : List A) → length xs ≤ n → drop n xs ≡ []
    drop_past zero [] past = refl
    drop_past zero (x ∷ xs) past = absurd (omega arith)
    drop_past (suc n) [] past = refl
    drop_past (suc n) (x ∷ xs) past = drop_past n xs (omega arith)

pub batch_fits : (keys : List Key) (knowns : List Knowledge) (places : List ℕ) (rs : List Request) → RevokesAreOfTheRevoked → AllZip IsShaped keys knowns
    → EachFits keys → All (WorksAt keys knowns) places → may_have (length places) ≡ true → rs ≡ requests_at keys knowns places → requests_fit rs ≡ true
batch_fits keys knowns places rs law shaped fit works some is =
    let each = requests_are_fit keys knowns places law shaped fit works in
    let many : may_have (length (requests_at keys knowns places)) ≡ true = ap may_have each.1 ∙ some in
    ap requests_fit is ∙ both many each.0
  where
    both : {a b : Bool} → a ≡ true → b ≡ true → (a && b) ≡ true
    both p q = rw (p, q) refl

-- the part of a message that asks what a request does
abbrev pub part_of : ℕ → Request → Part
part_of place r = record { key = place; operation = operation_of r.ask }

-- The turns of the plan machine that asking and serving a request make.
use Rattle.std.proofs.Common.{◌≡◌, ◌≢◌, ◌≤◌, ◌+◌, ◌==◌, ℕ, true, false, nat_eq, eq-eqb, List, [], ◌∷◌, ◌++◌, map, filter_map, option_map, option_and_then, option_to_list, append_assoc, append-nil, Option, Some, None, if◌then◌else◌, refl, sym, ap, subst, ◌∙◌, inl, inr, arith}
use Rattle.std.specs.Cmp.Lexicographic.{pointwise}
use Rattle.std.specs.List.{All, Contains, cons_option}
use Rattle.std.proofs.lemmas.Bool.{cases_Bool}
use Rattle.std.proofs.lemmas.List.{map-append}
use Rattle.std.proofs.lemmas.List.Elements.{All-head, All-tail, Contains-append_left, Contains-append_right, Contains-push, filter_map-append}
use Rattle.std.proofs.lemmas.Slice.Eq.{bytes_eq-Decides}
use Rattle.kmip_objects.specs.Objects.{Object, object_named}
use Rattle.kmip_batch_items.specs.Operations.{operation_of}
use Rattle.kmip_batch_items.specs.declared.ask.Ask.{Ask}
use Rattle.kmip_batch_items.specs.declared.ask.Ask.TheVariants as asks
use Rattle.kmip_batch_items.specs.declared.request.Request.{Request}
use Rattle.kmip_objects.specs.declared.step.Step.{Step}
use Rattle.kmip_objects.specs.declared.step.Step.TheVariants.{Create, Activate, Revoke, Destroy}
use Rattle.kmip_plan.specs.Chains.{step_place}
use Rattle.kmip_plan.specs.Plans.{IsPlanned}
use Rattle.kmip_plan.specs.declared.key.Key.{Key}
use Rattle.kmip_client.specs.Justified.{Justified, MayAsk}
use Rattle.kmip_client.specs.Places.{position}
use Rattle.kmip_server.specs.declared.effect.Effect.{Effect}
use Rattle.kmip_protocol.specs.Machine.{IsMirrored, Machine, Mirrors, MayTurn, AllMayTurn, Pair, Turn, Add, Take, after_turn, after_turns, at_start, pair_asked, pair_by_id, pair_done, pair_of, with_place}
use Rattle.kmip_protocol.specs.Moves.{Joins}
use Rattle.kmip_protocol.specs.Past.{Past, steps_on}
use Rattle.kmip_protocol.specs.Headline.{step_of_ask}
use Rattle.kmip_protocol.specs.Sound.{IsHarmless, Opening}
use Rattle.kmip_protocol.proofs.ChangeLemmas.{place_in}
use Rattle.kmip_protocol.proofs.MovingLemmas.{same_key}
use Rattle.kmip_protocol.proofs.SafeLemmas.{first_or_later, same_step}
use Rattle.kmip_protocol.proofs.ServedLemmas.{Steps}

after_both : (first rest : List Turn) (m : Machine) → after_turns (first ++ rest) m ≡ after_turns rest (after_turns first m)
after_both [] rest m = refl
after_both (turn ∷ first) rest m = after_both first rest (after_turn turn m)

may_both : (first rest : List Turn) (m : Machine) → AllMayTurn first m → AllMayTurn rest (after_turns first m) → AllMayTurn (first ++ rest) m
may_both [] rest m may more = more
may_both (turn ∷ first) rest m may more = (may.0, may_both first rest (after_turn turn m) may.1 more)

-- one more turn gives the image
pub one_more : (keys : List Key) (p q : Past) (image : IsMirrored keys p) (turn : Turn) → MayTurn turn (after_turns image.turns at_start)
    → Mirrors keys q (after_turn turn (after_turns image.turns at_start)) → IsMirrored keys q
one_more keys p q image turn may mirrors = record {
  turns = image.turns ++ turn ∷ [];
  may = may_both image.turns (turn ∷ []) at_start image.may (may, tt);
  image = subst (Mirrors keys q) (sym (after_both image.turns (turn ∷ []) at_start)) mirrors;
}

-- no further turn does
pub no_more : (keys : List Key) (p q : Past) → IsMirrored keys p → ((key : Key) → IsPlanned keys key → position key p.objects ≡ position key q.objects)
    → filter_map (pair_asked keys) p.requests ≡ filter_map (pair_asked keys) q.requests → p.effects ≡ q.effects → IsMirrored keys q
no_more keys p q image places requests effects = record {
  turns = image.turns;
  may = image.may;
  image = record {
    places = λ key planned. image.image.places key planned ∙ places key planned;
    pairs = image.image.pairs ∙ requests;
    moved = image.image.moved ∙ ap (map (pair_done keys)) effects;
  };
}

-- ---- asking

abbrev pub with_request : Request → Past → Past
with_request request p = record p { requests = p.requests ++ request ∷ [] }

pub pair_is : (keys : List Key) (key : Key) (request : Request) (operation : ℕ) (step : Step) → IsPlanned keys key
    → request.id ≡ Some (operation ∷ key.attrs.name) → step_of_ask request.ask ≡ Some step
    → pair_asked keys request ≡ Some (record { name = key.attrs.name; place = step_place key.target step })
pair_is keys key request operation step planned id is_step =
    ap (λ found. option_and_then (λ s. pair_by_id keys request.id s) found) is_step
    ∙ ap (λ i. pair_by_id keys i step) id
    ∙ ap (λ found. option_map (λ k. record { name = key.attrs.name; place = step_place k.target step }) found) planned

pair_none : (keys : List Key) (request : Request) → step_of_ask request.ask ≡ None → pair_asked keys request ≡ None
pair_none keys request none = ap (λ found. option_and_then (λ s. pair_by_id keys request.id s) found) none

-- the steps before the one that is asked are done
asked_within : (objects : List Object) (key : Key) (ask : Ask) (step : Step) → MayAsk objects key ask → step_of_ask ask ≡ Some step
    → step_place key.target step ≤ position key objects + 1
asked_within objects key (asks.Create attrs) step may is =
    subst (λ s. step_place key.target s ≤ position key objects + 1) (same_step Create step is) (let one : 1 ≤ position key objects + 1 = omega arith in one)
asked_within objects key (asks.Locate mask filter) step may is = absurd cc
asked_within objects key (asks.GetAttributes uid) step may is = absurd cc
asked_within objects key (asks.Activate uid) step may is = subst (λ s. step_place key.target s ≤ position key objects + 1) (same_step Activate step is) may.due
asked_within objects key (asks.Revoke uid code) step may is = subst (λ s. step_place key.target s ≤ position key objects + 1) (same_step Revoke step is) may.0.due
asked_within objects key (asks.Destroy uid) step may is = subst (λ s. step_place key.target s ≤ position key objects + 1) (same_step Destroy step is) may.due

asked_push : (keys : List Key) (requests : List Request) (request : Request)
    → filter_map (pair_asked keys) (requests ++ request ∷ []) ≡ filter_map (pair_asked keys) requests ++ cons_option (pair_asked keys request) []
asked_push keys requests request = filter_map-append (pair_asked keys) requests (request ∷ [])

mirrored_for : (keys : List Key) (p : Past) (request : Request) (found : Option Step) → IsMirrored keys p → IsHarmless keys p.objects request
    → step_of_ask request.ask ≡ found → IsMirrored keys (with_request request p)
mirrored_for keys p request None image may is =
    no_more keys p (with_request request p) image (λ key planned. refl)
    (sym (asked_push keys p.requests request
    ∙ ap (λ found. filter_map (pair_asked keys) p.requests ++ cons_option found []) (pair_none keys request is)
    ∙ append-nil (filter_map (pair_asked keys) p.requests)))
    refl
mirrored_for keys p request (Some step) image (inr outside) is = let t : None ≡ Some step = sym outside.no_step ∙ is in absurd cc
mirrored_for keys p request (Some step) image (inl just) is =
    let key = just.key in
    let m = after_turns image.turns at_start in
    let mirrors = image.image in
    let pair : Pair = record { name = key.attrs.name; place = step_place key.target step } in
    let asked : pair_asked keys request ≡ Some pair = pair_is keys key request (operation_of request.ask) step just.is_planned just.id_is is in
    let within = asked_within p.objects key request.ask step just.may is in
    let here = mirrors.places key just.is_planned in
    let may : pair.place ≤ m.at pair.name + 1 = omega (arith, within, here) in
    one_more keys p (with_request request p) image (Add pair) may (record {
      places = mirrors.places;
      pairs = ap (λ pairs. pairs ++ pair ∷ []) mirrors.pairs
          ∙ sym (asked_push keys p.requests request ∙ ap (λ found. filter_map (pair_asked keys) p.requests ++ cons_option found []) asked);
      moved = mirrors.moved;
    })

pub mirrored_requests : (keys : List Key) (p : Past) (more : List Request) → IsMirrored keys p → All (IsHarmless keys p.objects) more
    → IsMirrored keys (record p { requests = p.requests ++ more })
mirrored_requests keys p [] image may =
    no_more keys p (record p { requests = p.requests ++ [] }) image (λ key planned. refl) (ap (filter_map (pair_asked keys)) (sym (append-nil p.requests))) refl
mirrored_requests keys p (request ∷ more) image may =
    let one = mirrored_for keys p request (step_of_ask request.ask) image (All-head (IsHarmless keys p.objects) request more may) refl in
    let all = mirrored_requests keys (with_request request p) more one (All-tail (IsHarmless keys p.objects) request more may) in
    no_more keys (record p { requests = (p.requests ++ request ∷ []) ++ more }) (record p { requests = p.requests ++ request ∷ more }) all (λ key planned. refl)
    (ap (filter_map (pair_asked keys)) (append_assoc p.requests (request ∷ []) more)) refl

-- ---- what joins the effects

pub none_joined : (joined : Option Effect) → ((name : List ℕ) → steps_on name (option_to_list joined) ≡ []) → joined ≡ None
none_joined None none = refl
none_joined (Some effect) none =
    let same : pointwise nat_eq effect.name effect.name ≡ true = (bytes_eq-Decides effect.name effect.name).1 refl in
    let one : effect.step ∷ [] ≡ [] = rw same at (none effect.name) in
    absurd cc

same_head : {A : Type 0} (a b : A) → a ∷ [] ≡ b ∷ [] → a ≡ b
same_head a b is = cc

pub one_joined : (joined : Option Effect) (name : List ℕ) (step : Step) → steps_on name (option_to_list joined) ≡ step ∷ []
    → (effect : Effect) × (joined ≡ Some effect) × (effect.name ≡ name) × (effect.step ≡ step)
one_joined None name step is = absurd cc
one_joined (Some effect) name step is = elim (cases_Bool (pointwise nat_eq name effect.name)) [
  | inl same ↦
      let one : effect.step ∷ [] ≡ step ∷ [] = rw same at is in
      (effect, refl, sym ((bytes_eq-Decides name effect.name).0 same), same_head effect.step step one)
  | inr apart ↦ let none : [] ≡ step ∷ [] = rw apart at is in absurd cc
]

-- ---- serving

contains_mapped : {A B : Type 0} (h : A → Option B) (xs : List A) (x : A) (y : B) → Contains xs x → h x ≡ Some y → Contains (filter_map h xs) y
contains_mapped h [] x y has is = let below = has.1 in absurd (omega (arith, below))
contains_mapped {B = B} h (a ∷ xs) x y has is = elim (first_or_later a xs x has) [
  | inl one ↦
      let own : h a ≡ Some y = ap h one ∙ is in
      subst (λ found. Contains (cons_option found (filter_map h xs)) y) (sym own) (Contains-append_left (y ∷ []) (filter_map h xs) y (Contains-push [] y))
  | inr later ↦ after_it (h a) (contains_mapped h xs x y later is)
] where
  after_it : (found : Option B) → Contains (filter_map h xs) y → Contains (cons_option found (filter_map h xs)) y
  after_it None there = there
  after_it (Some b) there = Contains-append_right (b ∷ []) (filter_map h xs) y there

done_is : (keys : List Key) (key : Key) (effect : Effect) (step : Step) → IsPlanned keys key → effect.name ≡ key.attrs.name → effect.step ≡ step
    → pair_done keys effect ≡ Some (record { name = key.attrs.name; place = step_place key.target step })
done_is keys key effect step planned named stepped =
    ap (λ name. pair_of keys name effect.step) named
    ∙ ap (λ s. pair_of keys key.attrs.name s) stepped
    ∙ ap (λ found. option_map (λ k. record { name = key.attrs.name; place = step_place k.target step }) found) planned

-- the places after the key has moved on
moved_places : (keys : List Key) (key other : Key) (old new : List Object) (m : Machine) (place : ℕ) → IsPlanned keys key → IsPlanned keys other
    → m.at other.attrs.name ≡ position other old → place ≡ position key new
    → ((name : List ℕ) → name ≢ key.attrs.name → object_named name new ≡ object_named name old)
    → (if pointwise nat_eq other.attrs.name key.attrs.name then place else m.at other.attrs.name) ≡ position other new
moved_places keys key other old new m place planned also here now others =
    elim (cases_Bool (pointwise nat_eq other.attrs.name key.attrs.name)) [
      | inl same ↦
          let one : key ≡ other = same_key keys key other planned also ((bytes_eq-Decides other.attrs.name key.attrs.name).0 same) in
          ap (λ b. if b then place else m.at other.attrs.name) same ∙ now ∙ ap (λ k. position k new) one
      | inr apart ↦
          let kept : object_named other.attrs.name new ≡ object_named other.attrs.name old =
          others other.attrs.name (λ e. let t : true ≡ false = sym ((bytes_eq-Decides other.attrs.name key.attrs.name).1 e) ∙ apart in absurd cc) in
          ap (λ b. if b then place else m.at other.attrs.name) apart ∙ here ∙ ap (place_in other) (sym kept)
    ]

pub mirrored_step : (keys : List Key) (p q : Past) (request : Request) (joined : Option Effect) (just : Justified keys p.objects request) → IsMirrored keys p
    → Contains p.requests request → Joins p.objects q.objects joined → Steps just.key p.objects q.objects request.ask
    → p.requests ≡ q.requests → p.effects ++ option_to_list joined ≡ q.effects → IsMirrored keys q
mirrored_step keys p q request joined just image asked joins steps same more =
    let key = just.key in
    let m = after_turns image.turns at_start in
    let mirrors = image.image in
    let pair : Pair = record { name = key.attrs.name; place = step_place key.target steps.step } in
    let own : pair_asked keys request ≡ Some pair = pair_is keys key request (operation_of request.ask) steps.step just.is_planned just.id_is steps.is_asked in
    let may : Contains m.pairs pair =
    subst (λ pairs. Contains pairs pair) (sym mirrors.pairs) (contains_mapped (pair_asked keys) p.requests request pair asked own) in
    let here = mirrors.places key just.is_planned in
    let before = steps.place in
    let now = steps.now in
    let due : m.at pair.name + 1 ≡ pair.place = omega (arith, here, before) in
    let passes : (m.at pair.name + 1 == pair.place) ≡ true = eq-eqb (m.at pair.name + 1) pair.place due in
    let turned : after_turn (Take pair) m ≡ with_place pair m = ap (λ b. if b then with_place pair m else m) passes in
    let place : pair.place ≡ position key q.objects = before ∙ sym now in
    let (effect, is, named, stepped) = one_joined joined key.attrs.name steps.step
    (joins key.attrs.name ∙ ap (λ s. option_to_list s) steps.changes) in
    let done : pair_done keys effect ≡ Some pair = done_is keys key effect steps.step just.is_planned named stepped in
    one_more keys p q image (Take pair) may (subst (Mirrors keys q) (sym turned) (record {
      places = λ other also. moved_places keys key other p.objects q.objects m pair.place just.is_planned also (mirrors.places other also) place steps.others;
      pairs = mirrors.pairs ∙ ap (filter_map (pair_asked keys)) same;
      moved = map-append (λ x. Some x) m.moved (pair ∷ [])
          ∙ ap (λ xs. xs ++ Some pair ∷ []) mirrors.moved
          ∙ ap (λ x. map (pair_done keys) p.effects ++ x ∷ []) (sym done)
          ∙ sym (map-append (pair_done keys) p.effects (effect ∷ []))
          ∙ ap (λ j. map (pair_done keys) (p.effects ++ option_to_list j)) (sym is)
          ∙ ap (map (pair_done keys)) more;
    }))

pub opening_mirrored : (keys : List Key) (p : Past) → Opening keys p → IsMirrored keys p
opening_mirrored keys p opening = record {
  turns = [];
  may = tt;
  image = record {
    places = λ key planned. ap (place_in key) (sym (opening.no_object key planned));
    pairs = ap (filter_map (pair_asked keys)) (sym opening.no_request);
    moved = ap (map (pair_done keys)) (sym opening.no_effect);
  };
}

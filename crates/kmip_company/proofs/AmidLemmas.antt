-- What may be left for a client amid others.
use Rattle.std.proofs.Common.{◌≡◌, ◌<◌, ◌≤◌, ◌*◌, ◌+◌, ◌++◌, ◌∷◌, ◌∙◌, ◌||◌, [], ap, arith, Bool, Err, false, filter}
use Rattle.std.proofs.Common.{if◌then◌else◌, IfSome, length, List, nat_le, not, None, Ok, Option, refl, Result}
use Rattle.std.proofs.Common.{slice_get, Some, subst, suc, sym, true, zero, ℕ}
use Rattle.std.specs.List.{All}
use Rattle.std.specs.Option.{is_none, option_map_or}
use Rattle.std.proofs.lemmas.List.Folds.{list_any-append}
use Rattle.kmip_batch_items.specs.declared.request.Request.{Request}
use Rattle.kmip_client.specs.Asking.{IsAbout, requests_at}
use Rattle.kmip_client.specs.Clients.{changed_at, fresh, lost_working, one_if, verdict_at}
use Rattle.kmip_client.specs.Hearing.{hear}
use Rattle.kmip_client.specs.Held.{Held}
use Rattle.kmip_client.specs.Known.{knowns_heard}
use Rattle.kmip_client.specs.Knowledge.{chain_length}
use Rattle.kmip_client.specs.Places.{position}
use Rattle.kmip_client.specs.declared.hear_fault.HearFault.{HearFault}
use Rattle.kmip_client.specs.declared.heard.Heard.{Heard}
use Rattle.kmip_client.specs.declared.knowledge.Knowledge.{Knowledge}
use Rattle.kmip_client.specs.declared.part.Part.{Part}
use Rattle.kmip_client.specs.declared.question.Question.{Question}
use Rattle.kmip_client.specs.declared.verdict.Verdict.TheVariants.{Finished}
use Rattle.kmip_messages.specs.Batches.{replies_read}
use Rattle.kmip_messages.specs.Items.{requests_in}
use Rattle.kmip_objects.specs.Objects.{Object, object_named}
use Rattle.kmip_objects.specs.declared.step.Step.{Step}
use Rattle.kmip_plan.specs.Chains.{bound, chain, step_at}
use Rattle.kmip_plan.specs.Plans.{IsLawful}
use Rattle.kmip_plan.specs.declared.key.Key.{Key}
use Rattle.kmip_protocol.specs.Clean.{strange_handed}
use Rattle.kmip_protocol.specs.Exchanges.{AreGiven, HandsOver, with_asked, with_exchange, with_requests}
use Rattle.kmip_protocol.specs.Losing.{is_id, is_under_way, left_all, left_of, step_id, was_asked}
use Rattle.kmip_protocol.specs.Moves.{Delivered}
use Rattle.kmip_protocol.specs.Needs.{need_of}
use Rattle.kmip_protocol.specs.Past.{Names, Past, is_planned}
use Rattle.kmip_protocol.specs.Sound.{HarmlessMessage, IsHarmless, Opening, Sound}
use Rattle.kmip_protocol.specs.Turns.{is_unanswered, known_then, lost_each, taught_by}
use Rattle.kmip_company.specs.Amid.{AllMayPass, Arrives, Exchanges, MayPass, OthersAsk, Passing, StandsWell, Standing}
use Rattle.kmip_company.specs.Amid.{after_passing, after_passings, all_cost, left_amid, unasked, unasked_of, went_well}
use Rattle.kmip_company.specs.PrivateLawbook.{Lawbook}
use Rattle.kmip_company.proofs.EventLemmas.{held_read}
use Rattle.kmip_company.proofs.TruthLemmas.{all_harmless, all_justified, held_fresh}

-- ---- what nobody asked

-- one element more, which fewer tests pass
kept_on : {X : Type 0} (f g : X → Bool) (x : X) (xs : List X) (n : ℕ) (a b : Bool) → g x ≡ a → f x ≡ b
    → (g x ≡ true → f x ≡ true) → length (filter g xs) + n ≤ length (filter f xs)
    → length (filter g (x ∷ xs)) + n ≤ length (filter f (x ∷ xs))
kept_on f g x xs n false false is_g is_f so rest = rw (is_g, is_f) rest
kept_on f g x xs n false true is_g is_f so rest = rw (is_g, is_f) (omega (arith, rest))
kept_on f g x xs n true true is_g is_f so rest = rw (is_g, is_f) (omega (arith, rest))
kept_on f g x xs n true false is_g is_f so rest = let both : false ≡ true = sym is_f ∙ so is_g in absurd cc

-- a test that fewer pass keeps fewer
fewer_kept : {X : Type 0} (f g : X → Bool) (xs : List X) → ((x : X) → g x ≡ true → f x ≡ true)
    → length (filter g xs) + 0 ≤ length (filter f xs)
fewer_kept f g [] less = omega arith
fewer_kept f g (x ∷ xs) less = kept_on f g x xs 0 (g x) (f x) refl refl (less x) (fewer_kept f g xs less)

abbrev some_of : {X : Type 0} → X → Option X
some_of x = Some x

same_some : {X : Type 0} (x y : X) → some_of x ≡ some_of y → x ≡ y
same_some x y e = cc

-- and one fewer, where one of the list passes no more
one_fewer_kept : {X : Type 0} (f g : X → Bool) (xs : List X) (place : ℕ) (x : X) → ((y : X) → g y ≡ true → f y ≡ true)
    → slice_get xs place ≡ Some x → f x ≡ true → g x ≡ false
    → length (filter g xs) + 1 ≤ length (filter f xs)
one_fewer_kept f g [] place x less is was now = absurd cc
one_fewer_kept f g (y ∷ xs) zero x less is was now =
    let same = same_some y x is in
    let was : f y ≡ true = ap f same ∙ was in
    let now : g y ≡ false = ap g same ∙ now in
    let rest = fewer_kept f g xs less in
    rw (was, now) (omega (arith, rest))
one_fewer_kept f g (y ∷ xs) (suc place) x less is was now =
    kept_on f g y xs 1 (g y) (f y) refl refl (less y) (one_fewer_kept f g xs place x less is was now)

-- what was asked was asked by more requests too
asked_still : (key : Key) (requests more : List Request) (step : Step)
    → was_asked key (requests ++ more) step ≡ (was_asked key requests step || was_asked key more step)
asked_still key requests more step = list_any-append (is_id (step_id key step)) requests more

still_unasked : (a b : Bool) → not (a || b) ≡ true → not a ≡ true
still_unasked true b is = is
still_unasked false b is = refl

unasked_less : (key : Key) (requests more : List Request) (step : Step)
    → not (was_asked key (requests ++ more) step) ≡ true → not (was_asked key requests step) ≡ true
unasked_less key requests more step is =
    still_unasked (was_asked key requests step) (was_asked key more step)
    (subst (λ b. not b ≡ true) (asked_still key requests more step) is)

unasked_falls : (key : Key) (requests more : List Request) → unasked_of key (requests ++ more) ≤ unasked_of key requests
unasked_falls key requests more =
    let fewer = fewer_kept (λ step. not (was_asked key requests step))
    (λ step. not (was_asked key (requests ++ more) step)) (chain key.target) (unasked_less key requests more) in
    omega (arith, fewer)

pub all_fall : (keys : List Key) (requests more : List Request)
    → unasked keys (requests ++ more) ≤ unasked keys requests
all_fall [] requests more = omega arith
all_fall (key ∷ keys) requests more = omega (arith, unasked_falls key requests more, all_fall keys requests more)

-- ---- others ask

-- where the next step comes under way by it, one step fewer is unasked
way_paid : (key : Key) (requests more : List Request) (place : ℕ) (found : Option Step)
    → slice_get (chain key.target) place ≡ found
    → one_if (option_map_or (was_asked key (requests ++ more)) found false) + unasked_of key (requests ++ more)
    ≤ one_if (option_map_or (was_asked key requests) found false) + unasked_of key requests
way_paid key requests more place None is = omega (arith, unasked_falls key requests more)
way_paid key requests more place (Some step) is =
    by_test (was_asked key requests step) (was_asked key (requests ++ more) step) refl refl where
      falls : unasked_of key (requests ++ more) ≤ unasked_of key requests
      falls = unasked_falls key requests more

      by_test : (a b : Bool) → was_asked key requests step ≡ a → was_asked key (requests ++ more) step ≡ b
          → one_if (was_asked key (requests ++ more) step) + unasked_of key (requests ++ more) ≤ one_if
          (was_asked key requests step) + unasked_of key requests
      by_test true true was now = rw (was, now) (omega (arith, falls))
      by_test true false was now = rw (was, now) (omega (arith, falls))
      by_test false false was now = rw (was, now) (omega (arith, falls))
      by_test false true was now =
          let f : Step → Bool = λ s. not (was_asked key requests s) in
          let g : Step → Bool = λ s. not (was_asked key (requests ++ more) s) in
          let fewer = one_fewer_kept f g (chain key.target) place step (unasked_less key requests more) is (ap not was)
          (ap not now) in
          rw (was, now) (omega (arith, fewer))

next_stands : (key : Key) (place : ℕ) → step_at key.target (place + 1) ≡ slice_get (chain key.target) place
next_stands key place =
    let next : place + 1 ≡ suc place = omega arith in
    ap (λ n. step_at key.target n) next

unless_finished : (finished : Bool) (rest now was now_unasked was_unasked : ℕ) → now + now_unasked ≤ was + was_unasked
    → now_unasked ≤ was_unasked
    → (if finished then 0 else rest + now) + now_unasked ≤ (if finished then 0 else rest + was) + was_unasked
unless_finished true rest now was now_unasked was_unasked paid falls = omega (arith, falls)
unless_finished false rest now was now_unasked was_unasked paid falls = omega (arith, paid)

left_paid_one : (key : Key) (known : Knowledge) (p : Past) (more : List Request)
    → left_of key known (with_requests more p) + unasked_of key (p.requests ++ more) ≤ left_of key known p +
    unasked_of key p.requests
left_paid_one key known p more =
    let at = position key p.objects in
    unless_finished (nat_le (chain_length key) known.done)
    (need_of key known p.objects + one_if (is_none (object_named key.attrs.name p.objects)))
    (one_if (is_under_way key (with_requests more p))) (one_if (is_under_way key p))
    (unasked_of key (p.requests ++ more)) (unasked_of key p.requests)
    (way_paid key p.requests more at (step_at key.target (at + 1)) (sym (next_stands key at)))
    (unasked_falls key p.requests more)

asked_paid : (keys : List Key) (knowns : List Knowledge) (p : Past) (more : List Request)
    → left_all keys knowns (with_requests more p) + unasked keys (p.requests ++ more) ≤ left_all keys knowns p +
    unasked keys p.requests
asked_paid [] knowns p more = omega arith
asked_paid (key ∷ keys) [] p more = let falls = all_fall (key ∷ keys) p.requests more in omega (arith, falls)
asked_paid (key ∷ keys) (known ∷ knowns) p more =
    omega (arith, left_paid_one key known p more, asked_paid keys knowns p more)

-- ---- what is known stays true

held_lost : Lawbook → (objects : List Object) (keys : List Key) (parts : List Part) (knowns : List Knowledge)
    → Held objects keys knowns → Held objects keys (lost_each keys parts knowns)
held_lost l objects keys [] knowns held = held
held_lost l objects keys (part ∷ parts) knowns held =
    held_lost l objects keys parts (changed_at lost_working keys knowns part.key)
    (l.client.lost objects keys knowns part.key held)

held_by : Lawbook → (objects : List Object) (keys : List Key) (parts : List Part) (knowns : List Knowledge)
    (lesson : Result (List (Result Heard HearFault) × List Knowledge) HearFault)
    → Held objects keys knowns → Held objects keys (knowns_heard knowns lesson)
    → Held objects keys (taught_by keys parts knowns lesson)
held_by l objects keys parts knowns (Ok lesson) held heard =
    held_lost l objects keys (filter (is_unanswered lesson.0) parts) lesson.1 heard
held_by l objects keys parts knowns (Err fault) held heard = held_lost l objects keys parts knowns held

held_then : Lawbook → (keys : List Key) (p : Past) (knowns : List Knowledge) (question : Question)
    (answer : Option (List ℕ)) → Sound keys p → IfSome answer (AreGiven p)
    → Held p.objects keys knowns → Held p.objects keys (known_then keys question answer knowns)
held_then l keys p knowns question None sound given held = held_lost l p.objects keys question.parts knowns held
held_then l keys p knowns question (Some bytes) sound given held =
    held_by l p.objects keys question.parts knowns (hear keys knowns bytes) held
    (held_read l keys p.objects knowns bytes (replies_read bytes) refl (l.exchanges.answers keys p bytes sound given)
    held)

-- ---- what passes

given_then : (names : Names) (old new : Past) (sent : List ℕ) (answer : Option (List ℕ))
    → HandsOver names old sent answer new → IfSome answer (AreGiven new)
given_then names old new sent answer handed =
    subst (λ p. IfSome answer (AreGiven p)) (sym handed.is) (same answer handed.given) where
      same : (answer : Option (List ℕ)) → IfSome answer (AreGiven handed.between)
          → IfSome answer (AreGiven (with_exchange sent answer handed.between))
      same None given = tt
      same (Some bytes) given = given

asked_then : Lawbook → (names : Names) (old new : Past) (sent : List ℕ) (answer : Option (List ℕ))
    → HandsOver names old sent answer new
    → new.requests ≡ old.requests ++ requests_in sent
asked_then l names old new sent answer handed =
    ap (λ p. p.requests) handed.is ∙ (l.exchanges.requests_stay names (with_asked sent old) handed.between
    handed.delivered).requests

message_harmless : Lawbook → (keys : List Key) (s : Standing) (places : List ℕ) (question : Question) → IsLawful keys
    → StandsWell keys s → IsAbout keys s.knowns places question
    → HarmlessMessage keys s.past.objects question.bytes
message_harmless l keys s places question lawful well about =
    subst (λ requests. All (IsHarmless keys s.past.objects) requests) (sym about.asks)
    (all_harmless keys s.past.objects (requests_at keys s.knowns places)
    (all_justified l keys s.past.objects s.knowns places lawful well.held about.works))

stands_well : Lawbook → (keys : List Key) (passing : Passing) (s : Standing) → IsLawful keys → StandsWell keys s
    → MayPass keys passing s → StandsWell keys (after_passing keys passing s)
stands_well l keys (OthersAsk requests) s lawful well may =
    record { sound = l.exchanges.asking keys s.past requests well.sound may; held = well.held }
stands_well l keys (Arrives past) s lawful well may = record {
  sound = l.exchanges.deliveries keys s.past past well.sound may;
  held = l.client.known_for_good keys s.knowns s.past.objects past.objects lawful
      (l.exchanges.onward keys s.past past well.sound may) well.held;
}
stands_well l keys (Exchanges is_well places question answer past) s lawful well may =
    let kept = l.exchanges.exchanges keys s.past past question.bytes (Ok answer) well.sound
    (message_harmless l keys s places question lawful well may.0) may.1 in
    let held = l.client.known_for_good keys s.knowns s.past.objects past.objects lawful kept.1 well.held in
    record {
      sound = kept.0;
      held = held_then l keys past s.knowns question answer kept.0
          (given_then (is_planned keys) s.past past question.bytes answer may.1) held;
    }

others_paid : (keys : List Key) (requests : List Request) (s : Standing)
    → left_amid keys (after_passing keys (OthersAsk requests) s) ≤ left_amid keys s
others_paid keys requests s = asked_paid keys s.knowns s.past requests

arrived_paid : Lawbook → (keys : List Key) (past : Past) (s : Standing) → IsLawful keys → StandsWell keys s
    → Delivered (is_planned keys) s.past past
    → left_amid keys (after_passing keys (Arrives past) s) ≤ left_amid keys s
arrived_paid l keys past s lawful well may =
    let late = l.losing.late keys s.past past s.knowns lawful well.sound well.held may in
    let same : unasked keys past.requests ≡ unasked keys s.past.requests = ap (unasked keys)
    (l.exchanges.requests_stay (is_planned keys) s.past past may).requests in
    omega (arith, late, same)

fewer_unasked : Lawbook → (keys : List Key) (question : Question) (answer : Option (List ℕ)) (past : Past)
    (s : Standing) → HandsOver (is_planned keys) s.past question.bytes answer past
    → unasked keys past.requests ≤ unasked keys s.past.requests
fewer_unasked l keys question answer past s handed =
    subst (λ requests. unasked keys requests ≤ unasked keys s.past.requests)
    (sym (asked_then l (is_planned keys) s.past past question.bytes answer handed))
    (all_fall keys s.past.requests (requests_in question.bytes))

well_paid : Lawbook → (keys : List Key) (places : List ℕ) (question : Question) (answer : Option (List ℕ))
    (past : Past) (s : Standing) → IsLawful keys → StandsWell keys s
    → MayPass keys (Exchanges true places question answer past) s
    → 1 + left_amid keys (after_passing keys (Exchanges true places question answer past) s) ≤ left_amid keys s
well_paid l keys places question answer past s lawful well may =
    let nearer = l.losing.clean keys s.past past s.knowns places question answer lawful well.sound well.held may.0
    may.2 in
    let fewer = fewer_unasked l keys question answer past s may.1 in
    let some = may.0.some in
    omega (arith, nearer, fewer, some)

ill_paid : Lawbook → (keys : List Key) (places : List ℕ) (question : Question) (answer : Option (List ℕ))
    (past : Past) (s : Standing) → IsLawful keys → StandsWell keys s
    → MayPass keys (Exchanges false places question answer past) s
    → left_amid keys (after_passing keys (Exchanges false places question answer past) s) ≤ left_amid keys s +
    (2 * length places + strange_handed (is_planned keys) question.bytes answer)
ill_paid l keys places question answer past s lawful well may =
    let costs = l.losing.disturbed keys s.past past s.knowns places question answer lawful well.sound well.held may.0
    may.1 in
    let fewer = fewer_unasked l keys question answer past s may.1 in
    omega (arith, costs, fewer)

pub left_paid : Lawbook → (keys : List Key) (passings : List Passing) (s : Standing) → IsLawful keys
    → StandsWell keys s → AllMayPass keys passings s
    → went_well passings + left_amid keys (after_passings keys passings s) ≤ left_amid keys s + all_cost keys passings
left_paid l keys [] s lawful well may = omega arith
left_paid l keys (OthersAsk requests ∷ passings) s lawful well may =
    let rest = left_paid l keys passings (after_passing keys (OthersAsk requests) s) lawful
    (stands_well l keys (OthersAsk requests) s lawful well may.0) may.1 in
    omega (arith, rest, others_paid keys requests s)
left_paid l keys (Arrives past ∷ passings) s lawful well may =
    let rest = left_paid l keys passings (after_passing keys (Arrives past) s) lawful
    (stands_well l keys (Arrives past) s lawful well may.0) may.1 in
    omega (arith, rest, arrived_paid l keys past s lawful well may.0)
left_paid l keys (Exchanges true places question answer past ∷ passings) s lawful well may =
    let passing = Exchanges true places question answer past in
    let rest = left_paid l keys passings (after_passing keys passing s) lawful
    (stands_well l keys passing s lawful well may.0) may.1 in
    omega (arith, rest, well_paid l keys places question answer past s lawful well may.0)
left_paid l keys (Exchanges false places question answer past ∷ passings) s lawful well may =
    let passing = Exchanges false places question answer past in
    let rest = left_paid l keys passings (after_passing keys passing s) lawful
    (stands_well l keys passing s lawful well may.0) may.1 in
    omega (arith, rest, ill_paid l keys places question answer past s lawful well may.0)

-- ---- from the opening

within_on : {X : Type 0} (f : X → Bool) (x : X) (xs : List X) (b : Bool) → f x ≡ b → length (filter f xs) ≤ length xs
    → length (filter f (x ∷ xs)) ≤ length (x ∷ xs)
within_on f x xs true is rest = rw is (omega (arith, rest))
within_on f x xs false is rest = rw is (omega (arith, rest))

filter_within : {X : Type 0} (f : X → Bool) (xs : List X) → length (filter f xs) ≤ length xs
filter_within f [] = omega arith
filter_within f (x ∷ xs) = within_on f x xs (f x) refl (filter_within f xs)

unasked_within : Lawbook → (keys : List Key) (requests : List Request) → unasked keys requests ≤ bound keys
unasked_within l [] requests = omega arith
unasked_within l (key ∷ keys) requests =
    let one = filter_within (λ step. not (was_asked key requests step)) (chain key.target) in
    let more = unasked_within l keys requests in
    let sums = l.plan.bounds.1 key keys in
    omega (arith, one, more, sums)

pub kept_bounded : Lawbook → (keys : List Key) (p : Past) (passings : List Passing) → IsLawful keys → Opening keys p
    → AllMayPass keys passings (record { knowns = (fresh keys).knowns; past = p })
    → went_well passings ≤ 2 * bound keys + all_cost keys passings
kept_bounded l keys p passings lawful opening may =
    let begun : Standing = record { knowns = (fresh keys).knowns; past = p } in
    let paid = left_paid l keys passings begun lawful
    (record { sound = l.exchanges.begins keys p opening; held = held_fresh p.objects keys }) may in
    let left = l.losing.all_left keys p lawful opening in
    let within = unasked_within l keys p.requests in
    omega (arith, paid, left, within)

-- ---- the end

pub nothing_left : Lawbook → (keys : List Key) (s : Standing) → StandsWell keys s → left_amid keys s ≡ 0
    → (place : ℕ) → place < length keys → verdict_at keys s.knowns place ≡ Finished
nothing_left l keys s well none =
    let needs = l.losing.needs_left keys s.past s.knowns in
    l.settling.needless keys s.past.objects s.knowns well.held (omega (arith, needs, none))

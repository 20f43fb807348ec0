-- A clean exchange: what arrives late beside it adds nothing, and each question of the message that is served leaves
-- one less of its
-- key.
use Rattle.std.proofs.Common.{◌≡◌, ◌≢◌, ◌≤◌, ◌<◌, ℕ, ◌+◌, ◌-◌, Bool, true, false, not, nat_lt, List, [], ◌∷◌, ◌++◌}
use Rattle.std.proofs.Common.{append_assoc, append-nil, length, is_some, Option, Some, None, slice_set, subst, refl}
use Rattle.std.proofs.Common.{sym, ap, ◌∙◌, inl, inr, arith}
use Rattle.std.specs.List.{All, Contains, slice_get}
use Rattle.std.specs.Option.{option_map_or, unwrap_or}
use Rattle.std.proofs.lemmas.Bool.{and_parts, cases_Bool, ltb-true}
use Rattle.std.proofs.lemmas.List.Elements.{All-cons, All-head, All-nil, All-tail, All-contains_itself}
use Rattle.std.proofs.lemmas.List.Elements.{Contains-append_right}
use Rattle.std.proofs.lemmas.Option.{same_Some}
use Rattle.std.proofs.lemmas.Slice.Eq.{bytes_eq-Decides}
use Rattle.kmip_objects.specs.Objects.{Object, object_named}
use Rattle.kmip_objects.specs.declared.step.Step.{Step}
use Rattle.kmip_objects.specs.declared.step.Step.TheVariants.{Create, Activate, Revoke, Destroy}
use Rattle.kmip_messages.specs.Items.{replies_in, stops_in}
use Rattle.kmip_batch_items.specs.Operations.{operation_of}
use Rattle.kmip_batch_items.specs.declared.outcome.Outcome.{Outcome}
use Rattle.kmip_batch_items.specs.declared.outcome.Outcome.TheVariants.{Failed}
use Rattle.kmip_batch_items.specs.declared.reply.Reply.{Reply}
use Rattle.kmip_batch_items.specs.declared.ask.Ask.{Ask}
use Rattle.kmip_batch_items.specs.declared.request.Request.{Request}
use Rattle.kmip_batch_items.specs.declared.standard.TheConstants.{REASON_SERVER_FULL}
use Rattle.kmip_plan.specs.Chains.{step_at, step_place}
use Rattle.kmip_plan.specs.declared.key.Key.{Key}
use Rattle.kmip_plan.specs.Plans.{IsLawful, IsPlanned}
use Rattle.kmip_client.specs.Knowledge.{chain_length}
use Rattle.kmip_client.specs.declared.knowledge.Knowledge.{Knowledge}
use Rattle.kmip_client.specs.declared.phase.Phase.{Phase}
use Rattle.kmip_client.specs.declared.phase.Phase.TheVariants as phases
use Rattle.kmip_client.specs.Held.{Held, IsHeld}
use Rattle.kmip_client.specs.Hearing.{step_of}
use Rattle.kmip_client.specs.Places.{position}
use Rattle.kmip_client.specs.Questions.{ask_about, id_of, next_ask, phase_ask, request_about, step_ask}
use Rattle.kmip_client.specs.declared.question.Question.{Question}
use Rattle.kmip_client.specs.Clients.{WorksAt, one_if}
use Rattle.kmip_client.specs.declared.part.Part.{Part}
use Rattle.kmip_client.specs.Asking.{IsAbout, AreApart, at_places, part_about, requests_at}
use Rattle.kmip_server.specs.ServerStep as rows
use Rattle.kmip_server.specs.ServerStep.{ServerStep}
use Rattle.kmip_protocol.specs.Calm.{AreTaken, IsServed}
use Rattle.kmip_protocol.specs.Clean.{HasRoom, IsClean}
use Rattle.kmip_protocol.specs.Exchanges.{with_asked, with_requests}
use Rattle.kmip_protocol.specs.Moves.{Delivered, Serve, after_move}
use Rattle.kmip_protocol.specs.Past.{Past, is_planned}
use Rattle.kmip_protocol.specs.Headline.{step_of_ask}
use Rattle.kmip_protocol.specs.Sound.{IsHarmless, Sound}
use Rattle.kmip_protocol.specs.PrivateSettlingLawbook.{Lawbook}
use Rattle.kmip_protocol.specs.Losing.{is_id, is_under_way, left_of, left_all, step_id, was_asked}
use Rattle.kmip_protocol.specs.Needs.{need_in, need_of}
use Rattle.kmip_protocol.specs.Turns.{known_then}
use Rattle.kmip_protocol.proofs.ArrivalLemmas.{Arrives, as_it_was, took_effect, delivered_arrives}
use Rattle.kmip_protocol.proofs.AskedLemmas.{ask_is_step, same_parts, step_is_asked}
use Rattle.kmip_protocol.proofs.AskingLemmas.{names_apart, one_justified, other_key, way_same}
use Rattle.kmip_protocol.proofs.SettlingChangeLemmas.{places_same}
use Rattle.kmip_protocol.proofs.LateLemmas.{all_late, held_late}
use Rattle.kmip_protocol.proofs.LeftLemmas.{is_there, left_beside, left_same, left_within, need_least, same_there}
use Rattle.kmip_protocol.proofs.LeftSumLemmas.{exchange_left, numbers, one_less}
use Rattle.kmip_protocol.proofs.NeedLemmas.{go_even, place_in, working_needs}
use Rattle.kmip_protocol.proofs.PhaseLemmas.{IsWorked, IsNearer}
use Rattle.kmip_protocol.proofs.ReadyLemmas.{sound_here}
use Rattle.kmip_protocol.proofs.SumLemmas.{held_at, one_held}
use Rattle.kmip_protocol.proofs.TaughtLemmas.{AreTold, Turn, parts_of, places_of, replies_of, set_each, told_before}
use Rattle.kmip_protocol.proofs.SettlingTurnLemmas.{phase_nearer, MayGoOn, asked_at, asked_first, asks, at_beside}
use Rattle.kmip_protocol.proofs.SettlingTurnLemmas.{fewer_go, first_taken, may_all_go, may_go, then_known, same_part}
use Rattle.kmip_protocol.proofs.SettlingTurnLemmas.{turn_told, works_beside}

-- ---- a step that is not refused for want of room is one of a server with room

roomier : (room : ℕ) (old new : List Object) (ask : Ask) (outcome : Outcome) → ServerStep room old ask outcome new
    → outcome ≢ Failed (Some REASON_SERVER_FULL)
    → ServerStep (length old + 1) old ask outcome new
roomier room old new ask outcome (rows.name_taken h) not_full = rows.name_taken h
roomier room old new ask outcome (rows.full h i) not_full = absurd (not_full refl)
roomier room old new ask outcome (rows.created free roomy uid_free fits) not_full =
    rows.created free (let more : length old < length old + 1 = omega arith in more) uid_free fits
roomier room old new ask outcome rows.searched not_full = rows.searched
roomier room old new ask outcome (rows.told h) not_full = rows.told h
roomier room old new ask outcome (rows.unknown h) not_full = rows.unknown h
roomier room old new ask outcome (rows.compromised h) not_full = rows.compromised h
roomier room old new ask outcome (rows.not_found h i) not_full = rows.not_found h i
roomier room old new ask outcome (rows.wrong_state h i j) not_full = rows.wrong_state h i j
roomier room old new ask outcome (rows.done h i j) not_full = rows.done h i j

-- ---- a key that asks the next step of its object needs the rest of its chain

step_of_step : (key : Key) (uid : List ℕ) (step : Step) → step_of_ask (step_ask key uid step) ≡ Some step
step_of_step key uid Create = refl
step_of_step key uid Activate = refl
step_of_step key uid Revoke = refl
step_of_step key uid Destroy = refl

place_at : (l : Lawbook) (key : Key) (place : ℕ) (step : Step) → step_at key.target (place + 1) ≡ Some step
    → step_place key.target step ≡ place + 1
place_at l key place step is =
    (l.plan.places key.target (place + 1) step (let some : 1 ≤ place + 1 = omega arith in some)).0 is

rest_by : (l : Lawbook) (key : Key) (phase : Phase) (uid : List ℕ) (d p : ℕ) (there : Bool) (step : Step)
    → (there ≡ true → 1 ≤ p)
    → step_of_ask (phase_ask key phase uid d) ≡ Some step → step_at key.target (p + 1) ≡ Some step
    → need_in phase (chain_length key) d there p ≡ chain_length key - p
rest_by l key phases.Look uid d p there step from asks stands = absurd cc
rest_by l key phases.Make uid d p there step from asks stands =
    let first : step_place key.target step ≡ 1 = ap (step_place key.target) (sym (same_Some Create step asks)) in
    let none : p ≡ 0 = omega (arith, first, place_at l key p step stands) in
    by_there there from none where
      by_there : (there : Bool) → (there ≡ true → 1 ≤ p) → p ≡ 0
          → need_in phases.Make (chain_length key) d there p ≡ chain_length key - p
      by_there true from none = absurd (omega (arith, from refl, none))
      by_there false from none = omega (arith, none)
rest_by l key phases.Check uid d p there step from asks stands = absurd cc
rest_by l key phases.Go uid d p there step from asks stands = by_next (step_at key.target (d + 1)) refl asks where
  by_next : (found : Option Step) → step_at key.target (d + 1) ≡ found
      → step_of_ask (next_ask key uid found) ≡ Some step
      → need_in phases.Go (chain_length key) d there p ≡ chain_length key - p
  by_next None is asks = absurd cc
  by_next (Some next) is asks =
      let same : next ≡ step = same_Some next step (sym (step_of_step key uid next) ∙ asks) in
      let one = place_at l key d next is in
      let two = place_at l key p step stands in
      go_even (chain_length key) d p (omega (arith, one, two, ap (step_place key.target) same))

-- the question is that step
is_next_step : (key : Key) (known : Knowledge) (step : Step)
    → is_id (step_id key step) (request_about key known) ≡ true → step_of_ask (ask_about key known) ≡ Some step
is_next_step key known step same =
    let parts = same_parts (operation_of (step_ask key [] step)) (operation_of (ask_about key known)) key.attrs.name
    key.attrs.name
    ((bytes_eq-Decides (step_id key step) (id_of (operation_of (ask_about key known)) key)).0 same) in
    sym (ask_is_step (ask_about key known)) ∙ ap step_of (sym parts.0) ∙ step_is_asked key [] step

-- ---- one question

-- What was served of a key's question.
record IsTurned (keys : List Key) (before served : Past) (key : Key) (known next : Knowledge) : Type 0 where
  pub sound : Sound keys before
  pub sound_after : Sound keys served
  pub planned : IsPlanned keys key
  pub held : IsHeld before.objects key known
  pub held_after : IsHeld served.objects key next
  pub works : known.done < chain_length key
  pub nearer : need_of key next served.objects + 1 ≡ need_of key known before.objects

-- nothing more is under way where the object is as it was
way_as_it_was : (l : Lawbook) (keys : List Key) (before served : Past) (key : Key) (known next : Knowledge)
    (requests : List Request)
    → IsTurned keys before served key known next → requests ≡ request_about key known ∷ []
    → position key served.objects ≡ position key before.objects
    → is_under_way key (record before { requests = before.requests ++ requests }) ≡ is_under_way key before
way_as_it_was l keys before served key known next requests turned one same =
    way_same key before requests (request_about key known) one
    (λ step stands. elim (cases_Bool (is_id (step_id key step) (request_about key known))) [
      | inr other ↦ other
      | inl own ↦
          let p : ℕ = position key before.objects in
          let before_numbers = numbers l keys before key known turned.sound turned.planned turned.held in
          let rest = rest_by l key known.phase (unwrap_or known.identifier []) known.done p (is_there key before) step
          before_numbers.from (is_next_step key known step own) stands in
          let need = working_needs key known known.phase (object_named key.attrs.name before.objects) refl
          turned.works in
          let least = need_least key next served.objects turned.held_after.holds.done_true in
          let nearer = turned.nearer in
          absurd (omega (arith, rest, need, least, nearer, same))
    ])

one_there : (b : Bool) → b ≡ true → one_if (not b) ≡ 0
one_there true is = refl
one_there false is = absurd cc

key_clean : (l : Lawbook) (keys : List Key) (before asked served : Past) (key : Key) (known next : Knowledge)
    (requests : List Request)
    → IsTurned keys before served key known next → requests ≡ request_about key known ∷ []
    → asked ≡ record before { requests = before.requests ++ requests }
    → Arrives key asked served → left_of key next served + 1 ≤ left_of key known before
key_clean l keys before asked served key known next requests turned one is (as_it_was here way) =
    let same : position key served.objects ≡ position key before.objects = here
    ∙ ap (λ (p : Past). position key p.objects) is in
    let now = numbers l keys served key next turned.sound_after turned.planned turned.held_after in
    let was = numbers l keys before key known turned.sound turned.planned turned.held in
    let there = same_there (position key served.objects) (position key before.objects) (is_there key served)
    (is_there key before) same now.from now.none was.from was.none in
    let ways : is_under_way key served ≡ is_under_way key before =
    way ∙ ap (is_under_way key) is ∙ way_as_it_was l keys before served key known next requests turned one same in
    let nearer = turned.nearer in
    omega (
      arith,
      left_within key next served,
      left_beside key known before turned.works,
      ap (λ t. one_if (not t)) there,
      ap one_if ways,
      nearer,
    )
key_clean l keys before asked served key known next requests turned one is (took_effect further way none) =
    let now = numbers l keys served key next turned.sound_after turned.planned turned.held_after in
    let there : is_there key served ≡ true = elim (cases_Bool (is_there key served)) [
      | inl there ↦ there
      | inr missing ↦ absurd (omega (arith, further, now.none missing))
    ] in
    let nearer = turned.nearer in
    omega (
      arith,
      left_within key next served,
      left_beside key known before turned.works,
      one_there (is_there key served) there,
      ap one_if none,
      nearer,
    )

-- What is known after a question that is served, and what is left then.
record IsLess (keys : List Key) (before served : Past) (knowns nexts : List Knowledge) : Type 0 where
  pub sound : Sound keys served
  pub held : Held served.objects keys nexts
  pub less : left_all keys nexts served + 1 ≤ left_all keys knowns before

-- the question about one key that is worked on is served, with room for what it asks
request_less : (l : Lawbook) (keys : List Key) (before served : Past) (knowns : List Knowledge) (place : ℕ)
    (w : WorksAt keys knowns place) (reply : Reply)
    → IsLawful keys → Sound keys before → Held before.objects keys knowns
    → IsServed (request_about w.key w.known) reply (with_requests (request_about w.key w.known ∷ []) before) served
    → HasRoom reply
    → (n : IsNearer w.key w.known reply.outcome before.objects served.objects)
    × IsLess keys before served knowns (slice_set knowns place n.next)
request_less l keys before served knowns place w reply lawful sound held one has_room =
    let key = w.key in
    let known = w.known in
    let request : Request = request_about key known in
    let asked : Past = with_requests (request ∷ []) before in
    let planned = l.plan.found keys place key lawful w.key_is in
    let its = held_at keys knowns place key known before.objects held w.key_is w.known_is in
    let works : known.done < chain_length key = ltb-true known.done (chain_length key)
    (and_parts (nat_lt known.done (chain_length key)) (not (is_some known.clash)) w.works).0 in
    let sound_asked = l.exchanges.asking keys before (request ∷ []) sound
    (All-cons (IsHarmless keys before.objects) request [] (inl (one_justified l keys before knowns place w lawful held))
    (All-nil (IsHarmless keys before.objects))) in
    let delivered : Delivered (is_planned keys) asked served =
    record { moves = Serve request reply one.objects one.joined ∷ []; may = (one.serves, tt); is = one.is } in
    let sound_served = l.exchanges.deliveries keys asked served sound_asked delivered in
    let objects_are : served.objects ≡ one.objects = ap (λ (p : Past). p.objects) one.is in
    let requests_are : served.requests ≡ asked.requests = ap (λ (p : Past). p.requests) one.is in
    let here = sound_here l keys before sound in
    let worked : IsWorked (length before.objects + 1) before.objects key known = record {
      here = λ o is. here key o planned is;
      held = its;
      more = works;
      fits = l.plan.fit keys lawful place key w.key_is;
      roomy = λ none. let more : length before.objects < length before.objects + 1 = omega arith in more;
    } in
    let nearer = subst (IsNearer key known reply.outcome before.objects) (sym objects_are)
    (phase_nearer l (length before.objects + 1) before.objects one.objects key known known.phase reply.outcome refl
    worked
    (roomier before.room before.objects one.objects (ask_about key known) reply.outcome one.serves.step has_room)) in
    let others = places_same l keys place key before.objects served.objects lawful w.key_is here nearer.change in
    let less = key_clean l keys before asked served key known nearer.next (request ∷ [])
    (record {
      sound = sound;
      sound_after = sound_served;
      planned = planned;
      held = its;
      held_after = nearer.held;
      works = works;
      nearer = nearer.nearer;
    })
    refl refl (delivered_arrives l keys asked served key sound_asked planned delivered) in (
      nearer,
      record {
        sound = sound_served;
        held = one_held keys knowns place key nearer.next before.objects served.objects others w.key_is held
            nearer.held;
        less = one_less keys knowns place key known nearer.next before served
            (λ j k kn is at apart.
            let same = others j k apart is in
            let name = names_apart l keys j place k key lawful is w.key_is apart in
            let way : is_under_way k served ≡ is_under_way k before =
            ap (λ found. option_map_or (was_asked k served.requests) (step_at k.target (place_in k found + 1)) false)
            same
            ∙ ap (λ requests. option_map_or (was_asked k requests) (step_at k.target (position k before.objects + 1))
            false) requests_are
            ∙ way_same k before (request ∷ []) request refl (λ step stands. other_key k key known step name) in
            omega (arith, left_same k kn before served same way))
            w.key_is w.known_is less;
      },
    )

-- ---- the questions of a message, in turn

-- The requests behind the first may as well have been asked after it was served.
record GoesFirst (request : Request) (requests : List Request) (reply : Reply) (before between : Past) : Type 0 where
  pub served : Past
  pub one : IsServed request reply (with_requests (request ∷ []) before) served
  pub later : between ≡ with_requests requests served

goes_first : (request : Request) (requests : List Request) (reply : Reply) (before between : Past)
    → IsServed request reply (with_requests (request ∷ requests) before) between
    → GoesFirst request requests reply before between
goes_first request requests reply before between one = record {
  served = after_move (Serve request reply one.objects one.joined) (with_requests (request ∷ []) before);
  one = record {
    objects = one.objects;
    joined = one.joined;
    serves = record {
      asked = Contains-append_right before.requests (request ∷ []) request
          (All-head (Contains (request ∷ [])) request [] (All-contains_itself (request ∷ [])));
      step = one.serves.step;
      operation_is = one.serves.operation_is;
      id_is = one.serves.id_is;
      effects = one.serves.effects;
    };
    is = refl;
  };
  later = one.is ∙ ap (λ rs. record (after_move (Serve request reply one.objects one.joined) before) { requests = rs })
      (sym (append_assoc before.requests (request ∷ []) requests));
}

-- What is known after a clean message, and what is left then.
record AllLess (keys : List Key) (knowns : List Knowledge) (places : List ℕ) (replies : List Reply)
    (before served : Past) : Type 0 where
  pub turns : List Turn
  pub places_are : places_of turns ≡ places
  pub replies_are : replies_of turns ≡ replies
  pub parts_are : parts_of turns ≡ at_places part_about keys knowns places
  pub told : AreTold keys knowns turns
  pub sound : Sound keys served
  pub held : Held served.objects keys (set_each turns knowns)
  pub less : left_all keys (set_each turns knowns) served + length places ≤ left_all keys knowns before

all_less : (l : Lawbook) (keys : List Key) (stops : Bool) (places : List ℕ) (knowns : List Knowledge)
    (replies : List Reply) (before served : Past) → IsLawful keys
    → Sound keys before → Held before.objects keys knowns → All (WorksAt keys knowns) places → AreApart places
    → MayGoOn stops places → All HasRoom replies
    → AreTaken stops (asked_at keys knowns places) replies (with_requests (requests_at keys knowns places) before)
    served → AllLess keys knowns places replies before served
all_less l keys stops [] knowns [] before served lawful sound held works apart on roomy taken =
    let same : served ≡ before = taken ∙ ap (λ rs. record before { requests = rs }) (append-nil before.requests) in
    subst (AllLess keys knowns [] [] before) (sym same) (record {
      turns = [];
      places_are = refl;
      replies_are = refl;
      parts_are = refl;
      told = tt;
      sound = sound;
      held = held;
      less = omega arith;
    })
all_less l keys stops [] knowns (reply ∷ replies) before served lawful sound held works apart on roomy taken =
    absurd taken
all_less l keys stops (place ∷ places) knowns replies before served lawful sound held works apart on roomy taken =
    let w = All-head (WorksAt keys knowns) place places works in
    let request : Request = request_about w.key w.known in
    let behind : List Request = requests_at keys knowns places in
    let first = asked_first keys knowns place places w in
    let (reply, others, between, replies_are, one, rest) =
    first_taken stops request (asked_at keys knowns places) replies (with_requests (request ∷ behind) before) served
    (may_go keys knowns stops place places on)
    (subst (λ rs. AreTaken stops (asks rs) replies (with_requests rs before) served) first.0 taken) in
    let its_room = subst (All HasRoom) replies_are roomy in
    let goes = goes_first request behind reply before between one in
    let (n, less) = request_less l keys before goes.served knowns place w reply lawful sound held goes.one
    (All-head HasRoom reply others its_room) in
    let nexts = slice_set knowns place n.next in
    let same = at_beside (λ place key known. request_about key known) keys knowns place n.next places apart.0 in
    let more = all_less l keys stops places nexts others goes.served served lawful less.sound less.held
    (works_beside keys knowns place n.next places apart.0 (All-tail (WorksAt keys knowns) place places works)) apart.1
    (fewer_go stops place places on)
    (All-tail HasRoom reply others its_room)
    (subst (λ rs. AreTaken stops (asks rs) others (with_requests rs goes.served) served) (sym same)
    (subst (λ p. AreTaken stops (asks behind) others p served) goes.later rest)) in
    let (t, at, replied, asked, was, becomes, tells) =
    turn_told l keys knowns place w reply before.objects goes.served.objects (with_requests (request ∷ []) before)
    goes.served lawful held goes.one n in
    let set_is : slice_set knowns t.place t.next ≡ nexts = ap (λ p. slice_set knowns p t.next) at
    ∙ ap (slice_set knowns place) becomes in
    let beside : All (λ other. other ≢ place) (places_of more.turns) = subst (All (λ other. other ≢ place))
    (sym more.places_are) apart.0 in
    record {
      turns = t ∷ more.turns;
      places_are = ap (λ p. p ∷ places_of more.turns) at ∙ ap (λ ps. place ∷ ps) more.places_are;
      replies_are = ap (λ r. r ∷ replies_of more.turns) replied ∙ ap (λ rs. reply ∷ rs) more.replies_are
          ∙ sym replies_are;
      parts_are = ap (λ (p : Part). p ∷ parts_of more.turns)
          (same_part t.place t.operation place (operation_of (ask_about w.key w.known)) at asked)
          ∙ ap (λ ps. part_about place w.key w.known ∷ ps)
          (more.parts_are ∙ at_beside part_about keys knowns place n.next places apart.0) ∙ sym first.1;
      told = (
        tells,
        ap (slice_get knowns) at ∙ w.known_is ∙ ap Some (sym was),
        told_before keys knowns place n.next more.turns beside more.told,
      );
      sound = more.sound;
      held = subst (λ ks. Held served.objects keys (set_each more.turns ks)) (sym set_is) more.held;
      less =
          let one_less = less.less in
          let rest_less = more.less in
          let is : left_all keys (set_each more.turns (slice_set knowns t.place t.next)) served ≡ left_all keys
          (set_each more.turns nexts) served =
          ap (λ ks. left_all keys (set_each more.turns ks) served) set_is in
          omega (arith, one_less, rest_less, is);
    }

-- ---- the whole exchange

pub clean_leaves : (l : Lawbook) (keys : List Key) (old new : Past) (knowns : List Knowledge) (places : List ℕ)
    (question : Question) (answer : Option (List ℕ))
    → IsLawful keys → Sound keys old → Held old.objects keys knowns → IsAbout keys knowns places question
    → IsClean (is_planned keys) old question.bytes answer new
    → left_all keys (known_then keys question answer knowns) new + length places ≤ left_all keys knowns old
clean_leaves l keys old new knowns places question answer lawful sound held about clean =
    let sound_before = l.exchanges.deliveries keys old clean.before sound clean.early in
    let held_before = held_late l keys old clean.before knowns lawful sound held clean.early in
    let early = all_late l keys old clean.before knowns lawful sound held clean.early in
    let less = all_less l keys (stops_in question.bytes) places knowns (replies_in clean.given) clean.before
    clean.served lawful sound_before held_before about.works
    about.apart (may_all_go (stops_in question.bytes) places about.goes_on) clean.roomy
    (subst (λ rs. AreTaken (stops_in question.bytes) (asked_at keys knowns places) (replies_in clean.given)
    (with_requests rs clean.before) clean.served) about.asks
    (subst (λ parts. AreTaken (stops_in question.bytes) parts (replies_in clean.given)
    (with_asked question.bytes clean.before) clean.served) about.asks_alone clean.taken)) in
    let known_now : known_then keys question answer knowns ≡ set_each less.turns knowns =
    ap (λ a. known_then keys question a knowns) clean.answer_is
    ∙ then_known l keys knowns places question clean.given less.turns less.replies_are
    (less.parts_are ∙ sym about.parts_are) less.places_are about.some about.apart less.told in
    let late = all_late l keys clean.served clean.after (set_each less.turns knowns) lawful less.sound less.held
    clean.late in
    let end : left_all keys (known_then keys question answer knowns) new ≡ left_all keys (set_each less.turns knowns)
    clean.after =
    ap (λ ks. left_all keys ks new) known_now
    ∙ ap (left_all keys (set_each less.turns knowns)) clean.is
    ∙ exchange_left keys (set_each less.turns knowns) question.bytes answer clean.after in
    let fewer = less.less in
    omega (arith, early, fewer, late, end)

-- A message over a calm link: each of its questions is served once, each reply teaches of its key alone, and each of
-- the keys is one
-- exchange nearer to its end.
use Rattle.std.proofs.Common.{◌≡◌, ◌≢◌, ◌≤◌, ◌<◌, ℕ, ◌+◌, Bool, true, false, not, nat_lt, nat_le, List, [], ◌∷◌, length}
use Rattle.std.proofs.Common.{map, is_some, Option, Some, None, Result, Ok, slice_set, subst, refl, sym, ap, ◌∙◌, ◌⊎◌}
use Rattle.std.proofs.Common.{inl, inr, arith}
use Rattle.std.specs.List.{slice_get, All}
use Rattle.std.specs.Option.{unwrap_or}
use Rattle.std.proofs.lemmas.Bool.{and_parts, ltb-true, cases_Bool, leb-false}
use Rattle.std.proofs.lemmas.List.Elements.{All-head, All-tail, All-cons, All-nil}
use Rattle.kmip_objects.specs.Objects.{Object}
use Rattle.kmip_messages.specs.Items.{stops_in, replies_in}
use Rattle.kmip_batch_items.specs.Operations.{operation_of}
use Rattle.kmip_batch_items.specs.declared.outcome.Outcome.{Outcome}
use Rattle.kmip_batch_items.specs.declared.reply.Reply.{Reply}
use Rattle.kmip_batch_items.specs.declared.request.Request.{Request}
use Rattle.kmip_batch_items.specs.declared.refusal.Refusal.{Refusal}
use Rattle.kmip_plan.specs.Chains.{step_at, step_place}
use Rattle.kmip_plan.specs.declared.key.Key.{Key}
use Rattle.kmip_plan.specs.Plans.{IsLawful}
use Rattle.kmip_plan.specs.Prolonging.{Prolongs}
use Rattle.kmip_client.specs.declared.knowledge.Knowledge.{Knowledge}
use Rattle.kmip_client.specs.declared.phase.Phase.{Phase}
use Rattle.kmip_client.specs.declared.phase.Phase.TheVariants as phases
use Rattle.kmip_client.specs.Knowledge.{chain_length, is_working}
use Rattle.kmip_client.specs.declared.question.Question.{Question}
use Rattle.kmip_client.specs.Questions.{phase_ask, next_ask, step_ask, ask_about, request_about}
use Rattle.kmip_client.specs.Shapes.{PhaseSuits}
use Rattle.kmip_client.specs.declared.part.Part.{Part}
use Rattle.kmip_client.specs.Asking.{IsAbout, AreApart, at_places, part_about, requests_at}
use Rattle.kmip_client.specs.Hearing.{hear_all}
use Rattle.kmip_client.specs.Clients.{WorksAt}
use Rattle.kmip_client.specs.Held.{Held}
use Rattle.kmip_server.specs.ServerStep.{ServerStep, step_asked}
use Rattle.kmip_protocol.specs.Calm.{AreTaken, IsServed, Calmly}
use Rattle.kmip_protocol.specs.Exchanges.{with_asked}
use Rattle.kmip_protocol.specs.Past.{Past}
use Rattle.kmip_protocol.specs.Sound.{Sound}
use Rattle.kmip_protocol.specs.PrivateSettlingLawbook.{Lawbook}
use Rattle.kmip_protocol.specs.Needs.{need_all, missing}
use Rattle.kmip_protocol.specs.Ready.{IsReady, AreHere}
use Rattle.kmip_protocol.specs.Turns.{known_then, taught_by}
use Rattle.kmip_protocol.proofs.SettlingChangeLemmas.{here_after, places_same, room_after}
use Rattle.kmip_protocol.proofs.FurtherLemmas.{one_leaves}
use Rattle.kmip_protocol.proofs.HearLemmas.{asked_of, failed_learns, heard_is, heard_from, lost_is}
use Rattle.kmip_protocol.proofs.LeftSumLemmas.{set_elsewhere}
use Rattle.kmip_protocol.proofs.PhaseLemmas.{IsWorked, IsNearer, look_nearer, make_nearer, check_nearer, own_uid}
use Rattle.kmip_protocol.proofs.ReadyLemmas.{sound_here}
use Rattle.kmip_protocol.proofs.StepLemmas.{step_nearer, next_asked}
use Rattle.kmip_protocol.proofs.SumLemmas.{held_at, one_held, one_missing, one_nearer}
use Rattle.kmip_protocol.proofs.TaughtLemmas.{AreTold, Tells, Turn, parts_of, places_of, replies_of, set_each}
use Rattle.kmip_protocol.proofs.TaughtLemmas.{taught_all, told_before}

-- ---- one key, in whichever phase

some_of : (identifier : Option (List ℕ)) → identifier ≢ None → identifier ≡ Some (unwrap_or identifier [])
some_of None some = absurd (some refl)
some_of (Some uid) some = refl

go_nearer : (l : Lawbook) (room : ℕ) (old new : List Object) (key : Key) (known : Knowledge) (uid : List ℕ)
    (outcome : Outcome) → known.phase ≡ phases.Go
    → IsWorked room old key known → known.identifier ≡ Some uid → 1 ≤ known.done
    → ServerStep room old (next_ask key uid (step_at key.target (known.done + 1))) outcome new
    → IsNearer key known outcome old new
go_nearer l room old new key known uid outcome phase_is worked known_is from step =
    let (o, named, same) = own_uid old key known uid worked.held known_is in
    let (next, stands, place) = l.plan.next_step key.target known.done worked.more in
    let later : 1 < step_place key.target next = omega (arith, place, from) in
    step_nearer l room old new key known o next (step_ask key uid next) outcome
    (record {
      worked = worked;
      phase_is = phase_is;
      known_is = known_is ∙ ap (λ u. Some u) (sym same);
      named = named;
      place = place;
      later = later;
    })
    (subst (λ u. step_asked (step_ask key uid next) ≡ Some (next, u)) (sym same)
    (next_asked key uid next later (l.plan.reasons key worked.fits)))
    (subst (λ s. ServerStep room old (next_ask key uid s) outcome new) stands step)

pub phase_nearer : (l : Lawbook) (room : ℕ) (old new : List Object) (key : Key) (known : Knowledge) (phase : Phase)
    (outcome : Outcome) → known.phase ≡ phase
    → IsWorked room old key known → ServerStep room old
    (phase_ask key phase (unwrap_or known.identifier []) known.done) outcome new
    → IsNearer key known outcome old new
phase_nearer l room old new key known phases.Look outcome is worked step =
    look_nearer l room old new key known outcome is worked step
phase_nearer l room old new key known phases.Make outcome is worked step =
    make_nearer l room old new key known outcome is worked step
phase_nearer l room old new key known phases.Check outcome is worked step =
    let suits = subst (λ phase. PhaseSuits phase known.identifier known.done) is worked.held.suits in
    check_nearer l room old new key known (unwrap_or known.identifier []) outcome is worked
    (some_of known.identifier suits) step
phase_nearer l room old new key known phases.Go outcome is worked step =
    let suits = subst (λ phase. PhaseSuits phase known.identifier known.done) is worked.held.suits in
    go_nearer l room old new key known (unwrap_or known.identifier []) outcome is worked
    (some_of known.identifier suits.0) suits.1 step

-- ---- one key of many

is_worked : (l : Lawbook) (keys : List Key) (place room : ℕ) (objects : List Object) (knowns : List Knowledge)
    (key : Key) (known : Knowledge) → IsLawful keys
    → IsReady room keys objects knowns → slice_get keys place ≡ Some key → slice_get knowns place ≡ Some known
    → is_working key known ≡ true
    → IsWorked room objects key known
is_worked l keys place room objects knowns key known lawful ready here there works = record {
  here = λ o is. ready.here key o (l.plan.found keys place key lawful here) is;
  held = held_at keys knowns place key known objects ready.held here there;
  more = ltb-true known.done (chain_length key)
      (and_parts (nat_lt known.done (chain_length key)) (not (is_some known.clash)) works).0;
  fits = l.plan.fit keys lawful place key here;
  roomy = λ none. let one = one_missing keys place key objects here none in let roomy = ready.roomy in omega
      (arith, one, roomy);
}

-- the client is ready still, and needs one exchange less
abbrev GoesNearer : ℕ → List Key → List Object → List Object → List Knowledge → List Knowledge → Type 0
GoesNearer room keys old new knowns nexts =
    IsReady room keys new nexts × (need_all keys nexts new + 1 ≡ need_all keys knowns old)

all_nearer : (l : Lawbook) (keys : List Key) (place room : ℕ) (old new : List Object) (knowns : List Knowledge)
    (key : Key) (known : Knowledge) (outcome : Outcome)
    → IsLawful keys → IsReady room keys old knowns → slice_get keys place ≡ Some key
    → slice_get knowns place ≡ Some known
    → (nearer : IsNearer key known outcome old new)
    → GoesNearer room keys old new knowns (slice_set knowns place nearer.next)
all_nearer l keys place room old new knowns key known outcome lawful ready here there nearer =
    let same = places_same l keys place key old new lawful here ready.here nearer.change in (
      record {
        here = here_after l keys key old new (l.plan.found keys place key lawful here) ready.here nearer.change;
        held = one_held keys knowns place key nearer.next old new same here ready.held nearer.held;
        roomy = room_after l keys place room key old new lawful here ready.here nearer.change ready.roomy;
      },
      one_nearer keys knowns place key known nearer.next old new same here there nearer.nearer,
    )

-- ---- the other keys are asked the same

pub at_beside : {A : Type 0} (f : ℕ → Key → Knowledge → A) (keys : List Key) (knowns : List Knowledge) (place : ℕ)
    (next : Knowledge) (places : List ℕ)
    → All (λ other. other ≢ place) places → at_places f keys (slice_set knowns place next) places ≡ at_places f keys
    knowns places
at_beside f keys knowns place next [] apart = refl
at_beside f keys knowns place next (other ∷ places) apart =
    let differ : place ≢ other = λ e. All-head (λ o. o ≢ place) other places apart (sym e) in
    let same = set_elsewhere knowns place other next differ in
    let rest = at_beside f keys knowns place next places (All-tail (λ o. o ≢ place) other places apart) in
    rw (same, rest) refl

pub works_beside : (keys : List Key) (knowns : List Knowledge) (place : ℕ) (next : Knowledge) (places : List ℕ)
    → All (λ other. other ≢ place) places
    → All (WorksAt keys knowns) places → All (WorksAt keys (slice_set knowns place next)) places
works_beside keys knowns place next [] apart works = All-nil (WorksAt keys (slice_set knowns place next))
works_beside keys knowns place next (other ∷ places) apart works =
    let differ : place ≢ other = λ e. All-head (λ o. o ≢ place) other places apart (sym e) in
    let w = All-head (WorksAt keys knowns) other places works in
    All-cons (WorksAt keys (slice_set knowns place next)) other places
    (record {
      key = w.key;
      known = w.known;
      key_is = w.key_is;
      known_is = set_elsewhere knowns place other next differ ∙ w.known_is;
      works = w.works;
    })
    (works_beside keys knowns place next places (All-tail (λ o. o ≢ place) other places apart)
    (All-tail (WorksAt keys knowns) other places works))

-- ---- one question and its reply

-- it tells what its outcome teaches, of its key alone
pub turn_told : (l : Lawbook) (keys : List Key) (knowns : List Knowledge) (place : ℕ) (w : WorksAt keys knowns place)
    (reply : Reply) (objects news : List Object)
    (old new : Past) → IsLawful keys → Held objects keys knowns → IsServed (request_about w.key w.known) reply old new
    → (n : IsNearer w.key w.known reply.outcome objects news) → (t : Turn) × (t.place ≡ place) × (t.reply ≡ reply)
    × (t.operation ≡ operation_of (ask_about w.key w.known)) × (t.known ≡ w.known) × (t.next ≡ n.next)
    × Tells keys t t.heard
turn_told l keys knowns place w reply objects news old new lawful held served n =
    let operation = operation_of (ask_about w.key w.known) in
    let its = held_at keys knowns place w.key w.known objects held w.key_is w.known_is in
    let asked = asked_of objects w.key (ask_about w.key w.known) (l.client.asks objects w.key w.known its w.works) in
    elim (served.serves.id_is) [
      | inl same ↦ (
        record {
          place = place;
          operation = operation;
          reply = reply;
          known = w.known;
          next = n.next;
          heard = Some
              (heard_from place operation reply.outcome w.known n.next);
        },
        refl,
        refl,
        refl,
        refl,
        refl,
        (
          refl,
          refl,
          λ ks there. heard_is keys ks place operation w.key w.known n.next reply l.plan.distinct lawful
              w.key_is there w.works asked same (told served.serves.operation_is) n.learnt,
        ),
      )
      | inr bare ↦ (
        record { place = place; operation = operation; reply = reply; known = w.known; next = n.next; heard = None },
        refl,
        refl,
        refl,
        refl,
        refl,
        (
          λ ks. rw bare.0 refl,
          λ ks there. lost_is keys ks place w.key w.known w.key_is there w.works
              ∙ ap (slice_set ks place) (failed_learns w.key reply.outcome w.known n.next bare.1 n.learnt),
        ),
      )
    ]
  where
    told : {X Y : Type 0} {Z : Type 0} → X ⊎ (Y × Z) → X ⊎ Y
    told (inl same) = inl same
    told (inr none) = inr none.0

-- ---- all of them in turn

-- What the questions of a message did: a turn each, and the client is as many exchanges nearer to its end.
record AllTurned (keys : List Key) (knowns : List Knowledge) (places : List ℕ) (replies : List Reply)
    (old new : Past) : Type 0 where
  pub turns : List Turn
  pub places_are : places_of turns ≡ places
  pub replies_are : replies_of turns ≡ replies
  pub parts_are : parts_of turns ≡ at_places part_about keys knowns places
  pub told : AreTold keys knowns turns
  pub ready : IsReady new.room keys new.objects (set_each turns knowns)
  pub nearer : need_all keys (set_each turns knowns) new.objects + length places ≡ need_all keys knowns old.objects
  pub leaves_room : (further : List Key) → IsLawful further → Prolongs further keys → AreHere further old.objects
      → length old.objects + missing further old.objects ≤ old.room
      → AreHere further new.objects × (length new.objects + missing further new.objects ≤ new.room)

-- the questions of some keys, as they are read
abbrev pub asks : List Request → List (Result Request Refusal)
asks requests = map Ok requests

abbrev pub asked_at : List Key → List Knowledge → List ℕ → List (Result Request Refusal)
asked_at keys knowns places = asks (requests_at keys knowns places)

-- a failure stops nothing, or nothing stands behind it
abbrev pub MayGoOn : Bool → List ℕ → Type 0
MayGoOn stops places = (stops ≡ false) ⊎ (length places ≤ 1)

-- the first question is served, and then the others are taken
pub first_taken : (stops : Bool) (request : Request) (parts : List (Result Request Refusal)) (replies : List Reply)
    (old new : Past)
    → (stops ≡ false) ⊎ (parts ≡ []) → AreTaken stops (Ok request ∷ parts) replies old new
    → (reply : Reply) × (others : List Reply) × (between : Past) × (replies ≡ reply ∷ others)
    × IsServed request reply old between
    × AreTaken stops parts others between new
first_taken stops request parts [] old new on taken = absurd taken
first_taken stops request parts (reply ∷ others) old new on (between, served, inr (goes, rest)) =
    (reply, others, between, refl, served, rest)
first_taken stops request [] (reply ∷ []) old new on (between, served, inl (stop, none, same)) =
    (reply, [], between, refl, served, same)
first_taken stops request [] (reply ∷ other ∷ others) old new on (between, served, inl (stop, none, same)) = absurd cc
first_taken stops request (part ∷ parts) (reply ∷ others) old new (inl goes) (between, served, inl (stop, none, same)) =
    let t : true ≡ false = sym stop ∙ rw goes refl in absurd cc
first_taken stops request (part ∷ parts) (reply ∷ others) old new (inr end)
    (between, served, inl (stop, none, same)) = absurd cc

none_behind : (keys : List Key) (knowns : List Knowledge) (places : List ℕ) → length places ≤ 0
    → asked_at keys knowns places ≡ []
none_behind keys knowns [] few = refl
none_behind keys knowns (place ∷ places) few = absurd (omega (arith, few))

abbrev pub part : ℕ → ℕ → Part
part place operation = record { key = place; operation = operation }

pub asked_first : (keys : List Key) (knowns : List Knowledge) (place : ℕ) (places : List ℕ)
    (w : WorksAt keys knowns place)
    → (requests_at keys knowns (place ∷ places) ≡ request_about w.key w.known ∷ requests_at keys knowns places)
    × (at_places part_about keys knowns (place ∷ places) ≡ part_about place w.key w.known ∷ at_places part_about keys
    knowns places)
asked_first keys knowns place places w = (rw (w.key_is, w.known_is) refl, rw (w.key_is, w.known_is) refl)

pub same_part : (p o q r : ℕ) → p ≡ q → o ≡ r → part p o ≡ part q r
same_part p o q r one two = rw (one, two) refl

pub may_go : (keys : List Key) (knowns : List Knowledge) (stops : Bool) (place : ℕ) (places : List ℕ)
    → MayGoOn stops (place ∷ places)
    → (stops ≡ false) ⊎ (asked_at keys knowns places ≡ [])
may_go keys knowns stops place places (inl goes) = inl goes
may_go keys knowns stops place places (inr few) = inr (none_behind keys knowns places (omega (arith, few)))

pub fewer_go : (stops : Bool) (place : ℕ) (places : List ℕ) → MayGoOn stops (place ∷ places) → MayGoOn stops places
fewer_go stops place places (inl goes) = inl goes
fewer_go stops place places (inr few) = inr (omega (arith, few))

all_turned : (l : Lawbook) (keys : List Key) (stops : Bool) (places : List ℕ) (knowns : List Knowledge)
    (replies : List Reply) (old new : Past) → IsLawful keys
    → IsReady old.room keys old.objects knowns → All (WorksAt keys knowns) places → AreApart places
    → MayGoOn stops places
    → AreTaken stops (asked_at keys knowns places) replies old new → AllTurned keys knowns places replies old new
all_turned l keys stops [] knowns [] old new lawful ready works apart on taken = record {
  turns = [];
  places_are = refl;
  replies_are = refl;
  parts_are = refl;
  told = tt;
  ready = subst (λ p. IsReady p.room keys p.objects knowns) (sym taken) ready;
  nearer = subst (λ p. need_all keys knowns p.objects + 0 ≡ need_all keys knowns old.objects) (sym taken) (omega arith);
  leaves_room = λ further lawful_too on its roomy.
      subst (λ p. AreHere further p.objects × (length p.objects + missing further p.objects ≤ p.room)) (sym taken)
      (its, roomy);
}
all_turned l keys stops [] knowns (reply ∷ replies) old new lawful ready works apart on taken = absurd taken
all_turned l keys stops (place ∷ places) knowns replies old new lawful ready works apart on taken =
    let w = All-head (WorksAt keys knowns) place places works in
    let first = asked_first keys knowns place places w in
    let behind = may_go keys knowns stops place places on in
    let (reply, others, between, replies_are, served, rest) =
    first_taken stops (request_about w.key w.known) (asked_at keys knowns places) replies old new behind
    (subst (λ rs. AreTaken stops (asks rs) replies old new) first.0 taken) in
    let worked = is_worked l keys place old.room old.objects knowns w.key w.known lawful ready w.key_is w.known_is
    w.works in
    let objects_are : between.objects ≡ served.objects = ap (λ (p : Past). p.objects) served.is in
    let room_is : between.room ≡ old.room = ap (λ (p : Past). p.room) served.is in
    let n = subst (IsNearer w.key w.known reply.outcome old.objects) (sym objects_are)
    (phase_nearer l old.room old.objects served.objects w.key w.known w.known.phase reply.outcome refl worked
    served.serves.step) in
    let goes = all_nearer l keys place old.room old.objects between.objects knowns w.key w.known reply.outcome lawful
    ready w.key_is w.known_is n in
    let nexts = slice_set knowns place n.next in
    let more = all_turned l keys stops places nexts others between new lawful
    (subst (λ room. IsReady room keys between.objects nexts) (sym room_is) goes.0)
    (works_beside keys knowns place n.next places apart.0 (All-tail (WorksAt keys knowns) place places works)) apart.1
    (fewer_go stops place places on)
    (subst (λ rs. AreTaken stops (asks rs) others between new)
    (sym (at_beside (λ place key known. request_about key known) keys knowns place n.next places apart.0)) rest) in
    let (t, at, replied, asked, was, becomes, tells) = turn_told l keys knowns place w reply old.objects
    between.objects old between lawful ready.held served n in
    let set_is : slice_set knowns t.place t.next ≡ nexts = ap (λ p. slice_set knowns p t.next) at
    ∙ ap (slice_set knowns place) becomes in
    let beside : All (λ other. other ≢ place) (places_of more.turns) = subst (All (λ other. other ≢ place))
    (sym more.places_are) apart.0 in
    record {
      turns = t ∷ more.turns;
      places_are = ap (λ p. p ∷ places_of more.turns) at ∙ ap (λ ps. place ∷ ps) more.places_are;
      replies_are = ap (λ r. r ∷ replies_of more.turns) replied ∙ ap (λ rs. reply ∷ rs) more.replies_are
          ∙ sym replies_are;
      parts_are = ap (λ (p : Part). p ∷ parts_of more.turns)
          (same_part t.place t.operation place (operation_of (ask_about w.key w.known)) at asked)
          ∙ ap (λ ps. part_about place w.key w.known ∷ ps)
          (more.parts_are ∙ at_beside part_about keys knowns place n.next places apart.0) ∙ sym first.1;
      told = (
        tells,
        ap (slice_get knowns) at ∙ w.known_is ∙ ap Some (sym was),
        told_before keys knowns place n.next more.turns beside more.told,
      );
      ready = subst (λ ks. IsReady new.room keys new.objects (set_each more.turns ks)) (sym set_is) more.ready;
      nearer =
          let one = goes.1 in
          let rest_nearer = more.nearer in
          let is : need_all keys (set_each more.turns (slice_set knowns t.place t.next)) new.objects ≡ need_all keys
          (set_each more.turns nexts) new.objects =
          ap (λ ks. need_all keys (set_each more.turns ks) new.objects) set_is in
          omega (arith, one, rest_nearer, is);
      leaves_room = λ further lawful_too on its roomy.
          let first_leaves = one_leaves l further keys place w.key old.room old.objects between.objects lawful_too on
          w.key_is its n.change roomy in
          more.leaves_room further lawful_too on first_leaves.0
          (subst (λ room. length between.objects + missing further between.objects ≤ room) (sym room_is)
          first_leaves.1);
    }

-- ---- the whole message

-- the server is asked to go on, or there is one question alone
pub may_all_go : (stops : Bool) (places : List ℕ) → stops ≡ not (nat_le 2 (length places)) → MayGoOn stops places
may_all_go stops places is = elim (cases_Bool (nat_le 2 (length places))) [
  | inl many ↦ inl (is ∙ ap not many)
  | inr few ↦ inr (omega (arith, leb-false 2 (length places) few))
]

-- what is known where each of its questions has a reply
pub then_known : (l : Lawbook) (keys : List Key) (knowns : List Knowledge) (places : List ℕ) (question : Question)
    (given : List ℕ) (turns : List Turn)
    → replies_of turns ≡ replies_in given → parts_of turns ≡ question.parts → places_of turns ≡ places
    → 1 ≤ length places → AreApart places
    → AreTold keys knowns turns → known_then keys question (Some given) knowns ≡ set_each turns knowns
then_known l keys knowns places question given [] replies parts at some apart told =
    absurd (omega (arith, some, ap length at))
then_known l keys knowns places question given (t ∷ ts) replies parts at some apart told =
    let read = l.messages.read given t.reply (replies_of ts) (sym replies) in
    ap (λ r. taught_by keys question.parts knowns (hear_all keys knowns r)) read
    ∙ ap (λ ps. taught_by keys ps knowns (hear_all keys knowns (Ok (replies_of (t ∷ ts))))) (sym parts)
    ∙ taught_all keys (t ∷ ts) knowns (subst AreApart (sym at) apart) told

-- what the questions of a message did, over a calm link
turned_by : (l : Lawbook) (keys : List Key) (old new : Past) (knowns : List Knowledge) (places : List ℕ)
    (question : Question) (answer : Option (List ℕ))
    → IsLawful keys → IsReady old.room keys old.objects knowns → IsAbout keys knowns places question
    → (calmly : Calmly old question.bytes answer new)
    → AllTurned keys knowns places (replies_in calmly.given) (with_asked question.bytes old) calmly.between
turned_by l keys old new knowns places question answer lawful ready about calmly =
    all_turned l keys (stops_in question.bytes) places knowns (replies_in calmly.given)
    (with_asked question.bytes old) calmly.between lawful ready about.works about.apart
    (may_all_go (stops_in question.bytes) places about.goes_on)
    (subst (λ parts. AreTaken (stops_in question.bytes) parts (replies_in calmly.given)
    (with_asked question.bytes old) calmly.between) about.asks_alone calmly.taken)

-- there is room still for what a plan misses that prolongs the client's
pub room_is_left : (l : Lawbook) (further keys : List Key) (old new : Past) (knowns : List Knowledge)
    (places : List ℕ) (question : Question)
    (answer : Option (List ℕ)) → IsLawful keys → IsLawful further → Prolongs further keys → Sound further old
    → IsReady old.room keys old.objects knowns
    → IsAbout keys knowns places question → Calmly old question.bytes answer new
    → length old.objects + missing further old.objects ≤ old.room
    → length new.objects + missing further new.objects ≤ new.room
room_is_left l further keys old new knowns places question answer lawful lawful_too on sound ready about calmly roomy =
    let turned = turned_by l keys old new knowns places question answer lawful ready about calmly in
    subst (λ (p : Past). length p.objects + missing further p.objects ≤ p.room) (sym calmly.is)
    (turned.leaves_room further lawful_too on (sound_here l further old sound) roomy).1

-- the client is ready still, and as many exchanges nearer to its end as keys are asked about
pub turn_nearer : (l : Lawbook) (keys : List Key) (old new : Past) (knowns : List Knowledge) (places : List ℕ)
    (question : Question) (answer : Option (List ℕ))
    → IsLawful keys → IsReady old.room keys old.objects knowns → IsAbout keys knowns places question
    → Calmly old question.bytes answer new
    → IsReady new.room keys new.objects (known_then keys question answer knowns)
    × (need_all keys (known_then keys question answer knowns) new.objects + length places ≡ need_all keys knowns
    old.objects)
turn_nearer l keys old new knowns places question answer lawful ready about calmly =
    let turned = turned_by l keys old new knowns places question answer lawful ready about calmly in
    let objects_are : new.objects ≡ calmly.between.objects = ap (λ (p : Past). p.objects) calmly.is in
    let room_is : new.room ≡ calmly.between.room = ap (λ (p : Past). p.room) calmly.is in
    let known_now = ap (λ a. known_then keys question a knowns) calmly.answer_is
    ∙ then_known l keys knowns places question calmly.given turned.turns turned.replies_are
    (turned.parts_are ∙ sym about.parts_are) turned.places_are
    about.some about.apart turned.told in (
      subst (λ ks. IsReady new.room keys new.objects ks) (sym known_now)
          (subst (λ room. IsReady room keys new.objects (set_each turned.turns knowns)) (sym room_is)
          (subst (λ objects. IsReady calmly.between.room keys objects (set_each turned.turns knowns))
          (sym objects_are) turned.ready)),
      ap (λ ks. need_all keys ks new.objects + length places) known_now
          ∙ ap (λ objects. need_all keys (set_each turned.turns knowns) objects + length places) objects_are
          ∙ turned.nearer,
    )

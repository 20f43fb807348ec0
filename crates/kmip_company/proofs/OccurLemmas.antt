-- What a client does over an honest link may occur in a company.
use Rattle.std.proofs.Common.{◌≡◌, ◌≢◌, ◌++◌, ◌∷◌, ◌∙◌, [], ap, IfSome, List, map, None, Option, refl, slice_get, Some, subst, sym, ℕ}
use Rattle.kmip_batch_items.specs.declared.reply.Reply.{Reply}
use Rattle.kmip_batch_items.specs.declared.request.Request.{Request}
use Rattle.kmip_client.specs.Asking.{IsAbout, after_ask, next_places}
use Rattle.kmip_client.specs.Clients.{ClientState}
use Rattle.kmip_client.specs.Hearing.{hear}
use Rattle.kmip_client.specs.declared.part.Part.{Part}
use Rattle.kmip_client.specs.declared.question.Question.{Question}
use Rattle.kmip_objects.specs.Objects.{Object}
use Rattle.kmip_plan.specs.declared.key.Key.{Key}
use Rattle.kmip_protocol.specs.Amid.{with_talk}
use Rattle.kmip_protocol.specs.Exchanges.{AreGiven, HandsOver, with_asked}
use Rattle.kmip_protocol.specs.Moves.{AllMayHappen, Changes, Comes, MayHappen, Move, Refuse, Serve, Serves, Unanswered, after_move, after_moves}
use Rattle.kmip_protocol.specs.Past.{Names, Past, is_planned}
use Rattle.kmip_protocol.specs.Turns.{taught}
use Rattle.kmip_runs.specs.Turning.{AreExchanged, IsLeft, IsTurned, Turns}
use Rattle.kmip_runs.specs.declared.stop.Stop.{Stop}
use Rattle.kmip_runs.specs.declared.stop.Stop.TheVariants as stops
use Rattle.kmip_server.specs.declared.effect.Effect.{Effect}
use Rattle.kmip_company.specs.Acting.{HasPast, MayBecome, OccursInCompanies, acts, acts_in, acts_then, all_acts, losses, parts_left}
use Rattle.kmip_company.specs.Companies.{AllMayOccur, Asks, Company, Event, Happens, Hears, Loses, MayAskNext, after_event, after_events, with_client}
use Rattle.kmip_company.proofs.ActLemmas.{acts_then_are, after_both, at_found, found_set, open_acts, set_same, set_twice}

-- ---- what was sent and handed over decides nothing

serves_aside : (sent : List (List ℕ)) (handed : List (Option (List ℕ))) (p : Past) (request : Request) (reply : Reply) (objects : List Object) (joined : Option Effect)
    → Serves p request reply objects joined → Serves (with_talk sent handed p) request reply objects joined
serves_aside sent handed p request reply objects joined s =
    record { asked = s.asked; step = s.step; operation_is = s.operation_is; id_is = s.id_is; effects = s.effects }

may_aside : (names : Names) (sent : List (List ℕ)) (handed : List (Option (List ℕ))) (move : Move) (p : Past) → MayHappen names move p
    → MayHappen names move (with_talk sent handed p)
may_aside names sent handed (Serve request reply objects joined) p may = serves_aside sent handed p request reply objects joined may
may_aside names sent handed (Unanswered request reply objects joined) p may = serves_aside sent handed p request reply objects joined may
may_aside names sent handed (Refuse reply) p may = may
may_aside names sent handed (Comes o) p may =
    record { foreign = may.foreign; name_is_free = may.name_is_free; uid_is_free = may.uid_is_free }
may_aside names sent handed (Changes front old new back) p may =
    record { stands = may.stands; was_foreign = may.was_foreign; is_foreign = may.is_foreign; names_differ = may.names_differ; uids_differ = may.uids_differ }

after_aside : (sent : List (List ℕ)) (handed : List (Option (List ℕ))) (move : Move) (p : Past)
    → after_move move (with_talk sent handed p) ≡ with_talk sent handed (after_move move p)
after_aside sent handed (Serve request reply objects joined) p = refl
after_aside sent handed (Unanswered request reply objects joined) p = refl
after_aside sent handed (Refuse reply) p = refl
after_aside sent handed (Comes o) p = refl
after_aside sent handed (Changes front old new back) p = refl

-- ---- what the network and the server do

moves_may : (keys : List Key) (moves : List Move) (w : Company) (sent : List (List ℕ)) (handed : List (Option (List ℕ))) (old : Past)
    → w.past ≡ with_talk sent handed old → AllMayHappen (is_planned keys) moves old → AllMayOccur keys (map Happens moves) w
moves_may keys [] w sent handed old has may = tt
moves_may keys (move ∷ moves) w sent handed old has may = (
  subst (MayHappen (is_planned keys) move) (sym has) (may_aside (is_planned keys) sent handed move old may.0),
  moves_may keys moves (record w { past = after_move move w.past }) sent handed (after_move move old) (ap (after_move move) has ∙ after_aside sent handed move old) may.1,
)

moves_after : (keys : List Key) (moves : List Move) (w : Company) (sent : List (List ℕ)) (handed : List (Option (List ℕ))) (old : Past)
    → w.past ≡ with_talk sent handed old → after_events keys (map Happens moves) w ≡ record w { past = with_talk sent handed (after_moves moves old) }
moves_after keys [] w sent handed old has = ap (λ p. record w { past = p }) has
moves_after keys (move ∷ moves) w sent handed old has =
    moves_after keys moves (record w { past = after_move move w.past }) sent handed (after_move move old) (ap (after_move move) has ∙ after_aside sent handed move old)

-- ---- several events

may_both : (keys : List Key) (first second : List Event) (w : Company) → AllMayOccur keys first w → AllMayOccur keys second (after_events keys first w)
    → AllMayOccur keys (first ++ second) w
may_both keys [] second w one two = two
may_both keys (event ∷ first) second w one two = (one.0, may_both keys first second (after_event keys event w) one.1 two)

acts_both : (first second : List Event) → acts_in (first ++ second) ≡ acts_in first ++ acts_in second
acts_both [] second = refl
acts_both (Happens move ∷ first) second = acts_both first second
acts_both (event ∷ first) second = ap (λ events. event ∷ events) (acts_both first second)

-- no act is among what the network and the server do
moves_aside : (moves : List Move) (events : List Event) → acts_in (map Happens moves ++ events) ≡ acts_in events
moves_aside [] events = refl
moves_aside (move ∷ moves) events = moves_aside moves events

-- ---- what a client does

losses_may : (keys : List Key) (place : ℕ) (parts : List Part) (w : Company) → AllMayOccur keys (losses place parts) w
losses_may keys place [] w = tt
losses_may keys place (part ∷ parts) w = (tt, losses_may keys place parts (after_event keys (Loses place part.key) w))

then_may : (keys : List Key) (place : ℕ) (c : ClientState) (question : Question) (answer : Option (List ℕ)) (w : Company) → IfSome answer (AreGiven w.past)
    → AllMayOccur keys (acts_then place c question answer) w
then_may keys place c question None w given = losses_may keys place question.parts w
then_may keys place c question (Some bytes) w given =
    (given, losses_may keys place (parts_left question.parts (hear c.keys c.knowns bytes)) (after_event keys (Hears place bytes) w))

losses_are : (place : ℕ) (parts : List Part) → acts_in (losses place parts) ≡ losses place parts
losses_are place [] = refl
losses_are place (part ∷ parts) = ap (λ events. Loses place part.key ∷ events) (losses_are place parts)

then_are : (place : ℕ) (c : ClientState) (question : Question) (answer : Option (List ℕ)) → acts_in (acts_then place c question answer) ≡ acts_then place c question answer
then_are place c question None = losses_are place question.parts
then_are place c question (Some bytes) =
    ap (λ events. Hears place bytes ∷ events) (losses_are place (parts_left question.parts (hear c.keys c.knowns bytes)))

-- ---- a turn

turn_may_talk : (keys : List Key) (w : Company) (place : ℕ) (c : ClientState) (question : Question) (answer : Option (List ℕ)) (sent : List (List ℕ)) (handed : List (Option (List ℕ)))
    (before after : Past) → slice_get w.clients place ≡ Some c → w.past ≡ with_talk sent handed before → IsAbout c.keys c.knowns (next_places c) question
    → HandsOver (is_planned keys) before question.bytes answer after
    → MayBecome keys w (acts place c question answer) (with_client place (taught question answer (after_ask c)) (record w { past = with_talk sent handed after }))
turn_may_talk keys w place c question answer sent handed before after is has about hands =
    let asked : Company = with_client place (after_ask c) (record w { past = with_asked question.bytes w.past }) in
    let served : Company = record w { past = with_talk sent handed after } in
    let moves = hands.delivered.moves in
    let happen = map Happens moves in
    let then = acts_then place (after_ask c) question answer in
    let has_asked : asked.past ≡ with_talk sent handed (with_asked question.bytes before) = ap (with_asked question.bytes) has in
    let first : after_event keys (Asks place question) w ≡ asked =
    at_found (slice_get w.clients place) c (λ x. with_client place (after_ask x) (record w { past = with_asked question.bytes w.past })) w is in
    let same : with_talk sent handed (after_moves moves (with_asked question.bytes before)) ≡ with_talk sent handed after =
    ap (with_talk sent handed) (sym hands.delivered.is) ∙ ap (with_talk sent handed) (sym hands.is) in
    let second : after_events keys happen asked ≡ with_client place (after_ask c) served =
    moves_after keys moves asked sent handed (with_asked question.bytes before) has_asked ∙ ap (λ p. record asked { past = p }) same in
    let given : IfSome answer (AreGiven after) = subst (λ p. IfSome answer (AreGiven p)) (sym hands.is) hands.given in
    record {
      events = Asks place question ∷ (happen ++ then);
      may = (
        subst (λ found. MayAskNext found question) (sym is) about,
        subst (AllMayOccur keys (happen ++ then)) (sym first)
            (may_both keys happen then asked (moves_may keys moves asked sent handed (with_asked question.bytes before) has_asked hands.delivered.may)
            (subst (AllMayOccur keys then) (sym second) (then_may keys place (after_ask c) question answer (with_client place (after_ask c) served) given))),
      );
      done_are = ap (λ events. Asks place question ∷ events) (moves_aside moves then ∙ then_are place (after_ask c) question answer);
      after =
          ap (after_events keys (happen ++ then)) first ∙ after_both keys happen then asked ∙ ap (after_events keys then) second
          ∙ acts_then_are keys place (after_ask c) c question answer served is;
    }

pub turn_may : (keys : List Key) (w : Company) (place : ℕ) (c : ClientState) (question : Question) (answer : Option (List ℕ)) (before after : Past)
    → slice_get w.clients place ≡ Some c → HasPast w before → IsAbout c.keys c.knowns (next_places c) question
    → HandsOver (is_planned keys) before question.bytes answer after
    → MayBecome keys w (acts place c question answer) (with_client place (taught question answer (after_ask c)) (record w { past = with_talk w.past.sent w.past.handed after }))
turn_may keys w place c question answer before after is has about hands =
    turn_may_talk keys w place c question answer w.past.sent w.past.handed before after is has about hands

-- ---- a run

run_may_talk : (keys : List Key) (w : Company) (place : ℕ) (old new : ClientState) (questions : List (List ℕ)) (answers : List (Option (List ℕ))) (sent : List (List ℕ))
    (handed : List (Option (List ℕ))) (before after : Past) → slice_get w.clients place ≡ Some old → w.past ≡ with_talk sent handed before
    → Turns questions answers old new → AreExchanged (is_planned keys) questions answers before after
    → MayBecome keys w (all_acts place old answers) (with_client place new (record w { past = with_talk sent handed after }))
run_may_talk keys w place old new [] [] sent handed before after is has turns exchanged =
    let then : Company = record w { past = with_talk sent handed after } in
    record {
      events = [];
      may = tt;
      done_are = refl;
      after =
          ap (λ p. record w { past = p }) (has ∙ ap (with_talk sent handed) (sym exchanged))
          ∙ ap (λ clients. record then { clients = clients }) (sym (set_same w.clients place new (is ∙ ap Some (sym turns))));
    }
run_may_talk keys w place old new [] (answer ∷ answers) sent handed before after is has turns exchanged = absurd turns
run_may_talk keys w place old new (asked ∷ questions) [] sent handed before after is has turns exchanged = absurd turns
run_may_talk keys w place old new (asked ∷ questions) (answer ∷ answers) sent handed before after is has turns exchanged =
    let question = turns.0 in
    let between = exchanged.0 in
    let next = taught question answer (after_ask old) in
    let others = all_acts place next answers in
    let then : Company = with_client place next (record w { past = with_talk sent handed between }) in
    let end : Company = record w { past = with_talk sent handed after } in
    let first =
    turn_may_talk keys w place old question answer sent handed before between is has turns.3
    (subst (λ bytes. HandsOver (is_planned keys) before bytes answer between) (sym turns.2) exchanged.1) in
    let rest =
    run_may_talk keys then place next new questions answers sent handed between after (found_set w.clients place old next is) refl turns.4 exchanged.2 in
    record {
      events = first.events ++ rest.events;
      may = may_both keys first.events rest.events w first.may (subst (AllMayOccur keys rest.events) (sym first.after) rest.may);
      done_are =
          acts_both first.events rest.events ∙ ap (λ events. events ++ acts_in rest.events) first.done_are
          ∙ ap (λ events. acts place old question answer ++ events) rest.done_are ∙ sym (open_acts place old question answer answers turns.1);
      after =
          after_both keys first.events rest.events w ∙ ap (after_events keys rest.events) first.after ∙ rest.after
          ∙ ap (λ clients. record end { clients = clients }) (set_twice w.clients place next new);
    }

pub run_may : (keys : List Key) (w : Company) (place : ℕ) (old new : ClientState) (questions : List (List ℕ)) (answers : List (Option (List ℕ))) (before after : Past)
    → slice_get w.clients place ≡ Some old → HasPast w before → Turns questions answers old new → AreExchanged (is_planned keys) questions answers before after
    → MayBecome keys w (all_acts place old answers) (with_client place new (record w { past = with_talk w.past.sent w.past.handed after }))
run_may keys w place old new questions answers before after is has turns exchanged =
    run_may_talk keys w place old new questions answers w.past.sent w.past.handed before after is has turns exchanged

-- ---- a run of `drive`

pub left_last : (stop : Stop) (last next : ClientState) → stop ≢ stops.NoMemory → IsLeft stop last next → next ≡ last
left_last stops.AllFinished last next memory left = left
left_last stops.Limit last next memory left = left
left_last stops.Conflict last next memory left = left
left_last stops.NoMemory last next memory left = absurd (memory refl)

pub driven_occurs : (honest : Type 0) (stop : Stop) (made : ℕ) (old new : ClientState) (before after : Past) → IsTurned honest stop made old new before after
    → honest → stop ≢ stops.NoMemory → OccursInCompanies old new before after
driven_occurs honest stop made old new before after turned holds memory = record {
  answers = turned.answers;
  occurs = λ w place is has.
      run_may old.keys w place old new turned.questions turned.answers before after is has
      (subst (λ s. Turns turned.questions turned.answers old s) (sym (left_last stop turned.last new memory turned.left)) turned.turns)
      (turned.exchanged holds memory);
}

-- A turn is a list of events, and a run is one.
use Rattle.std.proofs.Common.{◌≡◌, ◌++◌, ◌∷◌, ◌∙◌, [], ap, Err, List, None, Ok, Option, refl, Result, slice_get, slice_set, Some, subst, suc, sym, zero, ℕ}
use Rattle.std.specs.List.{All}
use Rattle.std.specs.Option.{option_map_or}
use Rattle.std.proofs.lemmas.List.Elements.{All-append, All-cons, All-nil}
use Rattle.kmip_client.specs.Asking.{after_ask, next_question}
use Rattle.kmip_client.specs.Clients.{ClientState, lost_at}
use Rattle.kmip_client.specs.Hearing.{hear}
use Rattle.kmip_client.specs.Known.{heard, knowns_heard}
use Rattle.kmip_client.specs.declared.hear_fault.HearFault.{HearFault}
use Rattle.kmip_client.specs.declared.heard.Heard.{Heard}
use Rattle.kmip_client.specs.declared.knowledge.Knowledge.{Knowledge}
use Rattle.kmip_client.specs.declared.part.Part.{Part}
use Rattle.kmip_client.specs.declared.question.Question.{Question}
use Rattle.kmip_plan.specs.declared.key.Key.{Key}
use Rattle.kmip_protocol.specs.Exchanges.{with_asked}
use Rattle.kmip_protocol.specs.Turns.{lost_each, taught, taught_by}
use Rattle.kmip_runs.specs.Turning.{Turns}
use Rattle.kmip_company.specs.Acting.{IsActAt, IsAsked, IsHeard, IsLost, acts, acts_then, all_acts, asked_in, losses, parts_left}
use Rattle.kmip_company.specs.Companies.{Asks, Company, Event, Hears, Loses, after_event, after_events, if_there, with_client}

-- ---- who stands at a place

pub found_set : {X : Type 0} (xs : List X) (place : ℕ) (x y : X) → slice_get xs place ≡ Some x → slice_get (slice_set xs place y) place ≡ Some y
found_set [] place x y is = absurd cc
found_set (z ∷ xs) zero x y is = refl
found_set (z ∷ xs) (suc place) x y is = found_set xs place x y is

pub set_twice : {X : Type 0} (xs : List X) (place : ℕ) (x y : X) → slice_set (slice_set xs place x) place y ≡ slice_set xs place y
set_twice [] place x y = refl
set_twice (z ∷ xs) zero x y = refl
set_twice (z ∷ xs) (suc place) x y = ap (λ rest. z ∷ rest) (set_twice xs place x y)

abbrev some_of : {X : Type 0} → X → Option X
some_of x = Some x

same_some : {X : Type 0} (x y : X) → some_of x ≡ some_of y → x ≡ y
same_some x y e = cc

pub set_same : {X : Type 0} (xs : List X) (place : ℕ) (x : X) → slice_get xs place ≡ Some x → slice_set xs place x ≡ xs
set_same [] place x is = absurd cc
set_same (z ∷ xs) zero x is = ap (λ y. y ∷ xs) (sym (same_some z x is))
set_same (z ∷ xs) (suc place) x is = ap (λ rest. z ∷ rest) (set_same xs place x is)

client_twice : (w : Company) (place : ℕ) (x y : ClientState) → with_client place y (with_client place x w) ≡ with_client place y w
client_twice w place x y = ap (λ clients. record w { clients = clients }) (set_twice w.clients place x y)

pub at_found : (found : Option ClientState) (c : ClientState) (f : ClientState → Company) (w : Company) → found ≡ Some c → if_there found f w ≡ f c
at_found found c f w is = ap (λ x. if_there x f w) is

pub after_both : (keys : List Key) (first second : List Event) (w : Company) → after_events keys (first ++ second) w ≡ after_events keys second (after_events keys first w)
after_both keys [] second w = refl
after_both keys (event ∷ first) second w = after_both keys first second (after_event keys event w)

-- ---- a turn

lost_all : (keys : List Key) (place : ℕ) (parts : List Part) (c d : ClientState) (w : Company) → slice_get w.clients place ≡ Some d
    → after_events keys (losses place parts) (with_client place c w) ≡ with_client place (record c { knowns = lost_each c.keys parts c.knowns }) w
lost_all keys place [] c d w is = refl
lost_all keys place (part ∷ parts) c d w is =
    let now = with_client place c w in
    let one : after_event keys (Loses place part.key) now ≡ with_client place (lost_at c part.key) w =
    at_found (slice_get now.clients place) c (λ x. with_client place (lost_at x part.key) now) now (found_set w.clients place d c is)
    ∙ client_twice w place c (lost_at c part.key) in
    ap (λ v. after_events keys (losses place parts) v) one ∙ lost_all keys place parts (lost_at c part.key) d w is

heard_then : (keys : List Key) (parts : List Part) (knowns : List Knowledge) (lesson : Result (List (Result Heard HearFault) × List Knowledge) HearFault)
    → lost_each keys (parts_left parts lesson) (knowns_heard knowns lesson) ≡ taught_by keys parts knowns lesson
heard_then keys parts knowns (Ok lesson) = refl
heard_then keys parts knowns (Err fault) = refl

pub acts_then_are : (keys : List Key) (place : ℕ) (c d : ClientState) (question : Question) (answer : Option (List ℕ)) (w : Company) → slice_get w.clients place ≡ Some d
    → after_events keys (acts_then place c question answer) (with_client place c w) ≡ with_client place (taught question answer c) w
acts_then_are keys place c d question None w is = lost_all keys place question.parts c d w is
acts_then_are keys place c d question (Some bytes) w is =
    let now = with_client place c w in
    let lesson = hear c.keys c.knowns bytes in
    let told : ClientState = record c { knowns = heard c.keys c.knowns (Some bytes) } in
    let one : after_event keys (Hears place bytes) now ≡ with_client place told w =
    at_found (slice_get now.clients place) c (λ x. with_client place (record x { knowns = heard x.keys x.knowns (Some bytes) }) now) now (found_set w.clients place d c is)
    ∙ client_twice w place c told in
    ap (λ v. after_events keys (losses place (parts_left question.parts lesson)) v) one
    ∙ lost_all keys place (parts_left question.parts lesson) told d w is
    ∙ ap (λ knowns. with_client place (record c { knowns = knowns }) w) (heard_then c.keys question.parts c.knowns lesson)

pub turn_acts : (keys : List Key) (w : Company) (place : ℕ) (c : ClientState) (question : Question) (answer : Option (List ℕ)) → slice_get w.clients place ≡ Some c
    → after_events keys (acts place c question answer) w
    ≡ with_client place (taught question answer (after_ask c)) (record w { past = with_asked question.bytes w.past })
turn_acts keys w place c question answer is =
    let asked : Company = record w { past = with_asked question.bytes w.past } in
    ap (λ v. after_events keys (acts_then place (after_ask c) question answer) v)
    (at_found (slice_get w.clients place) c (λ x. with_client place (after_ask x) asked) w is)
    ∙ acts_then_are keys place (after_ask c) c question answer asked is

-- ---- a run

all_lost : (place : ℕ) (parts : List Part) → All (IsActAt place) (losses place parts)
all_lost place [] = All-nil (IsActAt place)
all_lost place (part ∷ parts) = All-cons (IsActAt place) (Loses place part.key) (losses place parts) (IsLost part.key) (all_lost place parts)

all_then : (place : ℕ) (c : ClientState) (question : Question) (answer : Option (List ℕ)) → All (IsActAt place) (acts_then place c question answer)
all_then place c question None = all_lost place question.parts
all_then place c question (Some bytes) =
    let left = parts_left question.parts (hear c.keys c.knowns bytes) in
    All-cons (IsActAt place) (Hears place bytes) (losses place left) (IsHeard bytes) (all_lost place left)

pub open_acts : (place : ℕ) (c : ClientState) (question : Question) (answer : Option (List ℕ)) (answers : List (Option (List ℕ))) → next_question c ≡ Some question
    → all_acts place c (answer ∷ answers) ≡ acts place c question answer ++ all_acts place (taught question answer (after_ask c)) answers
open_acts place c question answer answers is =
    ap (λ found. option_map_or (λ q. acts place c q answer ++ all_acts place (taught q answer (after_ask c)) answers) found []) is

asked_nowhere : (place : ℕ) (parts : List Part) (events : List Event) → asked_in (losses place parts ++ events) ≡ asked_in events
asked_nowhere place [] events = refl
asked_nowhere place (part ∷ parts) events = asked_nowhere place parts events

asked_then : (place : ℕ) (c : ClientState) (question : Question) (answer : Option (List ℕ)) (events : List Event)
    → asked_in (acts_then place c question answer ++ events) ≡ asked_in events
asked_then place c question None events = asked_nowhere place question.parts events
asked_then place c question (Some bytes) events = asked_nowhere place (parts_left question.parts (hear c.keys c.knowns bytes)) events

pub run_acts : (keys : List Key) (w : Company) (place : ℕ) (old new : ClientState) (questions : List (List ℕ)) (answers : List (Option (List ℕ)))
    → slice_get w.clients place ≡ Some old → Turns questions answers old new
    → All (IsActAt place) (all_acts place old answers) × (asked_in (all_acts place old answers) ≡ questions)
    × ((after_events keys (all_acts place old answers) w).clients ≡ slice_set w.clients place new)
run_acts keys w place old new [] [] is turns =
    (All-nil (IsActAt place), refl, sym (set_same w.clients place new (is ∙ ap Some (sym turns))))
run_acts keys w place old new [] (answer ∷ answers) is turns = absurd turns
run_acts keys w place old new (sent ∷ questions) [] is turns = absurd turns
run_acts keys w place old new (sent ∷ questions) (answer ∷ answers) is turns =
    let question = turns.0 in
    let next = taught question answer (after_ask old) in
    let asked : Company = record w { past = with_asked question.bytes w.past } in
    let then = with_client place next asked in
    let first = acts place old question answer in
    let others = all_acts place next answers in
    let rest = run_acts keys then place next new questions answers (found_set w.clients place old next is) turns.4 in
    let opened : all_acts place old (answer ∷ answers) ≡ first ++ others = open_acts place old question answer answers turns.1 in (
      subst (All (IsActAt place)) (sym opened)
          (All-append (IsActAt place) first others
          (All-cons (IsActAt place) (Asks place question) (acts_then place (after_ask old) question answer) (IsAsked question) (all_then place (after_ask old) question answer))
          rest.0),
      ap asked_in opened ∙ ap (λ messages. question.bytes ∷ messages) (asked_then place (after_ask old) question answer others) ∙ ap (λ bytes. bytes ∷ asked_in others) turns.2
          ∙ ap (λ messages. sent ∷ messages) rest.1,
      ap (λ events. (after_events keys events w).clients) opened
          ∙ ap (λ v. v.clients) (after_both keys first others w)
          ∙ ap (λ v. (after_events keys others v).clients) (turn_acts keys w place old question answer is)
          ∙ rest.2
          ∙ set_twice w.clients place next new,
    )

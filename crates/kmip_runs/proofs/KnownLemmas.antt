-- What exchanges ask and teach, one after the other.
use Rattle.std.proofs.Common.{◌≡◌, ◌≤◌, arith, ℕ, ◌+◌, List, [], ◌∷◌, ◌++◌, length, Option, Some, None, IsSome, Result}
use Rattle.std.proofs.Common.{Ok, Err, OnErr, OnOk, sym, ap, subst, refl, ◌∙◌, flat_map, append_assoc, append-nil, inl}
use Rattle.std.proofs.Common.{inr}
use Rattle.std.specs.List.{All}
use Rattle.std.proofs.lemmas.List.Elements.{All-append, All-cons, All-head, All-nil, All-tail}
use Rattle.std.proofs.lemmas.List.{length-append}
use Rattle.std.proofs.lemmas.List.Concat.{flat_map-append}
use Rattle.kmip_messages.specs.Items.{requests_in}
use Rattle.kmip_plan.specs.declared.key.Key.{Key}
use Rattle.kmip_batch_items.specs.Operations.{operation_of}
use Rattle.kmip_batch_items.specs.declared.request.Request.{Request}
use Rattle.kmip_plan.specs.Laws.{KeysAreFound}
use Rattle.kmip_plan.specs.Plans.{IsLawful}
use Rattle.kmip_client.specs.Asking.{IsAbout, at_place, requests_at}
use Rattle.kmip_client.specs.Clients.{ClientState, WorksAt}
use Rattle.kmip_client.specs.Questions.{ask_about, request_about}
use Rattle.kmip_protocol.specs.Laws.{SoundIsJustified}
use Rattle.kmip_protocol.specs.Sound.{AreJustified, IsOfPlan, Sound}
use Rattle.kmip_client.specs.Laws.{HearingIsBlind, LossesTeachNothing}
use Rattle.kmip_client.specs.declared.knowledge.Knowledge.{Knowledge}
use Rattle.kmip_client.specs.declared.question.Question.{Question}
use Rattle.kmip_protocol.specs.Exchanges.{Exchanged, HandsOver, with_asked}
use Rattle.kmip_protocol.specs.Moves.{Delivered, Move, after_move, after_moves}
use Rattle.kmip_protocol.specs.Past.{Names, Past}
use Rattle.kmip_protocol.specs.declared.link_fault.LinkFault.{LinkFault}
use Rattle.kmip_protocol.specs.declared.link_fault.LinkFault.TheVariants.{Io, Frame, NoMemory}
use Rattle.kmip_runs.specs.Driving.{IsQuestion, IsUnheard, IsUnmade, Learnt, LearntUntil, TakesNothingBack}
use Rattle.kmip_runs.specs.Private.{IsToBePut}
use Rattle.kmip_client.specs.Known.{facts, heard, known_after}
use Rattle.kmip_protocol.specs.Losses.{or_loss}
use Rattle.kmip_protocol.specs.Turns.{taught}
use Rattle.kmip_runs.proofs.FactLemmas.{known_blind, taught_facts}

-- ---- several exchanges

known_append : (keys : List Key) (knowns : List Knowledge) (xs ys : List (Option (List ℕ)))
    → known_after keys knowns (xs ++ ys) ≡ known_after keys (known_after keys knowns xs) ys
known_append keys knowns [] ys = refl
known_append keys knowns (x ∷ xs) ys = known_append keys (heard keys knowns x) xs ys

pub learnt_nothing : (keys : List Key) (most : ℕ) (p : Past) (knowns : List Knowledge)
    → Learnt keys most p p knowns knowns 0
learnt_nothing keys most p knowns = record {
  questions = [];
  answers = [];
  sent_are = sym (append-nil p.sent);
  handed_are = sym (append-nil p.handed);
  requests_are = sym (append-nil p.requests);
  as_many_questions = refl;
  as_many_answers = refl;
  each = All-nil (IsQuestion keys most);
  known_is = refl;
}

pub joined : {A : Type 0} (old between new xs ys : List A) → between ≡ old ++ xs → new ≡ between ++ ys
    → new ≡ old ++ (xs ++ ys)
joined old between new xs ys first second = second ∙ ap (λ zs. zs ++ ys) first ∙ append_assoc old xs ys

as_many : {A : Type 0} (xs ys : List A) (m n : ℕ) → length xs ≡ m → length ys ≡ n → length (xs ++ ys) ≡ m + n
as_many xs ys m n first second = length-append xs ys ∙ ap (λ k. k + length ys) first ∙ ap (λ k. m + k) second

pub learnt_then : HearingIsBlind
    → (keys : List Key) (most : ℕ) (old between new : Past) (knowns known nexts : List Knowledge) (m n : ℕ)
    → Learnt keys most old between knowns known m
    → Learnt keys most between new known nexts n → Learnt keys most old new knowns nexts (m + n)
learnt_then blind keys most old between new knowns known nexts m n a b = record {
  questions = a.questions ++ b.questions;
  answers = a.answers ++ b.answers;
  sent_are = joined old.sent between.sent new.sent a.questions b.questions a.sent_are b.sent_are;
  handed_are = joined old.handed between.handed new.handed a.answers b.answers a.handed_are b.handed_are;
  requests_are =
      joined old.requests between.requests new.requests (flat_map requests_in a.questions)
      (flat_map requests_in b.questions) a.requests_are b.requests_are
      ∙ ap (λ rs. old.requests ++ rs) (sym (flat_map-append requests_in a.questions b.questions));
  as_many_questions = as_many a.questions b.questions m n a.as_many_questions b.as_many_questions;
  as_many_answers = as_many a.answers b.answers m n a.as_many_answers b.as_many_answers;
  each = All-append (IsQuestion keys most) a.questions b.questions a.each b.each;
  known_is =
      b.known_is ∙ known_blind blind keys known (known_after keys knowns a.answers) b.answers a.known_is
      ∙ ap facts (sym (known_append keys knowns a.answers b.answers));
}

-- ---- one exchange

-- deliveries add nothing to what was asked, sent and handed over
pub record Stays (old new : Past) : Type 0 where
  pub requests_stay : new.requests ≡ old.requests
  pub sent_stays : new.sent ≡ old.sent
  pub handed_stays : new.handed ≡ old.handed

move_stays : (move : Move) (p : Past) → Stays p (after_move move p)
move_stays (Move.Serve request reply objects effect) p =
    record { requests_stay = refl; sent_stays = refl; handed_stays = refl }
move_stays (Move.Unanswered request reply objects effect) p =
    record { requests_stay = refl; sent_stays = refl; handed_stays = refl }
move_stays (Move.Refuse reply) p = record { requests_stay = refl; sent_stays = refl; handed_stays = refl }
move_stays (Move.Comes o) p = record { requests_stay = refl; sent_stays = refl; handed_stays = refl }
move_stays (Move.Changes front old new back) p = record { requests_stay = refl; sent_stays = refl; handed_stays = refl }

pub stays_itself : (p : Past) → Stays p p
stays_itself p = record { requests_stay = refl; sent_stays = refl; handed_stays = refl }

moves_stay : (moves : List Move) (p : Past) → Stays p (after_moves moves p)
moves_stay [] p = stays_itself p
moves_stay (move ∷ moves) p =
    let first = move_stays move p in
    let rest = moves_stay moves (after_move move p) in
    record {
      requests_stay = rest.requests_stay ∙ first.requests_stay;
      sent_stays = rest.sent_stays ∙ first.sent_stays;
      handed_stays = rest.handed_stays ∙ first.handed_stays;
    }

pub delivered_stays : (names : Names) (old new : Past) → Delivered names old new → Stays old new
delivered_stays names old new d = subst (λ p. Stays old p) (sym d.is) (moves_stay d.moves old)

some_answer : (x y : Option (List ℕ)) → Some x ≡ Some y → x ≡ y
some_answer x y is = cc

-- where an exchange has an answer or a loss, it handed that over
pub handed_over : (names : Names) (old new : Past) (sent : List ℕ) (answered : Result (Option (List ℕ)) LinkFault)
    (answer : Option (List ℕ))
    → or_loss answered ≡ Some answer → Exchanged names old sent answered new → HandsOver names old sent answer new
handed_over names old new sent (Ok own) answer is done =
    subst (λ a. HandsOver names old sent a new) (some_answer own answer is) done
handed_over names old new sent (Err Io) answer is done =
    subst (λ a. HandsOver names old sent a new) (some_answer None answer is) done
handed_over names old new sent (Err Frame) answer is done =
    subst (λ a. HandsOver names old sent a new) (some_answer None answer is) done
handed_over names old new sent (Err NoMemory) answer is done = absurd cc

pub handed_asks : (names : Names) (old new : Past) (sent : List ℕ) (answer : Option (List ℕ))
    → HandsOver names old sent answer new
    → (new.sent ≡ old.sent ++ sent ∷ []) × (new.handed ≡ old.handed ++ answer ∷ []) ×
    (new.requests ≡ old.requests ++ requests_in sent)
handed_asks names old new sent answer hands =
    let stays = delivered_stays names (with_asked sent old) hands.between hands.delivered in (
      ap (λ (p : Past). p.sent) hands.is ∙ ap (λ ss. ss ++ sent ∷ []) stays.sent_stays,
      ap (λ (p : Past). p.handed) hands.is ∙ ap (λ hs. hs ++ answer ∷ []) stays.handed_stays,
      ap (λ (p : Past). p.requests) hands.is ∙ stays.requests_stay,
    )

asked_one : (c : ClientState) (places : List ℕ) (question : Question) → IsAbout c.keys c.knowns places question
    → length places ≤ c.batch
    → IsQuestion c.keys c.batch question.bytes
asked_one c places question about few = record {
  knowns = c.knowns;
  places = places;
  some = about.some;
  few = few;
  works = about.works;
  apart = about.apart;
  written = about.written;
}

pub learnt_one : LossesTeachNothing → (names : Names) (c next : ClientState) (old new : Past) (question : Question)
    (answer : Option (List ℕ)) → IsToBePut c question
    → HandsOver names old question.bytes answer new → next ≡ taught question answer c
    → Learnt c.keys c.batch old new c.knowns next.knowns 1
learnt_one lost names c next old new question answer put hands is =
    let asks = handed_asks names old new question.bytes answer hands in
    record {
      questions = question.bytes ∷ [];
      answers = answer ∷ [];
      sent_are = asks.0;
      handed_are = asks.1;
      requests_are = asks.2 ∙ ap (λ rs. old.requests ++ rs) (sym (append-nil (requests_in question.bytes)));
      as_many_questions = refl;
      as_many_answers = refl;
      each = All-cons (IsQuestion c.keys c.batch) question.bytes [] (asked_one c put.places question put.about put.few)
          (All-nil (IsQuestion c.keys c.batch));
      known_is = ap (λ (s : ClientState). facts s.knowns) is ∙ taught_facts lost c.keys question answer c.knowns;
    }

-- what is neither asked, sent nor handed over, and teaches no fact, changes nothing of it
pub learnt_still : (keys : List Key) (most : ℕ) (old between new : Past) (knowns known next : List Knowledge)
    (exchanges : ℕ) → Learnt keys most old between knowns known exchanges
    → Stays between new → facts next ≡ facts known → Learnt keys most old new knowns next exchanges
learnt_still keys most old between new knowns known next exchanges learnt stays same = record {
  questions = learnt.questions;
  answers = learnt.answers;
  sent_are = stays.sent_stays ∙ learnt.sent_are;
  handed_are = stays.handed_stays ∙ learnt.handed_are;
  requests_are = stays.requests_stay ∙ learnt.requests_are;
  as_many_questions = learnt.as_many_questions;
  as_many_answers = learnt.as_many_answers;
  each = learnt.each;
  known_is = same ∙ learnt.known_is;
}

pub on_ok : {V E P Q : Type 0} (r : Result V E) → (P → Q) → OnOk r P → OnOk r Q
on_ok (Ok v) to holds = to holds
on_ok (Err fault) to holds = tt

pub on_err : {V E P Q : Type 0} (r : Result V E) → (P → Q) → OnErr r P → OnErr r Q
on_err (Ok v) to holds = tt
on_err (Err fault) to holds = to holds

pub always_err : {V E P : Type 0} (r : Result V E) → P → OnErr r P
always_err (Ok v) holds = tt
always_err (Err fault) holds = holds

-- ---- an exchange that broke off

pub lost_facts : LossesTeachNothing → (c next : ClientState) (question : Question) → next ≡ taught question None c
    → facts next.knowns ≡ facts c.knowns
lost_facts lost c next question is = ap (λ (s : ClientState). facts s.knowns) is
    ∙ taught_facts lost c.keys question None c.knowns

pub broken_nowhere : (keys : List Key) (most : ℕ) (p : Past) → IsUnmade keys most p p
broken_nowhere keys most p = record { asked = inl refl; sent_stays = refl; handed_stays = refl }

-- before it came to its end
pub broken_asked : (names : Names) (c : ClientState) (old new : Past) (question : Question)
    (answered : Result (Option (List ℕ)) LinkFault)
    → IsToBePut c question → or_loss answered ≡ None → Exchanged names old question.bytes answered new
    → IsUnmade c.keys c.batch old new
broken_asked names c old new question (Ok answer) put none done = absurd cc
broken_asked names c old new question (Err Io) put none done = absurd cc
broken_asked names c old new question (Err Frame) put none done = absurd cc
broken_asked names c old new question (Err NoMemory) put none done = elim done [
  | inl before ↦
      let stays = delivered_stays names old new before in
      record { asked = inl stays.requests_stay; sent_stays = stays.sent_stays; handed_stays = stays.handed_stays }
  | inr after ↦
      let stays = delivered_stays names (with_asked question.bytes old) new after in
      record {
        asked = inr (record {
          question = question.bytes;
          is_question = asked_one c put.places question put.about put.few;
          requests_are = stays.requests_stay;
        });
        sent_stays = stays.sent_stays;
        handed_stays = stays.handed_stays;
      }
]

-- and behind it
pub broken_handed : (names : Names) (c : ClientState) (old new : Past) (question : Question) (answer : Option (List ℕ))
    → IsToBePut c question → IsSome answer
    → HandsOver names old question.bytes answer new → IsUnheard c.keys c.batch old new
broken_handed names c old new question None put came hands = absurd cc
broken_handed names c old new question (Some reply) put came hands =
    let asks = handed_asks names old new question.bytes (Some reply) hands in
    record {
      question = question.bytes;
      reply = reply;
      is_question = asked_one c put.places question put.about put.few;
      requests_are = asks.2;
      sent_are = asks.0;
      handed_are = asks.1;
    }

-- ---- how many were sent

pub learnt_long : (keys : List Key) (most : ℕ) (old new : Past) (knowns nexts : List Knowledge) (exchanges : ℕ)
    → Learnt keys most old new knowns nexts exchanges
    → length new.sent ≡ length old.sent + exchanges
learnt_long keys most old new knowns nexts exchanges learnt =
    ap length learnt.sent_are ∙ length-append old.sent learnt.questions
    ∙ ap (λ n. length old.sent + n) learnt.as_many_questions

pub unmade_long : (keys : List Key) (most : ℕ) (old new : Past) → IsUnmade keys most old new
    → length new.sent ≡ length old.sent
unmade_long keys most old new none = ap length none.sent_stays

pub unheard_long : (keys : List Key) (most : ℕ) (old new : Past) → IsUnheard keys most old new
    → length new.sent ≡ length old.sent + 1
unheard_long keys most old new one = ap length one.sent_are ∙ length-append old.sent (one.question ∷ [])

-- as many as exchanges were made
pub until_long : (keys : List Key) (most : ℕ) (old new : Past) (knowns nexts : List Knowledge) (exchanges : ℕ)
    → LearntUntil keys most old new knowns nexts exchanges
    → length new.sent ≡ length old.sent + exchanges
until_long keys most old new knowns nexts exchanges u =
    let first = learnt_long keys most old u.between knowns nexts u.heard u.learnt in
    elim u.broken [
      | inl none ↦ let last = unmade_long keys most u.between new none.1 in omega (arith, first, last, none.0)
      | inr one ↦ let last = unheard_long keys most u.between new one.1 in omega (arith, first, last, one.0)
    ]

-- ---- nothing is taken back

grown_by : {A : Type 0} (old between new : List A) → (xs : List A) × (between ≡ old ++ xs)
    → (ys : List A) × (new ≡ between ++ ys) → (zs : List A) × (new ≡ old ++ zs)
grown_by old between new first second = (first.0 ++ second.0, joined old between new first.0 second.0 first.1 second.1)

still : {A : Type 0} (old new : List A) → new ≡ old → (more : List A) × (new ≡ old ++ more)
still old new same = ([], same ∙ sym (append-nil old))

asks_none : {keys : List Key} (old new : List Request) → new ≡ old
    → (more : List Request) × (new ≡ old ++ more) × All (IsOfPlan keys) more
asks_none {keys = keys} old new same = ([], same ∙ sym (append-nil old), All-nil (IsOfPlan keys))

pub grown_itself : {keys : List Key} (p : Past) → TakesNothingBack keys p p
grown_itself p = record {
  requests = asks_none p.requests p.requests refl;
  sent = still p.sent p.sent refl;
  handed =
      still p.handed p.handed refl;
}

pub grown_then : {keys : List Key} (old between new : Past) → TakesNothingBack keys old between
    → TakesNothingBack keys between new
    → TakesNothingBack keys old new
grown_then {keys = keys} old between new first second = record {
  requests = (
    first.requests.0 ++ second.requests.0,
    joined old.requests between.requests new.requests first.requests.0 second.requests.0 first.requests.1
        second.requests.1,
    All-append (IsOfPlan keys) first.requests.0 second.requests.0 first.requests.2 second.requests.2,
  );
  sent = grown_by old.sent between.sent new.sent first.sent second.sent;
  handed = grown_by old.handed between.handed new.handed first.handed second.handed;
}

stays_grown : {keys : List Key} (old new : Past) → Stays old new → TakesNothingBack keys old new
stays_grown old new stays =
    record {
      requests = asks_none old.requests new.requests stays.requests_stay;
      sent = still old.sent new.sent
          stays.sent_stays;
      handed = still old.handed new.handed stays.handed_stays;
    }

pub delivered_grown : {keys : List Key} (names : Names) (old new : Past) → Delivered names old new
    → TakesNothingBack keys old new
delivered_grown names old new d = stays_grown old new (delivered_stays names old new d)

asked_grown : {keys : List Key} (sent : List ℕ) (p : Past) → All (IsOfPlan keys) (requests_in sent)
    → TakesNothingBack keys p (with_asked sent p)
asked_grown sent p own =
    record {
      requests = (requests_in sent, refl, own);
      sent = still p.sent p.sent refl;
      handed = still p.handed
          p.handed refl;
    }

hands_grown : {keys : List Key} (names : Names) (old new : Past) (sent : List ℕ) (answer : Option (List ℕ))
    → All (IsOfPlan keys) (requests_in sent)
    → HandsOver names old sent answer new → TakesNothingBack keys old new
hands_grown names old new sent answer own hands =
    let asks = handed_asks names old new sent answer hands in
    record { requests = (requests_in sent, asks.2, own); sent = (sent ∷ [], asks.0); handed = (answer ∷ [], asks.1) }

-- by an exchange, whether it has an answer or not
pub exchanged_grown : {keys : List Key} (names : Names) (old new : Past) (sent : List ℕ)
    (answered : Result (Option (List ℕ)) LinkFault)
    → All (IsOfPlan keys) (requests_in sent) → Exchanged names old sent answered new → TakesNothingBack keys old new
exchanged_grown names old new sent (Ok answer) own done = hands_grown names old new sent answer own done
exchanged_grown names old new sent (Err Io) own done = hands_grown names old new sent None own done
exchanged_grown names old new sent (Err Frame) own done = hands_grown names old new sent None own done
exchanged_grown names old new sent (Err NoMemory) own done = elim done [
  | inl before ↦ delivered_grown names old new before
  | inr after ↦ grown_then old (with_asked sent old) new (asked_grown sent old own)
      (delivered_grown names (with_asked sent old) new after)
]

-- what a question asks is of the plan
asked_there : (keys : List Key) (knowns : List Knowledge) (place : ℕ) (w : WorksAt keys knowns place)
    → at_place (λ place key known. request_about key known) keys knowns place ≡ Some (request_about w.key w.known)
asked_there keys knowns place w = rw (w.key_is, w.known_is) refl

all_of_plan : KeysAreFound → (keys : List Key) (knowns : List Knowledge) (places : List ℕ) → IsLawful keys
    → All (WorksAt keys knowns) places
    → All (IsOfPlan keys) (requests_at keys knowns places)
all_of_plan found keys knowns [] lawful works = All-nil (IsOfPlan keys)
all_of_plan found keys knowns (place ∷ places) lawful works =
    let w = All-head (WorksAt keys knowns) place places works in
    rw (asked_there keys knowns place w)
    (All-cons (IsOfPlan keys) (request_about w.key w.known) (requests_at keys knowns places)
    (record {
      operation = operation_of (ask_about w.key w.known);
      key = w.key;
      is_planned = found keys place w.key
          lawful w.key_is;
      id_is = refl;
    })
    (all_of_plan found keys knowns places lawful (All-tail (WorksAt keys knowns) place places works)))

pub question_of_plan : KeysAreFound
    → (keys : List Key) (knowns : List Knowledge) (places : List ℕ) (question : Question) (sent : List ℕ)
    → IsLawful keys
    → IsAbout keys knowns places question → sent ≡ question.bytes → All (IsOfPlan keys) (requests_in sent)
question_of_plan found keys knowns places question sent lawful about same =
    subst (λ bytes. All (IsOfPlan keys) (requests_in bytes)) (sym same)
    (subst (All (IsOfPlan keys)) (sym about.asks) (all_of_plan found keys knowns places lawful about.works))

-- and if what was asked before is of the plan too, each request may be asked still
pub grown_justified : SoundIsJustified → (keys : List Key) (old new : Past) → TakesNothingBack keys old new
    → Sound keys new
    → All (IsOfPlan keys) old.requests → AreJustified keys new
grown_justified law keys old new grown sound own =
    law keys new sound
    (subst (All (IsOfPlan keys)) (sym grown.requests.1)
    (All-append (IsOfPlan keys) old.requests grown.requests.0 own grown.requests.2))

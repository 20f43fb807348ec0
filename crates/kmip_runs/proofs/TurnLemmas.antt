-- Turns, one after the other: what was asked in them, and what was learnt.
use Rattle.std.proofs.Common.{◌≡◌, ◌≢◌, ◌∙◌, ℕ, ◌+◌, List, [], ◌∷◌, ◌++◌, length, Option, Some, None, option_map, IsSome, Result, Ok, Err, IfErr, OnErr, ap, arith, append-nil, inl, inr, refl, subst, sym}
use Rattle.std.proofs.lemmas.List.{length-append}
use Rattle.kmip_client.specs.Asking.{IsAbout, after_ask, if_any, next_places, next_question, question_at, turn_behind}
use Rattle.kmip_client.specs.Clients.{ClientState}
use Rattle.kmip_client.specs.declared.question.Question.{Question}
use Rattle.kmip_protocol.specs.Exchanges.{HandsOver}
use Rattle.kmip_protocol.specs.Past.{Names, Past, is_planned}
use Rattle.kmip_protocol.specs.Turns.{taught}
use Rattle.kmip_runs.specs.Private.{IsAnswered, IsGivenUp, Rests, TurnsOnce, exchanges_made, messages_made}
use Rattle.kmip_runs.specs.Turning.{AreExchanged, IsLeft, IsTurned, Turns}
use Rattle.kmip_runs.specs.declared.stop.Stop.{Stop}
use Rattle.kmip_runs.specs.declared.stop.Stop.TheVariants as stops
use Rattle.kmip_runs.specs.declared.turn_fault.TurnFault.{TurnFault}
use Rattle.kmip_runs.specs.declared.turn_fault.TurnFault.TheVariants.{Unmade, Unheard}
use Rattle.kmip_runs.proofs.KnownLemmas.{handed_asks, joined}

-- ---- several turns

turns_more : (questions : List (List ℕ)) (answers : List (Option (List ℕ))) (c last next : ClientState) (question : Question) (answer : Option (List ℕ))
    → Turns questions answers c last → next_question last ≡ Some question → IsAbout last.keys last.knowns (next_places last) question
    → next ≡ taught question answer (after_ask last)
    → Turns (questions ++ question.bytes ∷ []) (answers ++ answer ∷ []) c next
turns_more [] [] c last next question answer turns asked about is =
    (question, ap next_question (sym turns) ∙ asked, refl, subst (λ (s : ClientState). IsAbout s.keys s.knowns (next_places s) question) turns about, is ∙ ap (λ s. taught question answer (after_ask s)) turns)
turns_more [] (a ∷ answers) c last next question answer turns asked about is = absurd turns
turns_more (q ∷ questions) [] c last next question answer turns asked about is = absurd turns
turns_more (q ∷ questions) (a ∷ answers) c last next question answer turns asked about is =
    (turns.0, turns.1, turns.2, turns.3, turns_more questions answers (taught turns.0 a (after_ask c)) last next question answer turns.4 asked about is)

-- the plan stays through turns
pub turned_keys : (questions : List (List ℕ)) (answers : List (Option (List ℕ))) (c next : ClientState) → Turns questions answers c next → next.keys ≡ c.keys
turned_keys [] [] c next turns = ap (λ (s : ClientState). s.keys) turns
turned_keys [] (a ∷ answers) c next turns = absurd turns
turned_keys (q ∷ questions) [] c next turns = absurd turns
turned_keys (q ∷ questions) (a ∷ answers) c next turns = turned_keys questions answers (taught turns.0 a (after_ask c)) next turns.4

exchanged_more : (names : Names) (questions : List (List ℕ)) (answers : List (Option (List ℕ))) (p q r : Past) (sent : List ℕ) (answer : Option (List ℕ))
    → AreExchanged names questions answers p q → HandsOver names q sent answer r → AreExchanged names (questions ++ sent ∷ []) (answers ++ answer ∷ []) p r
exchanged_more names [] [] p q r sent answer first then = (r, subst (λ x. HandsOver names x sent answer r) first then, refl)
exchanged_more names [] (a ∷ answers) p q r sent answer first then = absurd first
exchanged_more names (s ∷ questions) [] p q r sent answer first then = absurd first
exchanged_more names (s ∷ questions) (a ∷ answers) p q r sent answer first then =
    (first.0, first.1, exchanged_more names questions answers first.0 q r sent answer first.2 then)

one_more : {A : Type 0} (xs : List A) (x : A) (made : ℕ) → length xs ≡ made → length (xs ++ x ∷ []) ≡ made + 1
one_more xs x made many = length-append xs (x ∷ []) ∙ ap (λ n. n + 1) many

-- so many turns were taken, and in each an exchange was made
pub record HasTurned (honest : Type 0) (made : ℕ) (first now : ClientState) (before after : Past) : Type 0 where
  pub questions : List (List ℕ)
  pub answers : List (Option (List ℕ))
  pub turns : Turns questions answers first now
  pub as_many : length questions ≡ made
  pub sent_are : honest → after.sent ≡ before.sent ++ questions
  pub handed_are : honest → after.handed ≡ before.handed ++ answers
  pub exchanged : honest → AreExchanged (is_planned first.keys) questions answers before after

pub turned_none : (honest : Type 0) (c : ClientState) (p : Past) → HasTurned honest 0 c c p p
turned_none honest c p = record {
  questions = [];
  answers = [];
  turns = refl;
  as_many = refl;
  sent_are = λ holds. sym (append-nil p.sent);
  handed_are = λ holds. sym (append-nil p.handed);
  exchanged = λ holds. refl;
}

-- and one more
pub turned_more : (honest again : Type 0) (made : ℕ) (first now next : ClientState) (p q r : Past) → (honest → again) → HasTurned honest made first now p q
    → TurnsOnce again now next q r → HasTurned honest (made + 1) first next p r
turned_more honest again made first now next p q r still a b = record {
  questions = a.questions ++ b.question.bytes ∷ [];
  answers = a.answers ++ b.answered.answer ∷ [];
  turns = turns_more a.questions a.answers first now next b.question b.answered.answer a.turns b.question_is b.about b.answered.next_is;
  as_many = one_more a.questions b.question.bytes made a.as_many;
  sent_are = λ holds. joined p.sent q.sent r.sent a.questions (b.question.bytes ∷ []) (a.sent_are holds) (b.answered.sent_are (still holds));
  handed_are = λ holds. joined p.handed q.handed r.handed a.answers (b.answered.answer ∷ []) (a.handed_are holds) (b.answered.handed_are (still holds));
  exchanged = λ holds.
      exchanged_more (is_planned first.keys) a.questions a.answers p q r b.question.bytes b.answered.answer (a.exchanged holds)
      (subst (λ ks. HandsOver (is_planned ks) q b.question.bytes b.answered.answer r) (turned_keys a.questions a.answers first now a.turns)
      (b.answered.hands_over (still holds)));
}

-- ---- the last one

left_same : (stop : Stop) (last next : ClientState) → stop ≢ stops.NoMemory → next ≡ last → IsLeft stop last next
left_same stops.AllFinished last next memory same = same
left_same stops.Limit last next memory same = same
left_same stops.Conflict last next memory same = same
left_same stops.NoMemory last next memory same = absurd (memory refl)

-- in which there was nothing to ask
pub turned_rest : (honest again : Type 0) (stop : Stop) (made : ℕ) (first now next : ClientState) (p q r : Past) → (honest → again) → stop ≢ stops.NoMemory
    → HasTurned honest made first now p q → Rests again now next q r → IsTurned honest stop made first next p r
turned_rest honest again stop made first now next p q r still memory a b = record {
  questions = a.questions;
  answers = a.answers;
  last = now;
  turns = a.turns;
  as_many = a.as_many;
  left = left_same stop now next memory b.next_is;
  sent_are = λ holds. ap (λ (x : Past). x.sent) (b.past_stays (still holds)) ∙ a.sent_are holds;
  handed_are = λ holds in_memory. ap (λ (x : Past). x.handed) (b.past_stays (still holds)) ∙ a.handed_are holds;
  exchanged = λ holds in_memory.
      subst (λ x. AreExchanged (is_planned first.keys) a.questions a.answers p x) (sym (b.past_stays (still holds))) (a.exchanged holds);
}

-- or which was the last that might be taken
pub turned_limit : (honest : Type 0) (stop : Stop) (made limit : ℕ) (first now : ClientState) (p q : Past) → made ≡ limit → stop ≢ stops.NoMemory
    → HasTurned honest made first now p q → IsTurned honest stop limit first now p q
turned_limit honest stop made limit first now p q same memory a = record {
  questions = a.questions;
  answers = a.answers;
  last = now;
  turns = a.turns;
  as_many = a.as_many ∙ same;
  left = left_same stop now now memory refl;
  sent_are = a.sent_are;
  handed_are = λ holds in_memory. a.handed_are holds;
  exchanged = λ holds in_memory. a.exchanged holds;
}

and_none : (made : ℕ) → made ≡ made + 0
and_none made = omega arith

-- or in which memory ran out
pub turned_broken : (honest again : Type 0) (made : ℕ) (first now next : ClientState) (p q r : Past) (fault : TurnFault) → (honest → again)
    → HasTurned honest made first now p q → IsGivenUp again now next q r fault → IsTurned honest stops.NoMemory (made + exchanges_made fault) first next p r
turned_broken honest again made first now next p q r Unmade still a up = record {
  questions = a.questions;
  answers = a.answers;
  last = now;
  turns = a.turns;
  as_many = a.as_many ∙ and_none made;
  left = up.0;
  sent_are = λ holds. up.1 (still holds) ∙ a.sent_are holds;
  handed_are = λ holds in_memory. absurd (in_memory refl);
  exchanged = λ holds in_memory. absurd (in_memory refl);
}
turned_broken honest again made first now next p q r Unheard still a up = record {
  questions = a.questions ++ up.question.bytes ∷ [];
  answers = a.answers ++ None ∷ [];
  last = next;
  turns = turns_more a.questions a.answers first now next up.question None a.turns up.question_is up.about up.next_is;
  as_many = one_more a.questions up.question.bytes made a.as_many;
  left = inl refl;
  sent_are = λ holds. joined p.sent q.sent r.sent a.questions (up.question.bytes ∷ []) (a.sent_are holds) (up.sent_are (still holds));
  handed_are = λ holds in_memory. absurd (in_memory refl);
  exchanged = λ holds in_memory. absurd (in_memory refl);
}

-- ---- one turn

pub answered_by : (honest : Type 0) (c next : ClientState) (old new : Past) (question : Question) (answer : Option (List ℕ))
    → (honest → HandsOver (is_planned c.keys) old question.bytes answer new) → next ≡ taught question answer c → IsAnswered honest question c next old new
answered_by honest c next old new question answer hands is = record {
  answer = answer;
  next_is = is;
  sent_are = λ holds. (handed_asks (is_planned c.keys) old new question.bytes answer (hands holds)).0;
  handed_are = λ holds. (handed_asks (is_planned c.keys) old new question.bytes answer (hands holds)).1;
  hands_over = hands;
}

-- where nothing is worked on, asking changes nothing
pub asked_nothing : (c next : ClientState) → next ≡ after_ask c → next_question c ≡ None → next ≡ c
asked_nothing c next is none = is ∙ by_places (next_places c) refl none
  where
    by_places : (places : List ℕ) → next_places c ≡ places → if_any places (question_at c.keys c.knowns places) ≡ None → after_ask c ≡ c
    by_places [] at none = ap (λ places. record c { next = turn_behind places c.next }) at
    by_places (place ∷ places) at none = absurd cc

-- where memory ran out with a question
pub given_up : (honest again : Type 0) (c asked next : ClientState) (p q : Past) (question : Question) (fault : TurnFault) → (honest → again) → asked ≡ after_ask c
    → next_question c ≡ Some question → IsAbout c.keys c.knowns (next_places c) question → next ≡ taught question None asked → (again → q.sent ≡ p.sent ++ messages_made fault question.bytes)
    → IsGivenUp honest c next p q fault
given_up honest again c asked next p q question Unmade still turn is about lost sent =
    (inr (question, is, lost ∙ ap (taught question None) turn), λ holds. sent (still holds) ∙ append-nil p.sent)
given_up honest again c asked next p q question Unheard still turn is about lost sent =
    record { question = question; question_is = is; about = about; next_is = lost ∙ ap (taught question None) turn; sent_are = λ holds. sent (still holds) }

-- ---- what holds at a fault

pub both_err : {V E P : Type 0} (Q R : E → Type 0) (r : Result V E) → OnErr r P → IfErr r Q → ((fault : E) → P → Q fault → R fault) → IfErr r R
both_err Q R (Ok v) first second to = tt
both_err Q R (Err fault) first second to = to fault first second

pub if_fault : {V E : Type 0} (P Q : E → Type 0) (r : Result V E) → ((fault : E) → P fault → Q fault) → IfErr r P → IfErr r Q
if_fault P Q (Ok v) to holds = tt
if_fault P Q (Err fault) to holds = to fault holds

pub some_mapped : {X : Type 0} (o : Option X) (f : X → List ℕ) → IsSome o → IsSome (option_map f o)
some_mapped None f some = absurd cc
some_mapped (Some x) f some = refl

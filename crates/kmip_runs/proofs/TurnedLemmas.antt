-- Turns of one exchange, turns after turns, and how what ends them changes.
use Rattle.std.proofs.Common.{◌≡◌, ◌≢◌, ℕ, ◌+◌, List, [], ◌∷◌, ◌++◌, Option, Result, Ok, Err, OnErr, OnOk, arith, inl, refl, subst, sym}
use Rattle.std.proofs.lemmas.List.{length-append}
use Rattle.kmip_client.specs.Asking.{after_ask}
use Rattle.kmip_client.specs.Clients.{ClientState}
use Rattle.kmip_protocol.specs.Past.{Names, Past, is_planned}
use Rattle.kmip_protocol.specs.Turns.{taught}
use Rattle.kmip_runs.specs.Private.{IsGivenUp, Rests, TurnsOnce, exchanges_made}
use Rattle.kmip_runs.specs.Turning.{AreExchanged, IsLeft, IsTurned, Turns, stop_in}
use Rattle.kmip_runs.specs.declared.save_fault.SaveFault.{SaveFault}
use Rattle.kmip_runs.specs.declared.save_fault.SaveFault.TheVariants as faults
use Rattle.kmip_runs.specs.declared.stop.Stop.{Stop}
use Rattle.kmip_runs.specs.declared.stop.Stop.TheVariants as stops
use Rattle.kmip_runs.specs.declared.turn_fault.TurnFault.{TurnFault}
use Rattle.kmip_runs.proofs.KnownLemmas.{joined}
use Rattle.kmip_runs.proofs.TurnLemmas.{turned_broken, turned_limit, turned_more, turned_none, turned_rest}

-- ---- one exchange

-- there was nothing to ask
pub one_rest : (honest : Type 0) (stop : Stop) (c next : ClientState) (p q : Past) → stop ≢ stops.NoMemory → Rests honest c next p q → IsTurned honest stop 0 c next p q
one_rest honest stop c next p q memory rests = turned_rest honest honest stop 0 c c next p p q (λ holds. holds) memory (turned_none honest c p) rests

-- one turn was taken
pub one_turn : (honest : Type 0) (stop : Stop) (c next : ClientState) (p q : Past) → stop ≢ stops.NoMemory → TurnsOnce honest c next p q → IsTurned honest stop 1 c next p q
one_turn honest stop c next p q memory once =
    turned_limit honest stop 1 1 c next p q refl memory (turned_more honest honest 0 c c next p p q (λ holds. holds) (turned_none honest c p) once)

-- memory ran out in it
pub one_broken : (honest : Type 0) (made : ℕ) (c next : ClientState) (p q : Past) (fault : TurnFault) → made ≡ exchanges_made fault → IsGivenUp honest c next p q fault
    → IsTurned honest stops.NoMemory made c next p q
one_broken honest made c next p q fault is up =
    let none : 0 + exchanges_made fault ≡ made = omega (arith, is) in
    subst (λ n. IsTurned honest stops.NoMemory n c next p q) none
    (turned_broken honest honest 0 c c next p p q fault (λ holds. holds) (turned_none honest c p) up)

-- nothing was done yet
pub turned_not_yet : (honest : Type 0) (c : ClientState) (p : Past) → IsTurned honest stops.Limit 0 c c p p
turned_not_yet honest c p = turned_limit honest stops.Limit 0 0 c c p p refl (λ is. absurd cc) (turned_none honest c p)

-- ---- what ends them

left_of : (stop : Stop) (last next : ClientState) → stop ≢ stops.NoMemory → IsLeft stop last next → next ≡ last
left_of stops.AllFinished last next memory left = left
left_of stops.Limit last next memory left = left
left_of stops.Conflict last next memory left = left
left_of stops.NoMemory last next memory left = absurd (memory refl)

left_so : (stop : Stop) (last next : ClientState) → next ≡ last → IsLeft stop last next
left_so stops.AllFinished last next same = same
left_so stops.Limit last next same = same
left_so stops.Conflict last next same = same
left_so stops.NoMemory last next same = inl same

-- they may have ended for another reason, if memory did not run out
pub turned_so : (honest : Type 0) (stop other : Stop) (made : ℕ) (c next : ClientState) (p q : Past) → stop ≢ stops.NoMemory → IsTurned honest stop made c next p q
    → IsTurned honest other made c next p q
turned_so honest stop other made c next p q memory t = record {
  questions = t.questions;
  answers = t.answers;
  last = t.last;
  turns = t.turns;
  as_many = t.as_many;
  left = left_so other t.last next (left_of stop t.last next memory t.left);
  sent_are = t.sent_are;
  handed_are = λ holds in_memory. t.handed_are holds memory;
  exchanged = λ holds in_memory. t.exchanged holds memory;
}

-- memory may have run out after them
turned_wanting : (honest : Type 0) (stop : Stop) (made : ℕ) (c next : ClientState) (p q : Past) → IsTurned honest stop made c next p q → IsTurned honest stops.NoMemory made c next p q
turned_wanting honest stops.AllFinished made c next p q t = turned_so honest stops.AllFinished stops.NoMemory made c next p q (λ is. absurd cc) t
turned_wanting honest stops.Limit made c next p q t = turned_so honest stops.Limit stops.NoMemory made c next p q (λ is. absurd cc) t
turned_wanting honest stops.Conflict made c next p q t = turned_so honest stops.Conflict stops.NoMemory made c next p q (λ is. absurd cc) t
turned_wanting honest stops.NoMemory made c next p q t = t

-- the end of the run over the link may change why
pub turned_last : {V E : Type 0} (honest : Type 0) (closed : Result V E) (result last : Result Stop SaveFault) (made : ℕ) (c next : ClientState) (p q : Past)
    → OnOk closed (last ≡ result) → OnErr closed (OnOk result (last ≡ Ok stops.NoMemory)) → OnErr closed (OnErr result (last ≡ Err faults.NoMemory))
    → IsTurned honest (stop_in result) made c next p q → IsTurned honest (stop_in last) made c next p q
turned_last honest (Ok v) result last made c next p q same stop fault t = subst (λ r. IsTurned honest (stop_in r) made c next p q) (sym same) t
turned_last honest (Err e) (Ok s) last made c next p q same stop fault t =
    subst (λ r. IsTurned honest (stop_in r) made c next p q) (sym stop) (turned_wanting honest s made c next p q t)
turned_last honest (Err e) (Err f) last made c next p q same stop fault t = subst (λ r. IsTurned honest (stop_in r) made c next p q) (sym fault) t

-- ---- turns after turns

turns_then : (questions more : List (List ℕ)) (answers others : List (Option (List ℕ))) (a b c : ClientState) → Turns questions answers a b → Turns more others b c
    → Turns (questions ++ more) (answers ++ others) a c
turns_then [] more [] others a b c first second = subst (λ s. Turns more others s c) first second
turns_then [] more (x ∷ answers) others a b c first second = absurd first
turns_then (q ∷ questions) more [] others a b c first second = absurd first
turns_then (q ∷ questions) more (x ∷ answers) others a b c first second =
    (first.0, first.1, first.2, first.3, turns_then questions more answers others (taught first.0 x (after_ask a)) b c first.4 second)

exchanged_then : (names : Names) (questions more : List (List ℕ)) (answers others : List (Option (List ℕ))) (p q r : Past) → AreExchanged names questions answers p q
    → AreExchanged names more others q r → AreExchanged names (questions ++ more) (answers ++ others) p r
exchanged_then names [] more [] others p q r first second = subst (λ x. AreExchanged names more others x r) first second
exchanged_then names [] more (x ∷ answers) others p q r first second = absurd first
exchanged_then names (s ∷ questions) more [] others p q r first second = absurd first
exchanged_then names (s ∷ questions) more (x ∷ answers) others p q r first second =
    (first.0, first.1, exchanged_then names questions more answers others first.0 q r first.2 second)

pub turned_then : (honest again : Type 0) (stop other : Stop) (m n : ℕ) (a b c : ClientState) (p q r : Past) → stop ≢ stops.NoMemory → b.keys ≡ a.keys → (honest → again)
    → IsTurned honest stop m a b p q → IsTurned again other n b c q r → IsTurned honest other (m + n) a c p r
turned_then honest again stop other m n a b c p q r memory keys still first second =
    let here = left_of stop first.last b memory first.left in
    record {
      questions = first.questions ++ second.questions;
      answers = first.answers ++ second.answers;
      last = second.last;
      turns = turns_then first.questions second.questions first.answers second.answers a b second.last
          (subst (λ s. Turns first.questions first.answers a s) (sym here) first.turns) second.turns;
      as_many = let long = length-append first.questions second.questions in omega (arith, long, first.as_many, second.as_many);
      left = second.left;
      sent_are = λ holds. joined p.sent q.sent r.sent first.questions second.questions (first.sent_are holds) (second.sent_are (still holds));
      handed_are = λ holds in_memory.
          joined p.handed q.handed r.handed first.answers second.answers (first.handed_are holds memory) (second.handed_are (still holds) in_memory);
      exchanged = λ holds in_memory.
          exchanged_then (is_planned a.keys) first.questions second.questions first.answers second.answers p q r (first.exchanged holds memory)
          (subst (λ ks. AreExchanged (is_planned ks) second.questions second.answers q r) keys (second.exchanged (still holds) in_memory));
    }

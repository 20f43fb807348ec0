-- Where the run is ended: right behind its last exchange.
use Rattle.std.proofs.Common.{◌≡◌, ◌⊎◌, ℕ, ◌+◌, List, [], ◌∷◌, ◌++◌, length, Result, Ok, Err, OnErr, OnOk, sym, ap, ◌∙◌, inl, inr}
use Rattle.std.proofs.lemmas.List.{length-append}
use Rattle.kmip_plan.specs.declared.key.Key.{Key}
use Rattle.kmip_client.specs.declared.knowledge.Knowledge.{Knowledge}
use Rattle.kmip_protocol.specs.Ending.{EndedAt}
use Rattle.kmip_protocol.specs.Past.{Past}
use Rattle.kmip_runs.specs.Driving.{Learnt}
use Rattle.kmip_runs.specs.declared.stop.Stop.{Stop}
use Rattle.kmip_runs.specs.declared.stop.Stop.TheVariants as stops
use Rattle.kmip_runs.specs.Saved.{IsInMemory, IsWhole}
use Rattle.kmip_runs.specs.declared.save_fault.SaveFault.{SaveFault}
use Rattle.kmip_runs.specs.declared.save_fault.SaveFault.TheVariants as faults
use Rattle.kmip_runs.proofs.CarryLemmas.{whole_before}
use Rattle.kmip_runs.proofs.WentLemmas.{stop_is}

pub in_memory : (result : Result Stop SaveFault) → IsWhole result → IsInMemory result
in_memory (Ok stop) whole = λ is. whole (stop_is stop stops.NoMemory is)
in_memory (Err fault) whole = absurd whole

sent_long : (keys : List Key) (most : ℕ) (old new : Past) (knowns nexts : List Knowledge) (made : ℕ) → Learnt keys most old new knowns nexts made
    → length new.sent ≡ length old.sent + made
sent_long keys most old new knowns nexts made learnt =
    ap length learnt.sent_are ∙ length-append old.sent learnt.questions ∙ ap (λ n. length old.sent + n) learnt.as_many_questions

-- where memory sufficed and all was saved
pub ended_whole : {V E : Type 0} (keys : List Key) (most : ℕ) (old mid : Past) (knowns nexts : List Knowledge) (closed : Result V E) (result last : Result Stop SaveFault) (made : ℕ)
    (before noted after : List ℕ) → OnOk closed (last ≡ result) → OnErr closed (OnOk result (last ≡ Ok stops.NoMemory)) → OnErr closed (OnErr result (last ≡ Err faults.NoMemory))
    → (IsInMemory result → Learnt keys most old mid knowns nexts made) → noted ≡ before → OnOk closed (EndedAt (length mid.sent) noted after) → IsWhole last
    → EndedAt (length old.sent + made) before after
ended_whole keys most old mid knowns nexts closed result last made before noted after same stop fault learnt none close whole =
    let both = whole_before {P = EndedAt (length mid.sent) noted after} closed result last same stop fault whole in
    let long = sent_long keys most old mid knowns nexts made (learnt (in_memory result both.0)) in
    both.1 close ∙ ap (λ ns. ns ++ length mid.sent ∷ []) none ∙ ap (λ n. before ++ n ∷ []) long

pub one_of_both : {V E P Q : Type 0} (closed : Result V E) → OnOk closed P → OnErr closed Q → P ⊎ Q
one_of_both (Ok v) ok err = inl ok
one_of_both (Err fault) ok err = inr err

-- or not
pub ended_once : (mid new : Past) (before noted after : List ℕ) → new.sent ≡ mid.sent → noted ≡ before → EndedAt (length mid.sent) noted after ⊎ (after ≡ noted)
    → EndedAt (length new.sent) before after ⊎ (after ≡ before)
ended_once mid new before noted after same none once = elim once [
  | inl is ↦ inl (is ∙ ap (λ ns. ns ++ length mid.sent ∷ []) none ∙ ap (λ sent. before ++ length sent ∷ []) (sym same))
  | inr not ↦ inr (not ∙ none)
]

-- Carrying out a plan: exchanges, what is saved of them, and the end.
use Rattle.std.proofs.Common.{Option, Some, None, Bool, true, ◌++◌, ◌≡◌, ◌≢◌, ◌≤◌, ◌⊎◌, ℕ, suc, ◌+◌, nat_le, List, []}
use Rattle.std.proofs.Common.{◌∷◌, Result, Ok, Err, IfOk, OnErr, OnOk, false, sym, ap, append-nil, subst, refl, ◌∙◌}
use Rattle.std.proofs.Common.{inl, inr, arith}
use Rattle.std.proofs.lemmas.Bool.{cases_Bool, le-ltb, leb-true}
use Rattle.kmip_objects.specs.Objects.{Object}
use Rattle.kmip_plan.specs.Chains.{bound}
use Rattle.kmip_plan.specs.Plans.{IsLawful}
use Rattle.kmip_plan.specs.declared.key.Key.{Key}
use Rattle.kmip_client.specs.Clients.{AreSettled, ClientState}
use Rattle.kmip_client.specs.Held.{Held}
use Rattle.kmip_client.specs.Knowledge.{chain_length, clash_verdict, is_working, verdict_of}
use Rattle.kmip_client.specs.declared.clash.Clash.{Clash}
use Rattle.kmip_client.specs.declared.knowledge.Knowledge.{Knowledge}
use Rattle.kmip_client.specs.declared.verdict.Verdict.TheVariants.{Working, Finished}
use Rattle.kmip_protocol.specs.Amid.{PassedAmid}
use Rattle.kmip_protocol.specs.Moves.{Delivered}
use Rattle.kmip_protocol.specs.Past.{Names, Past, is_planned}
use Rattle.kmip_protocol.specs.Seen.{Seen}
use Rattle.kmip_client.specs.Saving.{progress}
use Rattle.kmip_progress.specs.Texts.{progress_text}
use Rattle.kmip_protocol.specs.Sound.{Sound}
use Rattle.kmip_runs.specs.PrivateLawbook.{Lawbook}
use Rattle.kmip_runs.specs.Driving.{AreFinished, AsksOne, IsBorneOut, IsGood, IsSettling, IsUnheard, IsUnmade, Learnt}
use Rattle.kmip_runs.specs.Driving.{Nearer, WentOn, need}
use Rattle.kmip_runs.specs.declared.stop.Stop.{Stop}
use Rattle.kmip_runs.specs.declared.stop.Stop.TheVariants as stops
use Rattle.kmip_runs.specs.Private.{IsBrokenOff, exchanges_made}
use Rattle.kmip_runs.specs.Keeping.{Kept, MakesLast}
use Rattle.kmip_runs.specs.Lasting.{IsTried, KeepsMoments}
use Rattle.kmip_runs.specs.PrivateCarried.{Carried, SavesProgress, Went}
use Rattle.kmip_runs.specs.PrivateTurns.{MakesTurn, turn_count}
use Rattle.kmip_runs.specs.Saved.{AreUnsaved, Grounds, HasMemory, IsInMemory, IsLeft, IsWhole, Situation, grounds_in}
use Rattle.kmip_runs.specs.Saved.{moment, text_at}
use Rattle.kmip_runs.specs.declared.save_fault.SaveFault.{SaveFault}
use Rattle.kmip_runs.specs.declared.save_fault.SaveFault.TheVariants as faults
use Rattle.kmip_runs.specs.declared.turn_fault.TurnFault.{TurnFault}
use Rattle.kmip_runs.specs.declared.turn_fault.TurnFault.TheVariants.{Unmade, Unheard}
use Rattle.kmip_runs.proofs.KnownLemmas.{learnt_nothing, learnt_still, stays_itself}
use Rattle.kmip_runs.proofs.KeptLemmas.{keeps_closed, keeps_ended, keeps_from, keeps_then}
use Rattle.kmip_runs.proofs.LastingLemmas.{leaves_not, leaves_one, leaves_same}
use Rattle.kmip_runs.proofs.OnLemmas.{on_nowhere}
use Rattle.kmip_runs.proofs.SavedLemmas.{StaysTrue, moments_broken, moments_none, moments_not, moments_one, same_text}
use Rattle.kmip_runs.proofs.WentLemmas.{kept_itself, learnt_delivered, stop_is, went_closed, went_nowhere, went_passed}
use Rattle.kmip_runs.proofs.WentLemmas.{went_then, went_unbegun}

-- ---- how the end of the run changes the answer

at_most_one : (stop : Stop) (count : ℕ) → AreUnsaved (Ok stop) count → count ≤ 1
at_most_one stops.AllFinished count are = omega (arith, are)
at_most_one stops.Limit count are = omega (arith, are)
at_most_one stops.Conflict count are = omega (arith, are)
at_most_one stops.NoMemory count are = are

still_unsaved : {V E : Type 0} (closed : Result V E) (result last : Result Stop SaveFault)
    → OnOk closed (last ≡ result) → OnErr closed (OnOk result (last ≡ Ok stops.NoMemory))
    → OnErr closed (OnErr result (last ≡ Err faults.NoMemory)) → (count : ℕ) → AreUnsaved result count
    → AreUnsaved last count
still_unsaved (Ok v) result last same stop fault count are = subst (λ r. AreUnsaved r count) (sym same) are
still_unsaved (Err e) (Ok s) last same stop fault count are =
    subst (λ r. AreUnsaved r count) (sym stop) (at_most_one s count are)
still_unsaved (Err e) (Err f) last same stop fault count are = subst (λ r. AreUnsaved r count) (sym fault) are

still_tried : {V E : Type 0} (closed : Result V E) (result last : Result Stop SaveFault) → OnOk closed (last ≡ result)
    → OnErr closed (OnOk result (last ≡ Ok stops.NoMemory))
    → OnErr closed (OnErr result (last ≡ Err faults.NoMemory)) → (text : List ℕ) (texts : List (List ℕ))
    → IsTried result text texts → IsTried last text texts
still_tried (Ok v) result last same stop fault text texts is = subst (λ r. IsTried r text texts) (sym same) is
still_tried (Err e) (Ok s) last same stop fault text texts is = subst (λ r. IsTried r text texts) (sym stop) is
still_tried (Err e) (Err f) last same stop fault text texts is = subst (λ r. IsTried r text texts) (sym fault) is

pub memory_before : {V E : Type 0} (closed : Result V E) (result last : Result Stop SaveFault)
    → OnOk closed (last ≡ result) → OnErr closed (OnOk result (last ≡ Ok stops.NoMemory))
    → OnErr closed (OnErr result (last ≡ Err faults.NoMemory)) → IsInMemory last → IsInMemory result
memory_before (Ok v) result last same stop fault memory = λ is. memory (same ∙ is)
memory_before (Err e) (Ok s) last same stop fault memory = absurd (memory stop)
memory_before (Err e) (Err f) last same stop fault memory = λ is. absurd cc

-- where memory sufficed to the end, it did before it
pub told_before : {V E P : Type 0} (closed : Result V E) (result last : Result Stop SaveFault)
    → OnOk closed (last ≡ result) → OnErr closed (OnOk result (last ≡ Ok stops.NoMemory))
    → OnErr closed (OnErr result (last ≡ Err faults.NoMemory)) → HasMemory last → HasMemory result × (OnOk closed P → P)
told_before (Ok v) result last same stop fault memory = (subst HasMemory same memory, λ p. p)
told_before (Err e) (Ok s) last same stop fault memory = absurd (memory.0 stop)
told_before (Err e) (Err f) last same stop fault memory = absurd (memory.1 fault)

-- where memory ran out at the end, it did before, or only there
pub cut_before : {V E : Type 0} (closed : Result V E) (result last : Result Stop SaveFault)
    → OnOk closed (last ≡ result) → OnErr closed (OnOk result (last ≡ Ok stops.NoMemory))
    → OnErr closed (OnErr result (last ≡ Err faults.NoMemory)) → last ≡ Ok stops.NoMemory
    → (result ≡ Ok stops.NoMemory) ⊎ IsInMemory result
cut_before (Ok v) result last same stop fault is = inl (sym same ∙ is)
cut_before (Err e) (Ok stops.AllFinished) last same stop fault is = inr (λ so. absurd cc)
cut_before (Err e) (Ok stops.Limit) last same stop fault is = inr (λ so. absurd cc)
cut_before (Err e) (Ok stops.Conflict) last same stop fault is = inr (λ so. absurd cc)
cut_before (Err e) (Ok stops.NoMemory) last same stop fault is = inl refl
cut_before (Err e) (Err f) last same stop fault is = inr (λ so. absurd cc)

pub whole_before : {V E P : Type 0} (closed : Result V E) (result last : Result Stop SaveFault)
    → OnOk closed (last ≡ result) → OnErr closed (OnOk result (last ≡ Ok stops.NoMemory))
    → OnErr closed (OnErr result (last ≡ Err faults.NoMemory)) → IsWhole last → IsWhole result × (OnOk closed P → P)
whole_before (Ok v) result last same stop fault whole = (subst IsWhole same whole, λ p. p)
whole_before (Err e) (Ok s) last same stop fault whole = absurd (subst IsWhole stop whole refl)
whole_before (Err e) (Err f) last same stop fault whole = absurd (subst IsWhole fault whole)

-- ---- a key that is finished is settled

finished_idle : (key : Key) (known : Knowledge) → verdict_of key known ≡ Finished → is_working key known ≡ false
finished_idle key known is =
    elim (cases_Bool (nat_le (chain_length key) known.done)) [
      | inl full ↦
          let few = le-ltb known.done (chain_length key) (leb-true (chain_length key) known.done full) in
          rw few refl
      | inr unfinished ↦ clash_unfinished known.clash (rw unfinished at is)
    ]
  where
    clash_unfinished : {X : Type 0} (clash : Option Clash) → clash_verdict clash ≡ Finished → X
    clash_unfinished None is = absurd cc
    clash_unfinished (Some clash) is = absurd cc

finished_settled : (objects : List Object) (keys : List Key) (knowns : List Knowledge) → Held objects keys knowns
    → AreFinished keys knowns → AreSettled keys knowns
finished_settled objects [] [] held finished = tt
finished_settled objects [] (known ∷ knowns) held finished = absurd held
finished_settled objects (key ∷ keys) [] held finished = absurd held
finished_settled objects (key ∷ keys) (known ∷ knowns) held finished = (
  finished_idle key known (finished 0 (omega arith)),
  finished_settled objects keys knowns held.1 (λ place below. finished (suc place) (omega (arith, below))),
)

-- ---- one exchange

-- what a turn promises in which memory did not run out, whether it asked or not
pub took : (a b : Situation) (result : Result Stop SaveFault) (asked : Option ℕ) (follows : Type 0) → IsInMemory result
    → MakesTurn a.link a.client (Ok asked) b.link b.client follows → Went a b result (turn_count asked)
took a b result asked follows memory turn = record {
  good = λ good. (turn.well good).good;
  onward = λ good. (turn.well good).onward;
  learns = λ holds. ((turn.honestly holds).stays_honest, λ in_memory. (turn.honestly holds).learnt);
  broken = λ holds is. absurd (memory is);
  takes_nothing_back = λ holds. (turn.honestly holds).takes_nothing_back;
  keeps = turn.tries.keeps;
  near = λ settling whole. turn.tries.nearer settling;
}

one_at_most : (fault : TurnFault) → exchanges_made fault ≤ 1
one_at_most Unmade = omega arith
one_at_most Unheard = omega arith

broken_first : (keys : List Key) (most : ℕ) (old new : Past) (fault : TurnFault) → IsBrokenOff keys most old new fault
    → ((exchanges_made fault ≡ 0) × IsUnmade keys most old new) ⊎
    ((exchanges_made fault ≡ 0 + 1) × IsUnheard keys most old new)
broken_first keys most old new Unmade off = inl (refl, off)
broken_first keys most old new Unheard off = inr (refl, off)

-- and one in which it did
pub broke : (a b : Situation) (fault : TurnFault) (follows : Type 0)
    → MakesTurn a.link a.client (Err fault) b.link b.client follows
    → Went a b (Ok stops.NoMemory) (exchanges_made fault)
broke a b fault follows turn = record {
  good = λ good. (turn.well good).good;
  onward = λ good. (turn.well good).onward;
  learns = λ holds. ((turn.honestly holds).stays_honest, λ in_memory. absurd (in_memory refl));
  broken = λ holds is.
      let off = (turn.honestly holds).broken in
      record {
        between = a.link.past;
        heard = 0;
        learnt = learnt_still a.client.keys a.client.batch a.link.past a.link.past a.link.past a.client.knowns
            a.client.knowns b.client.knowns 0
            (learnt_nothing a.client.keys a.client.batch a.link.past a.client.knowns) (stays_itself a.link.past) off.0;
        broken = broken_first a.client.keys a.client.batch a.link.past b.link.past fault off.1;
      };
  takes_nothing_back = λ holds. (turn.honestly holds).takes_nothing_back;
  keeps = turn.tries.keeps;
  near = λ settling whole. absurd (whole refl);
}

-- if memory ran out
pub carried_broken : (a : Situation) (next : ClientState) (y : Seen) (fault : TurnFault) (n : ℕ)
    → n ≡ exchanges_made fault
    → Went a (record a { client = next; link = y }) (Ok stops.NoMemory) (exchanges_made fault)
    → Carried a (record a { client = next; link = y }) (Ok stops.NoMemory) n
carried_broken a next y fault n made went = record {
  went = subst (λ n. Went a (record a { client = next; link = y }) (Ok stops.NoMemory) n) (sym made) went;
  kept = record {
    moments = [];
    are = moments_broken a.client.keys a.client.batch (grounds_in a) (moment a.client a.link) (moment next y) n
        went.keeps.kept went.onward
        (subst (λ n. n ≤ 1) (sym made) (one_at_most fault));
    saved = λ remembers. (remembers, sym (append-nil a.keeper.saved));
    any_moment = λ lawful. leaves_same a.client.keys (grounds_in a).honest (moment next y) a.keeper.disk
        stops.NoMemory n lawful (λ whole. absurd (whole refl));
  };
}

learns : (a b : Situation) (stop : Stop) (n : ℕ) → stop ≢ stops.NoMemory → Went a b (Ok stop) n
    → a.link.honest (is_planned a.client.keys)
    → Learnt a.client.keys a.client.batch a.link.past b.link.past a.client.knowns b.client.knowns n
learns a b stop n in_memory went holds = (went.learns holds).1 (λ is. in_memory (stop_is stop stops.NoMemory is))

-- if no exchange was made
pub carried_none : (a : Situation) (next : ClientState) (y : Seen) (stop : Stop)
    → Went a (record a { client = next; link = y }) (Ok stop) 0
    → Carried a (record a { client = next; link = y }) (Ok stop) 0
carried_none a next y stop went = record {
  went = went;
  kept = record {
    moments = [];
    are = moments_none a.client.keys a.client.batch (grounds_in a) (moment a.client a.link) (moment next y) stop
        went.keeps.kept went.onward
        (λ holds memory. learns a (record a { client = next; link = y }) stop 0 memory went holds);
    saved = λ remembers. (remembers, sym (append-nil a.keeper.saved));
    any_moment = λ lawful. leaves_same a.client.keys (grounds_in a).honest (moment next y) a.keeper.disk stop 0 lawful
        (λ whole. refl);
  };
}

-- if there was no memory to begin with
pub carried_unbegun : Lawbook → (a : Situation) → Carried a a (Ok stops.NoMemory) 0
carried_unbegun l a = record {
  went = went_unbegun l a;
  kept = record {
    moments = [];
    are = moments_broken a.client.keys a.client.batch (grounds_in a) (moment a.client a.link) (moment a.client a.link)
        0 (kept_itself a.client.knowns)
        (λ good. on_nowhere l.client.itself l.amid.nothing a.client.keys a.link.past) (omega arith);
    saved = λ remembers. (remembers, sym (append-nil a.keeper.saved));
    any_moment = λ lawful. leaves_same a.client.keys (grounds_in a).honest (moment a.client a.link) a.keeper.disk
        stops.NoMemory 0 lawful (λ whole. refl);
  };
}

-- if it was saved
pub carried_one : Lawbook → (a b : Situation) (stop : Stop) (done : Unit {0}) → stop ≢ stops.NoMemory
    → (a.keeper.remembers → b.keeper.remembers
    × (b.keeper.saved ≡ a.keeper.saved ++ progress_text b.client.keys (progress b.client) ∷ []))
    → (a.keeper.disk.lawful → SavesProgress a.keeper.disk b.client (Ok done) b.keeper.disk) → Went a b (Ok stop) 1
    → Carried a b (Ok stop) 1
carried_one l a b stop done memory saves whole went = record {
  went = went;
  kept = record {
    moments = moment b.client b.link ∷ [];
    are = moments_one a.client.keys a.client.batch (grounds_in a) (moment a.client a.link) (moment b.client b.link)
        stop went.keeps.kept went.onward
        (λ good. on_nowhere l.client.itself l.amid.nothing a.client.keys b.link.past) (learns a b stop 1 memory went)
        (λ good. subst (λ ks. Held b.link.past.objects ks b.client.knowns) went.keeps.keys_stay (went.good good).held);
    saved = λ remembers.
        let so = saves remembers in (
          so.0,
          subst (λ ks. b.keeper.saved ≡ a.keeper.saved ++ progress_text ks (progress b.client) ∷ [])
              went.keeps.keys_stay so.1,
        );
    any_moment = λ lawful.
        leaves_one a.client.keys (grounds_in a).honest b.client (moment b.client b.link) a.keeper.disk b.keeper.disk
        stop done went.keeps.keys_stay refl (whole lawful);
  };
}

-- if it was not saved
pub carried_not : (a b : Situation) (fault : SaveFault)
    → (a.keeper.remembers → b.keeper.remembers × (b.keeper.saved ≡ a.keeper.saved))
    → (a.keeper.disk.lawful → SavesProgress a.keeper.disk b.client (Err fault) b.keeper.disk)
    → Went a b (Err fault) 1 → Carried a b (Err fault) 1
carried_not a b fault saves whole went = record {
  went = went;
  kept = record {
    moments = [];
    are = moments_not a.client.keys a.client.batch (grounds_in a) (moment a.client a.link) (moment b.client b.link)
        fault went.keeps.kept went.onward
        (λ holds. (went.learns holds).1 (λ is. absurd cc));
    saved = λ remembers. let so = saves remembers in (so.0, so.1 ∙ sym (append-nil a.keeper.saved));
    any_moment = λ lawful.
        leaves_not a.client.keys (grounds_in a).honest b.client (moment b.client b.link) a.keeper.disk b.keeper.disk
        fault went.keeps.keys_stay refl (whole lawful);
  };
}

-- ---- several exchanges

carried_rest : Lawbook → (a : Situation) (stop : Stop) → stop ≢ stops.NoMemory → Carried a a (Ok stop) 0
carried_rest l a stop memory =
    let went = went_nowhere l a (Ok stop) (λ is. memory (stop_is stop stops.NoMemory is)) in
    record {
      went = went;
      kept = record {
        moments = [];
        are = moments_none a.client.keys a.client.batch (grounds_in a) (moment a.client a.link)
            (moment a.client a.link) stop (kept_itself a.client.knowns) went.onward
            (λ holds memory. learns a a stop 0 memory went holds);
        saved = λ remembers. (remembers, sym (append-nil a.keeper.saved));
        any_moment = λ lawful. leaves_same a.client.keys (grounds_in a).honest (moment a.client a.link) a.keeper.disk
            stop 0 lawful (λ whole. refl);
      };
    }

pub carried_itself : Lawbook → (a : Situation) → Carried a a (Ok stops.Limit) 0
carried_itself l a = carried_rest l a stops.Limit (λ is. absurd cc)

whole_in_memory : (result : Result Stop SaveFault) → IsWhole result → IsInMemory result
whole_in_memory (Ok stop) whole = λ is. whole (stop_is stop stops.NoMemory is)
whole_in_memory (Err fault) whole = absurd whole

-- where no exchange is made, the text of what is known stays
same_text_then : (a b c : Situation) (result : Result Stop SaveFault) (m n : ℕ) → Went a b (Ok stops.Limit) m
    → Went b c result n
    → a.link.honest (is_planned a.client.keys) → IsWhole result → n ≡ 0
    → text_at a.client.keys (moment c.client c.link) ≡ text_at a.client.keys (moment b.client b.link)
same_text_then a b c result m n first second honest whole none =
    let keys = first.keeps.keys_stay in
    let learnt = (second.learns (subst (λ ks. b.link.honest (is_planned ks)) (sym keys) (first.learns honest).0)).1
    (whole_in_memory result whole) in
    subst (λ ks. text_at ks (moment c.client c.link) ≡ text_at ks (moment b.client b.link)) keys
    (same_text b.client.keys b.client.batch (moment b.client b.link) (moment c.client c.link)
    (subst (λ k. Learnt b.client.keys b.client.batch b.link.past c.link.past b.client.knowns c.client.knowns k) none
    learnt))

pub carried_then : Lawbook → (a b c : Situation) (result : Result Stop SaveFault) (m n : ℕ) → IsLawful a.client.keys
    → Carried a b (Ok stops.Limit) m → Carried b c result n
    → Carried a c result (m + n)
carried_then l a b c result m n lawful first second =
    let keys = first.went.keeps.keys_stay in
    let memory : stops.Limit ≢ stops.NoMemory = λ is. absurd cc in
    let grounds_for : List Key → Grounds = λ ks.
    record { good = IsGood b.client b.link; honest = b.link.honest (is_planned ks) } in
    let stays : StaysTrue a.client.keys (IsGood a.client a.link) (moment b.client b.link) (moment c.client c.link) =
    λ good knowns.
    l.client.known_for_good a.client.keys knowns b.link.past.objects c.link.past.objects lawful
    (subst (λ ks. WentOn ks b.link.past c.link.past) keys (second.went.onward (first.went.good good))).onward in
    record {
      went = went_then l a b c stops.Limit result m n memory first.went second.went;
      kept =
          keeps_then l.client.blind l.client.twice l.amid.joins a.client.keys a.client.batch (grounds_in a)
          (moment a.client a.link) (moment b.client b.link) (moment c.client c.link)
          a.keeper b.keeper c.keeper stops.Limit result m n memory stays
          (λ honest whole none. same_text_then a b c result m n first.went second.went honest whole none) first.kept
          (keeps_from a.client.keys a.client.batch (grounds_in a) (grounds_for a.client.keys) (moment b.client b.link)
          (moment c.client c.link) b.keeper c.keeper result n
          first.went.good (λ holds. (first.went.learns holds).0)
          (subst (λ ks. KeepsMoments ks a.client.batch (grounds_for ks) (moment b.client b.link)
          (moment c.client c.link) b.keeper c.keeper result n) keys
          (subst (λ most. KeepsMoments b.client.keys most (grounds_in b) (moment b.client b.link)
          (moment c.client c.link) b.keeper c.keeper result n) first.went.keeps.batch_stays
          second.kept)));
    }

-- and one more, after which some key is worked on still
pub carried_more : Lawbook → (a b c : Situation) (result : Result Stop SaveFault) (m n : ℕ) → IsLawful a.client.keys
    → Carried a b (Ok stops.Limit) m → Carried b c result n → result ≡ Ok stops.Limit → n ≡ 1
    → Carried a c (Ok stops.Limit) (m + 1)
carried_more l a b c result m n lawful before step limit one =
    subst (λ r. Carried a c r (m + 1)) limit
    (subst (λ n. Carried a c result (m + n)) one (carried_then l a b c result m n lawful before step))

-- after the last of them it stops for what the client knows
pub carried_stop : Lawbook → (a b : Situation) (stop : Stop) (m n : ℕ) → IsLawful a.client.keys
    → stop ≢ stops.NoMemory → m ≡ n
    → Carried a b (Ok stops.Limit) m → Carried a b (Ok stop) n
carried_stop l a b stop m n lawful memory same before =
    let rest = carried_rest l b stop memory in
    let all : m + 0 ≡ n = omega (arith, same) in
    subst (λ n. Carried a b (Ok stop) n) all (carried_then l a b b (Ok stop) m 0 lawful before rest)

-- and the end of the run
pub carried_closed : {V E : Type 0} → Lawbook
    → (a b : Situation) (z : Seen) (result ended : Result Stop SaveFault) (closed : Result V E) (m : ℕ)
    → IsLawful a.client.keys → ((names : Names) → b.link.honest names → z.honest names
    × Delivered names b.link.past z.past)
    → ((keys : List Key) → b.link.amid keys → Sound keys b.link.past → z.amid keys × PassedAmid keys b.link.past z.past)
    → ((names : Names) → b.link.calm names → z.calm names × OnOk closed (z.past ≡ b.link.past))
    → OnOk closed (ended ≡ result)
    → OnErr closed (OnOk result (ended ≡ Ok stops.NoMemory)) → OnErr closed (OnErr result (ended ≡ Err faults.NoMemory))
    → Carried a b result m → Carried a (record b { link = z }) ended m
carried_closed l a b z result ended closed m lawful delivers passes calms same stop fault first =
    let memory = memory_before closed result ended same stop fault in
    let whole = whole_before {P = z.past ≡ b.link.past} closed result ended same stop fault in
    let over : IsGood a.client a.link → z.amid a.client.keys × PassedAmid a.client.keys b.link.past z.past =
    λ good.
    passes a.client.keys (subst (λ ks. b.link.amid ks) first.went.keeps.keys_stay (first.went.good good).amid_for)
    (subst (λ ks. Sound ks b.link.past) first.went.keeps.keys_stay (first.went.good good).sound) in
    let stays : StaysTrue a.client.keys (IsGood a.client a.link) (moment b.client b.link) (moment b.client z) =
    λ good knowns.
    l.client.known_for_good a.client.keys knowns b.link.past.objects z.past.objects lawful
    (l.amid.passing a.client.keys b.link.past z.past
    (subst (λ ks. Sound ks b.link.past) first.went.keeps.keys_stay (first.went.good good).sound) (over good).1).1 in
    record {
      went = went_closed l a b z result ended closed m lawful delivers passes calms memory
          (λ is. cut_before closed result ended same stop fault is) whole first.went;
      kept =
          keeps_ended l.client.blind l.client.twice l.amid.joins a.client.keys a.client.batch (grounds_in a)
          (moment a.client a.link) (moment b.client b.link) (moment b.client z) a.keeper b.keeper
          result ended m refl
          (λ good.
          went_passed l a.client.keys b.link.past z.past
          (subst (λ ks. Sound ks b.link.past) first.went.keeps.keys_stay (first.went.good good).sound)
          (over good).1)
          (λ holds.
          learnt_delivered l.exchanges.requests_stay a.client.keys a.client.batch (is_planned a.client.keys)
          b.link.past z.past b.client.knowns
          (delivers (is_planned a.client.keys) (first.went.learns holds).0).1)
          (still_unsaved closed result ended same stop fault) (still_tried closed result ended same stop fault) memory
          (λ done. (whole done).0) stays first.kept;
    }

went_kept : (a b : Situation) (k : Kept) (result : Result Stop SaveFault) (m : ℕ) → Went a b result m
    → Went a (record b { keeper = k }) result m
went_kept a b k result m went = record {
  good = went.good;
  onward = went.onward;
  learns = went.learns;
  broken = went.broken;
  takes_nothing_back = went.takes_nothing_back;
  keeps = went.keeps;
  near = went.near;
}

-- and the keeper's
pub carried_kept : {E : Type 0} (a b : Situation) (k : Kept) (result : Result Stop SaveFault)
    (closed : Result (Unit {0}) E) (m : ℕ)
    → (b.keeper.remembers → k.remembers × (k.saved ≡ b.keeper.saved))
    → (b.keeper.disk.lawful → MakesLast b.keeper.disk closed k.disk)
    → Carried a b result m → Carried a (record b { keeper = k }) result m
carried_kept a b k result closed m same lasts first = record {
  went = went_kept a b k result m first.went;
  kept =
      keeps_closed a.client.keys a.client.batch (grounds_in a) (moment a.client a.link) (moment b.client b.link)
      a.keeper b.keeper k result closed m same lasts first.kept;
}

-- ---- how it ends

pub stands_last : (c : ClientState) → {V E : Type 0} (closed : Result V E) (result last : Result Stop SaveFault)
    → OnOk closed (last ≡ result)
    → OnErr closed (OnOk result (last ≡ Ok stops.NoMemory)) → OnErr closed (OnErr result (last ≡ Err faults.NoMemory))
    → IfOk result (λ stop. IsBorneOut stop c.keys c.knowns)
    → IfOk last (λ stop. IsBorneOut stop c.keys c.knowns)
stands_last c (Ok v) result last same stop fault stands =
    subst (λ r. IfOk r (λ s. IsBorneOut s c.keys c.knowns)) (sym same) stands
stands_last c (Err e) (Ok s) last same stop fault stands =
    subst (λ r. IfOk r (λ s. IsBorneOut s c.keys c.knowns)) (sym stop) tt
stands_last c (Err e) (Err f) last same stop fault stands =
    subst (λ r. IfOk r (λ s. IsBorneOut s c.keys c.knowns)) (sym fault) tt

pub limit_last : {V E : Type 0} (closed : Result V E) (result last : Result Stop SaveFault)
    → OnOk closed (last ≡ result) → OnErr closed (OnOk result (last ≡ Ok stops.NoMemory))
    → OnErr closed (OnErr result (last ≡ Err faults.NoMemory)) → last ≡ Ok stops.Limit → result ≡ Ok stops.Limit
limit_last (Ok v) result last same stop fault is = sym same ∙ is
limit_last (Err e) (Ok s) last same stop fault is =
    let both = stop_is stops.NoMemory stops.Limit (sym stop ∙ is) in absurd cc
limit_last (Err e) (Err f) last same stop fault is =
    let both : Err faults.NoMemory ≡ Ok stops.Limit = sym fault ∙ is in absurd cc

-- where it was left, it is once the run has ended
pub left_last : {V E : Type 0} (closed : Result V E) (result last : Result Stop SaveFault)
    → OnOk closed (last ≡ result) → OnErr closed (OnOk result (last ≡ Ok stops.NoMemory))
    → OnErr closed (OnErr result (last ≡ Err faults.NoMemory)) → IsLeft result → IsLeft last
left_last (Ok v) result last same stop fault left = subst IsLeft (sym same) left
left_last (Err e) (Ok s) last same stop fault left = inr stop
left_last (Err e) (Err f) last same stop fault (inl is) = absurd cc
left_last (Err e) (Err f) last same stop fault (inr is) = absurd cc

-- as many exchanges were made as may be, where it was not given up
pub unless_given_up : (result : Result Stop SaveFault) (made limit : ℕ) (tired : Bool)
    → (result ≡ Ok stops.Limit → (made ≡ limit) ⊎ (tired ≡ true))
    → tired ≡ false → result ≡ Ok stops.Limit → made ≡ limit
unless_given_up result made limit tired at fresh is = elim (at is) [ inl all ↦ all | inr gave ↦ absurd cc ]

-- over a calm link, with as many exchanges as the plan is bounded by, all keys are finished
settled_stop : Lawbook → (a b : ClientState) (x y : Seen) (stop : Stop) (made limit : ℕ) → IsLawful a.keys
    → IsSettling a x
    → Nearer a b x y made → stop ≢ stops.NoMemory → IsBorneOut stop b.keys b.knowns
    → (stop ≡ stops.Limit → made ≡ limit) → bound a.keys ≤ limit
    → (stop ≡ stops.AllFinished) × (made ≤ need a x.past) × (AsksOne a → made ≡ need a x.past) × (made ≤ bound a.keys)
settled_stop l a b x y stops.AllFinished made limit lawful first near memory stands at enough =
    let held = near.settling.ready.held in
    let few = l.settling.bounded x.past.room a.keys x.past.objects a.knowns lawful first.ready in
    let nothing = l.settling.needed b.keys y.past.objects b.knowns held
    (finished_settled y.past.objects b.keys b.knowns held stands) in
    let sum = near.nearer in
    (refl, omega (arith, sum), λ one. omega (arith, near.exactly one, nothing), omega (arith, sum, few))
settled_stop l a b x y stops.Limit made limit lawful first near memory stands at enough =
    let few = l.settling.bounded x.past.room a.keys x.past.objects a.knowns lawful first.ready in
    let all = at refl in
    let sum = near.nearer in
    let nothing : need b y.past ≡ 0 = omega (arith, sum, few, enough, all) in
    let both : Working ≡ Finished = sym stands.2
    ∙ l.settling.needless b.keys y.past.objects b.knowns near.settling.ready.held nothing stands.0 stands.1 in
    absurd cc
settled_stop l a b x y stops.Conflict made limit lawful first near memory stands at enough =
    let clash = stands.1 in
    absurd (l.client.no_conflict y.past.objects b.keys b.knowns near.settling.ready.held clash.0 clash.1 clash.3)
settled_stop l a b x y stops.NoMemory made limit lawful first near memory stands at enough = absurd (memory refl)

pub settled_end : Lawbook → (a b : Situation) (result : Result Stop SaveFault) (made limit : ℕ) → IsLawful a.client.keys
    → Went a b result made → IfOk result (λ stop. IsBorneOut stop b.client.keys b.client.knowns)
    → (result ≡ Ok stops.Limit → made ≡ limit)
    → IsSettling a.client a.link → bound a.client.keys ≤ limit → IsWhole result → (result ≡ Ok stops.AllFinished)
    × (made ≤ need a.client a.link.past)
    × (AsksOne a.client → made ≡ need a.client a.link.past) × (made ≤ bound a.client.keys)
settled_end l a b (Err fault) made limit lawful went stands at settling enough whole = absurd whole
settled_end l a b (Ok stop) made limit lawful went stands at settling enough whole =
    let near = went.near settling whole in
    let end = settled_stop l a.client b.client a.link b.link stop made limit lawful settling near whole stands
    (λ is. at (ap Ok is)) enough in
    (ap Ok end.0, end.1, end.2, end.3)

-- what is true is in no conflict
pub good_end : Lawbook → (a b : Situation) (result : Result Stop SaveFault) (made : ℕ) → Went a b result made
    → IfOk result (λ stop. IsBorneOut stop b.client.keys b.client.knowns) → IsGood a.client a.link
    → result ≢ Ok stops.Conflict
good_end l a b result made went stands good = λ is.
    let clash = (subst (λ r. IfOk r (λ stop. IsBorneOut stop b.client.keys b.client.knowns)) is stands).1 in
    l.client.no_conflict b.link.past.objects b.client.keys b.client.knowns (went.good good).held clash.0 clash.1 clash.3

-- What is kept of several exchanges, and of the end of a run.
use Rattle.std.proofs.Common.{◌≡◌, ◌≢◌, ℕ, ◌+◌, List, ◌++◌, map, Result, Ok, sym, ap, ◌∙◌, append_assoc}
use Rattle.std.proofs.lemmas.List.{map-append}
use Rattle.kmip_client.specs.Laws.{HearingIsBlind, OnwardTwice}
use Rattle.kmip_plan.specs.declared.key.Key.{Key}
use Rattle.kmip_protocol.specs.AmidLaws.{PassingJoins}
use Rattle.kmip_runs.specs.Driving.{Learnt, WentOn}
use Rattle.kmip_runs.specs.declared.stop.Stop.{Stop}
use Rattle.kmip_runs.specs.declared.stop.Stop.TheVariants as stops
use Rattle.kmip_runs.specs.declared.save_fault.SaveFault.{SaveFault}
use Rattle.kmip_runs.specs.Keeping.{Kept, MakesLast}
use Rattle.kmip_runs.specs.Lasting.{IsTried, KeepsMoments}
use Rattle.kmip_runs.specs.Saved.{AreUnsaved, Grounds, IsInMemory, IsWhole, Moment, text_at}
use Rattle.kmip_runs.proofs.LastingLemmas.{leaves_closed, leaves_ended, leaves_from, leaves_then}
use Rattle.kmip_runs.proofs.SavedLemmas.{StaysTrue, moments_closed, moments_from, moments_then}

saved_joined : (keys : List Key) (old between new : List (List ℕ)) (first second : List Moment) → between ≡ old ++ map (text_at keys) first
    → new ≡ between ++ map (text_at keys) second → new ≡ old ++ map (text_at keys) (first ++ second)
saved_joined keys old between new first second before after =
    after ∙ ap (λ ts. ts ++ map (text_at keys) second) before
    ∙ append_assoc old (map (text_at keys) first) (map (text_at keys) second)
    ∙ ap (λ ts. old ++ ts) (sym (map-append (text_at keys) first second))

-- under other premises that give the first
pub keeps_from : (keys : List Key) (most : ℕ) (before later : Grounds) (begun ended : Moment) (old new : Kept) (result : Result Stop SaveFault) (n : ℕ)
    → (before.good → later.good) → (before.honest → later.honest) → KeepsMoments keys most later begun ended old new result n → KeepsMoments keys most before begun ended old new result n
keeps_from keys most before later begun ended old new result n betters gives k = record {
  moments = k.moments;
  are = moments_from keys most before later begun ended result n k.moments betters gives k.are;
  saved = k.saved;
  any_moment = λ lawful. leaves_from keys before.honest later.honest k.moments ended old.disk new.disk result n gives (k.any_moment lawful);
}

-- more exchanges
pub keeps_then : HearingIsBlind → OnwardTwice → PassingJoins → (keys : List Key) (most : ℕ) (grounds : Grounds) (begun mid ended : Moment) (a b c : Kept) (stop : Stop)
    (result : Result Stop SaveFault) (m n : ℕ) → stop ≢ stops.NoMemory → StaysTrue keys grounds.good mid ended
    → (grounds.honest → IsWhole result → n ≡ 0 → text_at keys ended ≡ text_at keys mid)
    → KeepsMoments keys most grounds begun mid a b (Ok stop) m → KeepsMoments keys most grounds mid ended b c result n
    → KeepsMoments keys most grounds begun ended a c result (m + n)
keeps_then blind twice joins keys most grounds begun mid ended a b c stop result m n memory stays text first second = record {
  moments = first.moments ++ second.moments;
  are = moments_then blind twice joins keys most grounds begun mid ended stop result m n first.moments second.moments memory stays first.are second.are;
  saved = λ remembers.
      let before = first.saved remembers in
      let after = second.saved before.0 in
      (after.0, saved_joined keys a.saved b.saved c.saved first.moments second.moments before.1 after.1);
  any_moment = λ lawful.
      let before = first.any_moment lawful in
      leaves_then keys grounds.honest mid ended a.disk b.disk c.disk stop result m n first.moments second.moments memory text before (second.any_moment before.lawful);
}

-- the end of the run over the link
pub keeps_ended : HearingIsBlind → OnwardTwice → PassingJoins → (keys : List Key) (most : ℕ) (grounds : Grounds) (begun mid ended : Moment) (old new : Kept)
    (result last : Result Stop SaveFault) (m : ℕ) → mid.knowns ≡ ended.knowns → (grounds.good → WentOn keys mid.past ended.past)
    → (grounds.honest → Learnt keys most mid.past ended.past mid.knowns ended.knowns 0) → ((count : ℕ) → AreUnsaved result count → AreUnsaved last count)
    → ((text : List ℕ) (texts : List (List ℕ)) → IsTried result text texts → IsTried last text texts)
    → (IsInMemory last → IsInMemory result) → (IsWhole last → IsWhole result) → StaysTrue keys grounds.good mid ended
    → KeepsMoments keys most grounds begun mid old new result m → KeepsMoments keys most grounds begun ended old new last m
keeps_ended blind twice joins keys most grounds begun mid ended old new result last m same went learnt still tried memory whole stays k = record {
  moments = k.moments;
  are = moments_closed blind twice joins keys most grounds begun mid ended result last m k.moments same went learnt still memory whole stays k.are;
  saved = k.saved;
  any_moment = λ lawful. leaves_ended keys grounds.honest k.moments mid ended old.disk new.disk result last m whole tried same (k.any_moment lawful);
}

-- and what the keeper does at the end
pub keeps_closed : {E : Type 0} (keys : List Key) (most : ℕ) (grounds : Grounds) (begun ended : Moment) (a b c : Kept) (result : Result Stop SaveFault)
    (closed : Result (Unit {0}) E) (m : ℕ) → (b.remembers → c.remembers × (c.saved ≡ b.saved)) → (b.disk.lawful → MakesLast b.disk closed c.disk)
    → KeepsMoments keys most grounds begun ended a b result m → KeepsMoments keys most grounds begun ended a c result m
keeps_closed keys most grounds begun ended a b c result closed m same lasts k = record {
  moments = k.moments;
  are = k.are;
  saved = λ remembers.
      let before = k.saved remembers in
      let after = same before.0 in
      (after.0, after.1 ∙ before.1);
  any_moment = λ lawful.
      let before = k.any_moment lawful in
      leaves_closed keys grounds.honest k.moments ended a.disk b.disk c.disk result closed m (lasts before.lawful) before;
}

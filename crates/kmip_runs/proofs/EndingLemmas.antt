-- Where the runs of a campaign were ended, run by run.
use Rattle.std.proofs.Common.{◌≡◌, ℕ, ◌+◌, List, [], ◌∷◌, ◌++◌, length, sym, ap, ◌∙◌, append_assoc, append-nil, arith}
use Rattle.kmip_plan.specs.declared.key.Key.{Key}
use Rattle.kmip_client.specs.declared.knowledge.Knowledge.{Knowledge}
use Rattle.kmip_protocol.specs.Ending.{EndedAt}
use Rattle.kmip_protocol.specs.Moves.{Delivered}
use Rattle.kmip_protocol.specs.Past.{Names, Past}
use Rattle.kmip_runs.specs.PrivateCampaignParts.{HasEnded}
use Rattle.kmip_runs.specs.Driving.{Learnt}
use Rattle.kmip_runs.specs.Ending.{AreEnded, ended_at}
use Rattle.kmip_runs.specs.Private.{EndsJoin, exchanges_in}
use Rattle.kmip_runs.specs.declared.campaign_end.CampaignEnd.{CampaignEnd}
use Rattle.kmip_runs.specs.declared.run.Run.{Run}
use Rattle.kmip_runs.specs.declared.run_end.RunEnd.{RunEnd}
use Rattle.kmip_runs.specs.declared.stop.Stop.{Stop}
use Rattle.kmip_runs.proofs.KnownLemmas.{delivered_stays, learnt_long}

-- ---- where runs end, one list of them behind the other

ended_append : (sent : ℕ) (ends more : List RunEnd) → ended_at sent (ends ++ more) ≡ ended_at sent ends ++ ended_at (sent + exchanges_in ends) more
ended_append sent [] more =
    let none : sent ≡ sent + 0 = omega arith in
    ap (λ n. ended_at n more) none
ended_append sent (end ∷ ends) more =
    let both : (sent + end.exchanges) + exchanges_in ends ≡ sent + (end.exchanges + exchanges_in ends) = omega arith in
    ap (λ ns. (sent + end.exchanges) ∷ ns)
    (ended_append (sent + end.exchanges) ends more ∙ ap (λ n. ended_at (sent + end.exchanges) ends ++ ended_at n more) both)

exchanges_append : (ends more : List RunEnd) → exchanges_in (ends ++ more) ≡ exchanges_in ends + exchanges_in more
exchanges_append [] more = omega arith
exchanges_append (end ∷ ends) more = omega (arith, exchanges_append ends more)

ended_both : (ends more : List RunEnd) (sent later : ℕ) (old mid new : List ℕ) → later ≡ sent + exchanges_in ends → mid ≡ old ++ ended_at sent ends
    → new ≡ mid ++ ended_at later more → new ≡ old ++ ended_at sent (ends ++ more)
ended_both ends more sent later old mid new many first second =
    second ∙ ap (λ ns. ns ++ ended_at later more) first ∙ append_assoc old (ended_at sent ends) (ended_at later more)
    ∙ ap (λ ns. old ++ ns) (ap (λ n. ended_at sent ends ++ ended_at n more) many ∙ sym (ended_append sent ends more))

-- ---- more ends join those that were noted

pub join_none : (ends nexts : List RunEnd) (whole : Type 0) (sent later : ℕ) (ended after : List ℕ) → nexts ≡ ends → after ≡ ended → (whole → later ≡ sent)
    → EndsJoin ends nexts whole sent later ended after
join_none ends nexts whole sent later ended after same still many =
    record {
      ends = [];
      joined = same ∙ sym (append-nil ends);
      are_ended = still ∙ sym (append-nil ended);
      made = λ holds. let is = many holds in omega (arith, is);
    }

pub join_then : (a b c : List RunEnd) (first whole : Type 0) (sent later last : ℕ) (old mid new : List ℕ) → first → EndsJoin a b first sent later old mid
    → EndsJoin b c whole later last mid new → EndsJoin a c whole sent last old new
join_then a b c first whole sent later last old mid new is before after = record {
  ends = before.ends ++ after.ends;
  joined = after.joined ∙ ap (λ es. es ++ after.ends) before.joined ∙ append_assoc a before.ends after.ends;
  are_ended = ended_both before.ends after.ends sent later old mid new (before.made is) before.are_ended after.are_ended;
  made = λ holds.
      let one = before.made is in
      let two = after.made holds in
      omega (arith, one, two, exchanges_append before.ends after.ends);
}

-- less is said where it is said of less
pub join_if : (a b : List RunEnd) (whole other : Type 0) (sent later : ℕ) (old new : List ℕ) → (other → whole) → EndsJoin a b whole sent later old new
    → EndsJoin a b other sent later old new
join_if a b whole other sent later old new to joins = record {
  ends = joins.ends;
  joined = joins.joined;
  are_ended = joins.are_ended;
  made = λ holds. joins.made (to holds);
}

-- what was noted of its own is noted behind the others
join_behind : (a part b : List RunEnd) (whole : Type 0) (sent later : ℕ) (old new : List ℕ) → b ≡ a ++ part → EndsJoin [] part whole sent later old new
    → EndsJoin a b whole sent later old new
join_behind a part b whole sent later old new is joins = record {
  ends = joins.ends;
  joined = is ∙ ap (λ es. a ++ es) joins.joined;
  are_ended = joins.are_ended;
  made = joins.made;
}

-- the runs on one plan, noted behind those on the plans before it
pub join_part : (a part b : List RunEnd) (whole other : Type 0) (sent later : ℕ) (old new : List ℕ) → b ≡ a ++ part → (other → whole)
    → EndsJoin [] part whole sent later old new → EndsJoin a b other sent later old new
join_part a part b whole other sent later old new is to joins =
    join_behind a part b other sent later old new is (join_if [] part whole other sent later old new to joins)

-- all that was noted joined
pub all_joined : (ends : List RunEnd) (whole : Type 0) (sent later : ℕ) (old new : List ℕ) → EndsJoin [] ends whole sent later old new
    → AreEnded ends sent old new
all_joined ends whole sent later old new joins =
    let are = joins.are_ended in
    let same : ends ≡ joins.ends = joins.joined in
    rw same are

-- ---- one run

join_one : (end : RunEnd) (ends nexts : List RunEnd) (whole : Type 0) (sent made later last : ℕ) (old mid new : List ℕ) → nexts ≡ ends ++ end ∷ []
    → end.exchanges ≡ made → later ≡ sent + made → last ≡ later → mid ≡ old → EndedAt later mid new → EndsJoin ends nexts whole sent last old new
join_one end ends nexts whole sent made later last old mid new joined exchanges many still same closed =
    let behind : later ≡ sent + end.exchanges = omega (arith, exchanges, many) in
    record {
      ends = end ∷ [];
      joined = joined;
      are_ended = closed ∙ ap (λ ns. ns ++ later ∷ []) same ∙ ap (λ n. old ++ n ∷ []) behind;
      made = λ holds. omega (arith, behind, still);
    }

-- a run was driven, ended and noted
pub join_run : (keys planned : List Key) (most : ℕ) (names : Names) (run : Run) (knowns nexts known : List Knowledge) (driven : Stop × ℕ) (x y z : Past) (old new : CampaignEnd) (whole : Type 0)
    (ended mid after : List ℕ) → HasEnded planned run known driven old new → Learnt keys most x y knowns nexts driven.1 → Delivered names y z → mid ≡ ended
    → EndedAt (length y.sent) mid after → EndsJoin old.runs.items new.runs.items whole (length x.sent) (length z.sent) ended after
join_run keys planned most names run knowns nexts known driven x y z old new whole ended mid after noted learnt delivered same closed =
    let n = noted.noted in
    join_one n.end old.runs.items new.runs.items whole (length x.sent) driven.1 (length y.sent) (length z.sent) ended mid after n.joined n.exchanges_is
    (learnt_long keys most x y knowns nexts driven.1 learnt) (ap length (delivered_stays names y z delivered).sent_stays) same closed

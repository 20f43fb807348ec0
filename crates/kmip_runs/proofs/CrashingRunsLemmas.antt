-- Runs one after the other, of which a crash ends some.
use Rattle.std.specs.Prelude.{IsSome}
use Rattle.std.proofs.Common.{ℕ, ◌≡◌, ◌≢◌, ◌<◌, get_or, IsTrue, zero, suc, List, [], ◌∷◌, ◌++◌, length, map, take}
use Rattle.std.proofs.Common.{slice_get, None, Option, Some, Ok, Err, Result, OnErr, OnOk, refl, sym, subst, ap, ◌∙◌}
use Rattle.std.proofs.Common.{arith}
use Rattle.std.specs.List.{All}
use Rattle.std.proofs.lemmas.List.{length-append}
use Rattle.std.proofs.lemmas.List.Elements.{All-head, All-nil, All-tail}
use Rattle.kmip_client.specs.Clients.{ClientState, fresh}
use Rattle.kmip_client.specs.Held.{Held, TrueProgress}
use Rattle.kmip_disk.specs.declared.memory_disk.MemoryDisk.{MemoryDisk}
use Rattle.kmip_messages.specs.Members.{may_have}
use Rattle.kmip_plan.specs.Plans.{IsLawful}
use Rattle.kmip_plan.specs.declared.key.Key.{Key}
use Rattle.kmip_progress.specs.Suiting.{Suits}
use Rattle.kmip_progress.specs.declared.known.Known.{Known}
use Rattle.kmip_protocol.specs.Past.{Past, is_planned}
use Rattle.kmip_protocol.specs.Seen.{Seen}
use Rattle.kmip_runs.specs.PrivateLawbook.{Lawbook}
use Rattle.kmip_runs.specs.CrashedDisks.{CarriedRun, IsKeptOn, kept_on}
use Rattle.kmip_runs.specs.Crashes.{AreMade, Between, CrashesWell, IsMade, IsRemembered, MayCrash, RefusesCrash}
use Rattle.kmip_runs.specs.Crashes.{at_first, carried_between, grounds_over, start_at}
use Rattle.kmip_runs.specs.Driving.{IsGood, WentOn}
use Rattle.kmip_runs.specs.Headline.{reported}
use Rattle.kmip_runs.specs.PrivateCampaignParts.{CampaignStage, HasRun, IsBroken, RunsOne}
use Rattle.kmip_runs.specs.PrivateCrashes.{AreCrashing, CrashStage, CrashesEach, CrashesGood, CrashesOne, HasCome}
use Rattle.kmip_runs.specs.PrivateCrashes.{IsStanding, IsUnchanged, StandsOn, between, grounds_at}
use Rattle.kmip_runs.specs.Private.{RanTurned}
use Rattle.kmip_runs.specs.Saved.{Grounds, moment}
use Rattle.kmip_runs.specs.TurnedRuns.{begin_client}
use Rattle.kmip_runs.specs.declared.crashes_end.CrashesEnd.{CrashesEnd}
use Rattle.kmip_runs.specs.declared.crash.Crash.{Crash}
use Rattle.kmip_runs.specs.declared.crash_fault.CrashFault.{CrashFault}
use Rattle.kmip_runs.specs.declared.crash_fault.CrashFault.TheVariants.{NoMemory as Wanting, Refused}
use Rattle.kmip_runs.specs.declared.crashing_run.CrashingRun.{CrashingRun}
use Rattle.kmip_runs.specs.declared.run.Run.{Run}
use Rattle.kmip_runs.specs.declared.run_end.RunEnd.{RunEnd}
use Rattle.kmip_runs.specs.declared.stop.Stop.TheVariants as stops
use Rattle.kmip_ttlv.specs.declared.no_memory.NoMemory.{NoMemory}
use Rattle.kmip_runs.proofs.CampaignLemmas.{campaigned, noted_none, opened, reported_reached}
use Rattle.kmip_runs.proofs.KeptLemmas.{keeps_from}
use Rattle.kmip_runs.proofs.OrderLemmas.{one_further}
use Rattle.kmip_runs.proofs.OnLemmas.{on_nowhere, on_then}
use Rattle.kmip_runs.proofs.CrashedRunLemmas.{left_onward, carried_stands, whole_come}

-- ---- runs in turn

made_push : (keys : List Key) (grounds : Grounds) (runs : List CrashingRun) (ends : List RunEnd) (run : CrashingRun)
    (end : RunEnd) (old mid new : Between)
    → AreMade keys grounds runs ends old mid → IsMade keys grounds run end mid new
    → AreMade keys grounds (runs ++ run ∷ []) (ends ++ end ∷ []) old new
made_push keys grounds [] [] run end old mid new same made =
    (new, subst (λ b. IsMade keys grounds run end b new) same made, refl)
made_push keys grounds [] (e ∷ ends) run end old mid new made one = absurd made
made_push keys grounds (r ∷ runs) [] run end old mid new made one = absurd made
made_push keys grounds (r ∷ runs) (e ∷ ends) run end old mid new (next, first, rest) one =
    (next, first, made_push keys grounds runs ends run end next mid new rest one)

-- one more run was made
pub made_more : (keys : List Key) (grounds : Grounds) (runs : List CrashingRun) (place : ℕ) (run : CrashingRun)
    (old new : List RunEnd) (end : RunEnd) (first mid last : Between)
    → slice_get runs place ≡ Some run → AreMade keys grounds (take place runs) old first mid → new ≡ old ++ end ∷ []
    → IsMade keys grounds run end mid last
    → AreMade keys grounds (take (suc place) runs) new first last
made_more keys grounds runs place run old new end first mid last is made joined one =
    subst (λ rs. AreMade keys grounds rs new first last) (sym (one_further runs place run is))
    (subst (λ ends. AreMade keys grounds (take place runs ++ run ∷ []) ends first last) (sym joined)
    (made_push keys grounds (take place runs) old run end first mid last made one))

-- ---- under other premises that give the first

kept_from : (keys : List Key) (before later : Grounds) (calls : ℕ) (carried : CarriedRun) (disk : MemoryDisk)
    → (before.good → later.good) → (before.honest → later.honest)
    → IsKeptOn keys later calls carried disk → IsKeptOn keys before calls carried disk
kept_from keys before later calls carried disk betters gives k = record {
  first = k.first;
  begins = k.begins;
  first_limit = k.first_limit;
  first_left = k.first_left;
  limit = k.limit;
  result = k.result;
  memory = k.memory;
  texts = k.texts;
  refusals = k.refusals;
  moments = keeps_from keys carried.run.batch before later carried.begun carried.ended (kept_on k.first [] 0)
      (kept_on disk k.texts k.refusals) k.result carried.exchanges betters gives k.moments;
  reason = k.reason;
  to_limit = k.to_limit;
  within = k.within;
}

remembered_from : (keys : List Key) (before later : Grounds) (crash : Option Crash) (carried : CarriedRun)
    (ended : ClientState) (old new : Between) → (before.good → later.good)
    → (before.honest → later.honest) → IsRemembered keys later crash carried ended old new
    → IsRemembered keys before crash carried ended old new
remembered_from keys before later None carried ended old new betters gives is = is
remembered_from keys before later (Some crash) carried ended old new betters gives by = record {
  disk = by.disk;
  kept_on_disk = kept_from keys before later crash.calls carried by.disk betters gives by.kept_on_disk;
  text = by.text;
  text_is = by.text_is;
  left = by.left;
  read_back = by.read_back;
  last_is = by.last_is;
  kept = by.kept;
  left_are = by.left_are;
  saved_stay = by.saved_stay;
}

made_from : (keys : List Key) (before later : Grounds) (run : CrashingRun) (end : RunEnd) (old new : Between)
    → (before.good → later.good) → (before.honest → later.honest)
    → IsMade keys later run end old new → IsMade keys before run end old new
made_from keys before later run end old new betters gives made = record {
  ended = made.ended;
  is_end = made.is_end;
  few = made.few;
  not_torn = made.not_torn;
  forgets_nothing = made.forgets_nothing;
  talk = made.talk;
  turned = made.turned;
  sent_are = λ holds. made.sent_are (gives holds);
  handed_are = λ holds. made.handed_are (gives holds);
  remembered = remembered_from keys before later run.crash (carried_between keys run.run end made.ended old new)
      made.ended old new betters gives made.remembered;
}

refuses_from : (keys : List Key) (before later : Grounds) (run : Run) (crash : Option Crash) (old : Between)
    (new : Past) → (before.good → later.good) → (before.honest → later.honest)
    → RefusesCrash keys later run crash old new → RefusesCrash keys before run crash old new
refuses_from keys before later run None old new betters gives is = is
refuses_from keys before later run (Some crash) old new betters gives is = record {
  ended = is.ended;
  exchanges = is.exchanges;
  disk = is.disk;
  kept_on_disk = kept_from keys before later crash.calls _ is.disk betters gives is.kept_on_disk;
  cannot = is.cannot;
}

-- ---- run after run

twice_on : Lawbook → (keys : List Key) (x y z : Seen) → WentOn keys x.past y.past → WentOn keys y.past z.past
    → WentOn keys x.past z.past
twice_on l keys x y z first second = on_then l.client.twice l.amid.joins keys x.past y.past z.past first second

-- no run was made yet
pub crashing_none : Lawbook → (keys : List Key) (runs : List CrashingRun) (client : ClientState) (x : Seen)
    (end : CrashesEnd) → client ≡ fresh keys
    → Held x.past.objects client.keys client.knowns → end.campaign.runs.items ≡ [] → end.campaign.saved.items ≡ []
    → end.left.items ≡ []
    → AreCrashing keys runs 0 x (record { client = client; link = x; end = end })
crashing_none l keys runs client x end is held no_end none_saved none_left = record {
  keys_are = rw is refl;
  suits = rw none_saved (All-nil (Suits keys));
  stands = λ good.
      let begun = opened l keys client x end.campaign.runs.items end.campaign.saved.items (rw is refl) held no_end
      none_saved good in
      (record { standing = begun.0; true_left = rw none_left (All-nil (TrueProgress x.past.objects keys)) }, begun.1);
  honest = λ honest. honest;
  as_many = rw no_end refl;
  made = rw (no_end, is, none_saved, none_left) refl;
}

-- one more run was made
pub crashing_more : Lawbook → (keys : List Key) (runs : List CrashingRun) (place : ℕ) (run : CrashingRun) (x : Seen)
    (old new : CrashStage) → slice_get runs place ≡ Some run
    → new.client.keys ≡ keys → All (Suits keys) new.end.campaign.saved.items
    → (IsStanding keys old → StandsOn keys old new)
    → (old.link.honest (is_planned keys) → new.link.honest (is_planned keys)) → HasCome keys run old new
    → AreCrashing keys runs place x old → AreCrashing keys runs (suc place) x new
crashing_more l keys runs place run x old new is same suits well honest come before = record {
  keys_are = same;
  suits = suits;
  stands = λ good.
      let (standing, went) = before.stands good in
      let on = well standing in
      (on.stands, twice_on l keys x old.link new.link went on.onward);
  honest = λ held. honest (before.honest held);
  as_many = ap (λ ends. length ends) come.joined ∙ length-append old.end.campaign.runs.items (come.end ∷ [])
      ∙ rw before.as_many (omega arith);
  made = made_more keys (grounds_over keys x) runs place run old.end.campaign.runs.items new.end.campaign.runs.items
      come.end (at_first keys x.past) (between old) (between new) is before.made come.joined
      (made_from keys (grounds_over keys x) (grounds_at keys old) run come.end (between old) (between new)
      (λ good. (before.stands good).0) before.honest come.made);
}

-- what stands after several runs is good
pub crashing_good : (keys : List Key) (x : Seen) (now : CrashStage) → now.client.keys ≡ keys → IsStanding keys now
    × WentOn keys x.past now.link.past → CrashesGood keys x now.link now.end
crashing_good keys x now same (stands, went) = record {
  campaigned = campaigned keys now.client x now.link now.end.campaign.runs.items now.end.campaign.saved.items same
      (stands.standing, went);
  true_left = stands.true_left;
}

-- so where the last run has no end
pub crashing_off : Lawbook → (keys : List Key) (runs : List CrashingRun) (place : ℕ) (run : CrashingRun) (x : Seen)
    (old new : CrashStage) (result : Result (Unit {0}) CrashFault) (fault : CrashFault) (follows all : Type 0)
    → slice_get runs place ≡ Some run → result ≡ Err fault → (follows → all)
    → CrashesOne keys run old result new follows → AreCrashing keys runs place x old
    → CrashesEach x keys runs (Err fault) new.end new.link all
crashing_off l keys runs place run x old new result fault follows all is failed on makes before =
    let one = subst (λ r. CrashesOne keys run old r new follows) failed makes in
    let same = one.same in
    record {
      well = λ good.
          let (standing, went) = before.stands good in
          let on = one.well standing in
          crashing_good keys x new one.keys_stay (on.stands, twice_on l keys x old.link new.link went on.onward);
      honest = λ held. one.honest (before.honest held);
      last = old.client;
      until = old.link.past;
      made = rw (same.same_runs, same.same_saved, same.same_left, before.as_many) before.made;
      no_more = tt;
      refused = λ so. rw (same.same_runs, before.as_many, is) (one.refused so);
      refused_so = λ so.
          rw (same.same_runs, same.same_saved, same.same_left, before.as_many, is)
          (refuses_from keys (grounds_over keys x) (grounds_at keys old) run.run run.crash (between old) new.link.past
          (λ good. (before.stands good).0) before.honest (one.refused_so so));
      followed = λ memory. on (one.followed memory);
      complete = tt;
    }

-- all were made
pub crashing_all : (keys : List Key) (runs : List CrashingRun) (place : ℕ) (x : Seen) (now : CrashStage)
    (done : Unit {0}) (follows : Type 0) → place ≡ length runs → follows → AreCrashing keys runs place x now
    → CrashesEach x keys runs (Ok done) now.end now.link follows
crashing_all keys runs place x now done follows all on before = record {
  well = λ good. crashing_good keys x now before.keys_are (before.stands good);
  honest = before.honest;
  last = now.client;
  until = now.link.past;
  made = rw before.as_many before.made;
  no_more = refl;
  refused = λ so. absurd cc;
  refused_so = λ so. absurd cc;
  followed = λ memory. on;
  complete = before.as_many ∙ all;
}

-- there was no memory for a client
pub crashing_nothing : Lawbook → (keys : List Key) (runs : List CrashingRun) (x : Seen) (end : CrashesEnd)
    (fault : CrashFault) (follows : Type 0) → end.campaign.runs.items ≡ [] → end.campaign.saved.items ≡ []
    → end.left.items ≡ [] → fault ≡ Wanting → CrashesEach x keys runs (Err fault) end x follows
crashing_nothing l keys runs x end fault follows no_end none_saved none_left wants = record {
  well = λ good. record {
    campaigned = record {
      good = good;
      on = on_nowhere l.client.itself l.amid.nothing keys x.past;
      noted = noted_none x.past.objects keys end.campaign.runs.items end.campaign.saved.items no_end none_saved;
    };
    true_left = rw none_left (All-nil (TrueProgress x.past.objects keys));
  };
  honest = λ honest. honest;
  last = fresh keys;
  until = x.past;
  made = rw (no_end, none_saved, none_left) refl;
  no_more = tt;
  refused = λ so. absurd cc;
  refused_so = λ so. absurd cc;
  followed = λ memory. absurd (memory (ap (λ f. Err f) wants));
  complete = tt;
}

-- ---- a run that no crash ended

-- the same moment, as a campaign sees it
abbrev pub campaign_at : CrashStage → CampaignStage
campaign_at at = record { client = at.client; link = at.link; end = at.end.campaign }

-- What a run promises that no crash ends.
pub record WholeOne (keys : List Key) (run : Run) (old : CrashStage) (result : Result (Unit {0}) NoMemory)
    (new : CrashStage) (follows : Type 0) : Type 0 where
  pub keys_stay : new.client.keys ≡ keys
  pub suits : All (Suits keys) new.end.campaign.saved.items
  pub well : IsStanding keys old → StandsOn keys old new
  pub honest : old.link.honest (is_planned keys) → new.link.honest (is_planned keys)
  pub come : OnOk result (HasCome keys (record { run = run; crash = None }) old new)
  pub same : OnErr result (IsUnchanged old.end new.end)
  pub followed : OnOk result follows

come_if : (keys : List Key) (run : Run) (old new : CrashStage) (result : Result (Unit {0}) NoMemory)
    → new.end.left.items ≡ old.end.left.items
    → OnOk result (HasRun keys [] run (campaign_at old) (campaign_at new))
    → OnOk result (RanTurned keys (start_at keys run (between old)) new.client (old.link.honest (is_planned keys))
    old.link.past new.link.past old.end.campaign.runs.items new.end.campaign.runs.items)
    → OnOk result (HasCome keys (record { run = run; crash = None }) old new)
come_if keys run old new (Ok done) left ran turned = whole_come keys run old new left ran turned
come_if keys run old new (Err want) left ran turned = tt

same_if : (keys : List Key) (run : Run) (old new : CrashStage) (result : Result (Unit {0}) NoMemory)
    → new.end.left.items ≡ old.end.left.items
    → OnErr result (IsBroken keys run old.link new.link old.end.campaign new.end.campaign)
    → OnErr result (IsUnchanged old.end new.end)
same_if keys run old new (Ok done) left broken = tt
same_if keys run old new (Err want) left broken =
    record { same_runs = broken.same.same_runs; same_saved = broken.same.same_saved; same_left = left }

pub whole_one : Lawbook → (keys : List Key) (carried : List (List Known)) (run : Run) (old new : CrashStage)
    (result : Result (Unit {0}) NoMemory) (follows : Type 0)
    → IsLawful keys → carried ≡ [] → new.end.left.items ≡ old.end.left.items
    → RunsOne keys carried run (campaign_at old) result (campaign_at new) follows
    → WholeOne keys run old result new follows
whole_one l keys carried run old new result follows lawful none left one = record {
  keys_stay = one.keys_stay;
  suits = one.suits;
  well = λ stands.
      let well = one.well stands.standing (rw none (All-nil (TrueProgress old.link.past.objects keys))) in
      record {
        stands = record {
          standing = well.standing;
          true_left = rw left (left_onward l keys old.link new.link old.end.left.items lawful well.onward
              stands.true_left);
        };
        onward = well.onward;
      };
  honest = one.honest (is_planned keys);
  come =
      come_if keys run old new result left (subst
      (λ cs. OnOk result (HasRun keys cs run (campaign_at old) (campaign_at new))) none one.ran)
      (subst (λ cs. OnOk result (RanTurned keys
      (begin_client keys run old.client (cs ++ old.end.campaign.saved.items)) new.client
      (old.link.honest (is_planned keys)) old.link.past new.link.past
      old.end.campaign.runs.items new.end.campaign.runs.items)) none one.turned);
  followed = one.followed;
  same = same_if keys run old new result left one.broken;
}

-- Where a run that a crash is to end has no end, all is good still, and nothing is noted.
pub crashed_off : Lawbook → (keys : List Key) (run : CrashingRun) (old new : CrashStage) (begun : ClientState)
    (result : Result (Unit {0}) CrashFault) (fault : CrashFault) (follows : Type 0)
    → IsLawful keys → old.client.keys ≡ keys → begun.keys ≡ keys → new.client.keys ≡ keys
    → All (Suits keys) old.end.campaign.saved.items
    → (All (TrueProgress old.link.past.objects keys) old.end.campaign.saved.items
    → Held old.link.past.objects old.client.keys old.client.knowns
    → Held old.link.past.objects begun.keys begun.knowns)
    → (IsGood begun old.link → IsGood new.client new.link)
    → (IsGood begun old.link → WentOn begun.keys old.link.past new.link.past)
    → (old.link.honest (is_planned keys) → new.link.honest (is_planned keys)) → IsUnchanged old.end new.end
    → IsSome run.crash → result ≡ Err fault
    → (fault ≡ Refused → RefusesCrash keys (grounds_at keys old) run.run run.crash (between old) new.link.past)
    → (fault ≢ Wanting → follows)
    → CrashesOne keys run old result new follows
crashed_off l keys run old new begun result fault follows lawful old_keys begun_keys new_keys suits begins good goes
    honest same some is refuses on =
    subst (λ r. CrashesOne keys run old r new follows) (sym is)
    (record {
      keys_stay = new_keys;
      suits = rw same.same_saved suits;
      well = carried_stands l keys old begun new.client new stops.Limit lawful old_keys begun_keys new_keys new_keys
          begins good goes (λ all is. absurd cc)
          (λ first later. later.held) (λ objects none held noted. rw (same.same_runs, same.same_saved) noted)
          (λ all lefts. rw same.same_left lefts);
      honest = honest;
      come = tt;
      same = same;
      refused = λ so. some;
      refused_so = λ so. let is : fault ≡ Refused = cc in refuses is;
      followed = λ memory. on (λ is. memory (ap (λ f. Err f) is));
    })

-- where nothing has happened, the objects have gone onward
pub on_itself : Lawbook → (keys : List Key) (x : Seen) → WentOn keys x.past x.past
on_itself l keys x = on_nowhere l.client.itself l.amid.nothing keys x.past

-- all that is reported was reached, so what is sound is safe
pub crashes_well : Lawbook → (keys : List Key) (old new : Seen) (ended end : CrashesEnd) → IsLawful keys
    → end.campaign.runs.items ≡ ended.campaign.runs.items
    → end.campaign.saved.items ≡ ended.campaign.saved.items → end.left.items ≡ ended.left.items
    → CrashesGood keys old new ended → CrashesWell old keys end new
crashes_well l keys old new ended end lawful runs saved left good =
    let ran = good.campaigned in
    record {
      safe =
          rw (runs, saved)
          (l.exchanges.safe keys new.past (reported keys ended.campaign.runs.items ended.campaign.saved.items)
          ran.good.sound
          (reported_reached l keys new.past ended.campaign.runs.items ended.campaign.saved.items lawful ran.noted));
      machine = (λ opening. ran.on.mirrored (l.exchanges.opening keys old.past opening), ran.on.mirrored);
      no_conflict = rw runs ran.noted.no_conflict;
      sound = ran.good;
      true_saved = rw saved ran.noted.true_saved;
      true_left = rw left good.true_left;
      onward = ran.on;
    }

-- want of memory is no refusal
pub wanting : (fault : CrashFault) → fault ≡ Wanting → fault ≢ Refused
wanting fault is = λ so. absurd cc

-- a call failed for this
pub failed_so : (result : Result (Unit {0}) CrashFault) (one other : CrashFault) → result ≡ Err one → other ≡ one
    → result ≡ Err other
failed_so result one other is same = cc

-- a run that no crash ends has its end
pub whole_on : (keys : List Key) (run : Run) (old new : CrashStage) (result : Result (Unit {0}) NoMemory)
    (done : Unit {0}) (follows : Type 0) → result ≡ Ok done → WholeOne keys run old result new follows
    → CrashesOne keys (record { run = run; crash = None }) old (Ok tt) new follows
whole_on keys run old new result done follows is one = record {
  keys_stay = one.keys_stay;
  suits = one.suits;
  well = one.well;
  honest = one.honest;
  come = subst (λ r. OnOk r (HasCome keys (record { run = run; crash = None }) old new)) is one.come;
  same = tt;
  refused = λ so. absurd cc;
  refused_so = λ so. absurd cc;
  followed = λ memory. subst (λ r. OnOk r follows) is one.followed;
}

-- or memory ran out in it
pub whole_off : (keys : List Key) (run : Run) (old new : CrashStage) (result : Result (Unit {0}) NoMemory)
    (want : NoMemory) (fault : CrashFault) (follows : Type 0) → result ≡ Err want → fault ≡ Wanting
    → WholeOne keys run old result new follows
    → CrashesOne keys (record { run = run; crash = None }) old (Err fault) new follows
whole_off keys run old new result want fault follows is wants one = record {
  keys_stay = one.keys_stay;
  suits = one.suits;
  well = one.well;
  honest = one.honest;
  come = tt;
  same = subst (λ r. OnErr r (IsUnchanged old.end new.end)) is one.same;
  refused = λ so. let same : fault ≡ Refused = cc in absurd (wanting fault wants same);
  refused_so = λ so. let same : fault ≡ Refused = cc in absurd (wanting fault wants same);
  followed = λ memory. absurd (memory (ap (λ f. Err f) wants));
}

-- each of the runs asks about one to eight keys at once
pub batch_at : (runs : List CrashingRun) (place : ℕ) (none : CrashingRun) → place < length runs → MayCrash runs
    → IsTrue (may_have (get_or runs place none).run.batch)
batch_at [] place none below may = absurd (omega (arith, below))
batch_at (run ∷ runs) zero none below may =
    All-head (λ (r : Run). IsTrue (may_have r.batch)) run.run (map (λ (crashing : CrashingRun). crashing.run) runs) may
batch_at (run ∷ runs) (suc place) none below may =
    batch_at runs place none (omega (arith, below))
    (All-tail (λ (r : Run). IsTrue (may_have r.batch)) run.run
    (map (λ (crashing : CrashingRun). crashing.run) runs) may)

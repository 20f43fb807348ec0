-- One run that a crash ended: what the crash leaves, and what the run adds to a campaign.
use Rattle.std.proofs.Common.{ℕ, ⊎_elim, ◌≡◌, ◌≢◌, ◌≤◌, false, IsTrue, List, [], ◌∷◌, ◌++◌, length, map, None, Option}
use Rattle.std.proofs.Common.{Some, Ok, Err, Result, IfOk, inl, inr, refl, sym, subst, ap, ◌∙◌, ◌⊎◌, arith}
use Rattle.std.specs.List.{All, AllZip}
use Rattle.std.proofs.lemmas.List.Elements.{All-head, All-tail}
use Rattle.kmip_client.specs.Clients.{ClientState}
use Rattle.kmip_client.specs.Held.{Held, TrueProgress}
use Rattle.kmip_client.specs.Laws.{HeldIsNoConflict}
use Rattle.kmip_client.specs.Saving.{knowledge_from, known_of, progress, resume}
use Rattle.kmip_client.specs.Shapes.{IsKept}
use Rattle.kmip_client.specs.declared.knowledge.Knowledge.{Knowledge}
use Rattle.kmip_disk.specs.Memory.{memory_view}
use Rattle.kmip_disk.specs.Views.{Content}
use Rattle.kmip_disk.specs.Whole.{IsOneOf}
use Rattle.kmip_disk.specs.declared.memory_disk.MemoryDisk.{MemoryDisk}
use Rattle.kmip_objects.specs.Objects.{Object}
use Rattle.kmip_plan.specs.Plans.{IsLawful}
use Rattle.kmip_plan.specs.declared.key.Key.{Key}
use Rattle.kmip_progress.specs.Reading.{read_text}
use Rattle.kmip_progress.specs.Texts.{progress_text}
use Rattle.kmip_progress.specs.declared.known.Known.{Known}
use Rattle.kmip_progress.specs.declared.progress_fault.ProgressFault.{ProgressFault}
use Rattle.kmip_protocol.specs.Past.{Past, is_planned}
use Rattle.kmip_protocol.specs.Seen.{Seen}
use Rattle.kmip_runs.specs.PrivateLawbook.{Lawbook}
use Rattle.kmip_runs.specs.Campaign.{IsEnd}
use Rattle.kmip_runs.specs.CrashedDisks.{CannotLeave, IsKeptOn, kept_on}
use Rattle.kmip_runs.specs.Crashes.{Between, IsRefused, start_at}
use Rattle.kmip_runs.specs.Driving.{IsBorneOut, IsGood, SomeClash, WentOn}
use Rattle.kmip_runs.specs.Lasting.{IsReadBack, IsTextOf, KeepsBetween, KeepsMoments, Leaves}
use Rattle.kmip_runs.specs.PrivateCampaignParts.{HasEnded, HasRun, Noted}
use Rattle.kmip_runs.specs.PrivateCrashes.{BeginsWith, CrashStage, HasCome, IsLeftOn, IsNotLeft, IsStanding, SaysLeft}
use Rattle.kmip_runs.specs.PrivateCrashes.{StandsOn, between, grounds_at}
use Rattle.kmip_runs.specs.Private.{RanTurned}
use Rattle.kmip_runs.specs.Remembering.{Talk, resumed, saved_numbered, start_knowns}
use Rattle.kmip_runs.specs.Saved.{AreKept, HasMemory, Moment, Situation, grounds_in, moment, text_at}
use Rattle.kmip_runs.specs.TurnedRuns.{RunTurned, resumed_client}
use Rattle.kmip_runs.specs.Turning.{IsTurnedUntil, Turns, stop_in}
use Rattle.kmip_runs.specs.declared.crash.Crash.{Crash}
use Rattle.kmip_runs.specs.declared.left.Left.{Left}
use Rattle.kmip_runs.specs.declared.left.Left.TheVariants.{Torn}
use Rattle.kmip_runs.specs.declared.run.Run.{Run}
use Rattle.kmip_runs.specs.declared.run_end.RunEnd.{RunEnd}
use Rattle.kmip_runs.specs.declared.start.Start.{Start}
use Rattle.kmip_runs.specs.declared.start.Start.TheVariants.{Fresh, Same, Saved}
use Rattle.kmip_runs.specs.declared.save_fault.SaveFault.{SaveFault}
use Rattle.kmip_runs.specs.declared.stop.Stop.{Stop}
use Rattle.kmip_runs.specs.declared.stop.Stop.TheVariants as stops
use Rattle.kmip_ttlv.specs.declared.no_memory.NoMemory.{NoMemory}
use Rattle.kmip_runs.proofs.CampaignLemmas.{good_with, stood, true_onward}
use Rattle.kmip_runs.proofs.KeptLemmas.{keeps_from}
use Rattle.kmip_runs.proofs.KnownLemmas.{delivered_stays}
use Rattle.kmip_runs.proofs.TurnedRunLemmas.{left_same}
use Rattle.kmip_runs.proofs.WentLemmas.{kept_itself, kept_then}

-- ---- what a crash leaves of one run

-- who goes on from what was kept knows as much
kept_again : (knowns : List Knowledge) → AllZip IsKept knowns (map knowledge_from (map known_of knowns))
kept_again [] = tt
kept_again (known ∷ knowns) = (record { identifier_kept = λ uid is. is; done_kept = omega arith }, kept_again knowns)

true_of_held : (objects : List Object) (keys : List Key) (knowns : List Knowledge) → Held objects keys knowns
    → TrueProgress objects keys (map known_of knowns)
true_of_held objects [] [] held = tt
true_of_held objects [] (known ∷ knowns) held = absurd held
true_of_held objects (key ∷ keys) [] held = absurd held
true_of_held objects (key ∷ keys) (known ∷ knowns) held = (held.0.holds, true_of_held objects keys knowns held.1)

abbrev read_as : Result (List Known) ProgressFault → Result (List Known) ProgressFault
read_as r = r

same_saved : (xs ys : List Known) → read_as (Ok xs) ≡ read_as (Ok ys) → xs ≡ ys
same_saved xs ys e = cc

-- What was left takes back nothing of what its run began with; and it is true where all was good.
pub record IsFine (keys : List Key) (begun : List Knowledge) (good : Type 0) (objects : List Object)
    (left : List Known) : Type 0 where
  pub kept : AllZip IsKept begun (resume keys left).knowns
  pub true_of : good → TrueProgress objects keys left

-- what is known at a moment is fine, where it takes back nothing and is true
fine_at : (keys : List Key) (begun knowns : List Knowledge) (good : Type 0) (objects : List Object)
    (left : List Known) → AllZip IsKept begun knowns
    → (good → Held objects keys knowns) → left ≡ map known_of knowns → IsFine keys begun good objects left
fine_at keys begun knowns good objects left kept held is =
    subst (IsFine keys begun good objects) (sym is)
    (record {
      kept = kept_then begun knowns (map knowledge_from (map known_of knowns)) kept (kept_again knowns);
      true_of = λ all. true_of_held objects keys knowns (held all);
    })

-- the text of one of these moments
one_is_fine : (keys : List Key) (begun knowns : List Knowledge) (good : Type 0) (objects : List Object)
    (moments rest : List Moment) (text : List ℕ) (left : List Known)
    → AllZip IsKept begun knowns → All (IsReadBack keys) moments → AreKept knowns (moments ++ rest)
    → (good → All (λ (m : Moment). Held objects keys m.knowns) moments) → read_text keys text ≡ Ok left
    → IsOneOf (map (text_at keys) moments) (Some text) → IsFine keys begun good objects left
one_is_fine keys begun knowns good objects [] rest text left kept read grows held said one = absurd one
one_is_fine keys begun knowns good objects (m ∷ moments) rest text left kept read grows held said (inl is) =
    let same : text ≡ text_at keys m = cc in
    fine_at keys begun m.knowns good objects left (kept_then begun knowns m.knowns kept grows.0)
    (λ all. All-head (λ (m : Moment). Held objects keys m.knowns) m moments (held all))
    (same_saved left (map known_of m.knowns)
    (sym said ∙ ap (λ t. read_text keys t) same ∙ All-head (IsReadBack keys) m moments read))
one_is_fine keys begun knowns good objects (m ∷ moments) rest text left kept read grows held said (inr one) =
    one_is_fine keys begun m.knowns good objects moments rest text left (kept_then begun knowns m.knowns kept grows.0)
    (All-tail (IsReadBack keys) m moments read) grows.1
    (λ all. All-tail (λ (m : Moment). Held objects keys m.knowns) m moments (held all)) said one

-- so is the text of its end, if that was tried
tried_is_fine : (keys : List Key) (begun : List Knowledge) (good : Type 0) (objects : List Object) (ended : Moment)
    (tried : List (List ℕ)) (text : List ℕ) (left : List Known)
    → AllZip IsKept begun ended.knowns → All (IsTextOf keys ended) tried → (good → Held objects keys ended.knowns)
    → read_text keys text ≡ Ok left
    → IsOneOf tried (Some text) → IsFine keys begun good objects left
tried_is_fine keys begun good objects ended [] text left kept read held said one = absurd one
tried_is_fine keys begun good objects ended (t ∷ tried) text left kept read held said (inl is) =
    let same : text ≡ t = cc in
    fine_at keys begun ended.knowns good objects left kept held
    (same_saved left (map known_of ended.knowns)
    (sym said ∙ ap (λ t. read_text keys t) same ∙ (All-head (IsTextOf keys ended) t tried read).1))
tried_is_fine keys begun good objects ended (t ∷ tried) text left kept read held said (inr one) =
    tried_is_fine keys begun good objects ended tried text left kept (All-tail (IsTextOf keys ended) t tried read)
    held said one

-- one of the texts of the run is one of its moments, or of the end
one_of_either : (first second : List (List ℕ)) (c : Content) → IsOneOf (first ++ second) c
    → IsOneOf first c ⊎ IsOneOf second c
one_of_either [] second c one = inr one
one_of_either (text ∷ first) second c (inl is) = inl (inl is)
one_of_either (text ∷ first) second c (inr one) =
    ⊎_elim (λ in_first. inl (inr in_first)) (λ in_second. inr in_second) (one_of_either first second c one)

none_tried : (texts : List (List ℕ)) {X : Type 0} → IsOneOf texts None → X
none_tried [] one = absurd one
none_tried (text ∷ texts) (inl is) = absurd cc
none_tried (text ∷ texts) (inr one) = none_tried texts one

-- the end takes back nothing
kept_to_end : (knowns : List Knowledge) (moments : List Moment) (ended : Moment)
    → AreKept knowns (moments ++ ended ∷ []) → AllZip IsKept knowns ended.knowns
kept_to_end knowns [] ended kept = kept.0
kept_to_end knowns (m ∷ moments) ended kept =
    kept_then knowns m.knowns ended.knowns kept.0 (kept_to_end m.knowns moments ended kept.1)

-- the text of one of these moments is read back
moment_read : (keys : List Key) (moments : List Moment) (text : List ℕ) → All (IsReadBack keys) moments
    → IsOneOf (map (text_at keys) moments) (Some text)
    → (left : List Known) × (read_text keys text ≡ Ok left)
moment_read keys [] text read one = absurd one
moment_read keys (m ∷ moments) text read (inl is) =
    let same : text ≡ text_at keys m = cc in
    (map known_of m.knowns, ap (λ t. read_text keys t) same ∙ All-head (IsReadBack keys) m moments read)
moment_read keys (m ∷ moments) text read (inr one) =
    moment_read keys moments text (All-tail (IsReadBack keys) m moments read) one

-- so is the text of its end, if that was tried
tried_read : (keys : List Key) (ended : Moment) (tried : List (List ℕ)) (text : List ℕ)
    → All (IsTextOf keys ended) tried → IsOneOf tried (Some text)
    → (left : List Known) × (read_text keys text ≡ Ok left)
tried_read keys ended [] text read one = absurd one
tried_read keys ended (t ∷ tried) text read (inl is) =
    let same : text ≡ t = cc in
    (map known_of ended.knowns, ap (λ t. read_text keys t) same ∙ (All-head (IsTextOf keys ended) t tried read).1)
tried_read keys ended (t ∷ tried) text read (inr one) =
    tried_read keys ended tried text (All-tail (IsTextOf keys ended) t tried read) one

-- what a crash leaves after a run
module _ (old new : Situation) (result : Result Stop SaveFault) (made : ℕ) (rules : old.keeper.disk.lawful)
    (still : new.keeper.disk.lawful)
    (begins : BeginsWith old.client old.keeper.disk) (keeps : KeepsBetween old new result made) where
  abbrev own : List Key
  own = old.client.keys

  after : Leaves own (grounds_in old).honest keeps.moments (moment new.client new.link) old.keeper.disk
      new.keeper.disk result made
  after = keeps.any_moment rules

  had : (c : Content) → new.keeper.disk.may_leave c
      → old.keeper.disk.may_leave c ⊎ IsOneOf (map (text_at own) keeps.moments ++ after.tried) c
  had c may = after.any_moment.each c (new.keeper.disk.counts_now still old.keeper.disk.moment c
      after.any_moment.later may)

  no_file : {X : Type 0} → old.keeper.disk.may_leave None ⊎ IsOneOf (map (text_at own) keeps.moments ++ after.tried)
      None → X
  no_file (inl may) = let e = begins.leaves None may in absurd cc
  no_file (inr one) = none_tried (map (text_at own) keeps.moments ++ after.tried) one

  -- it is a file
  pub some_left : {X : Type 0} → new.keeper.disk.may_leave None → X
  some_left may = no_file (had None may)

  is_begun : (text : List ℕ) → old.keeper.disk.may_leave (Some text) → text ≡ progress_text own (progress old.client)
  is_begun text may = let e = begins.leaves (Some text) may in cc

  read_of : (text : List ℕ) → old.keeper.disk.may_leave (Some text) ⊎ IsOneOf
      (map (text_at own) keeps.moments ++ after.tried) (Some text)
      → (left : List Known) × (read_text own text ≡ Ok left)
  read_of text (inl may) = (progress old.client, ap (λ t. read_text own t) (is_begun text may) ∙ begins.read_back)
  read_of text (inr one) =
      ⊎_elim (moment_read own keeps.moments text after.read_back)
      (tried_read own (moment new.client new.link) after.tried text after.tried_read_back)
      (one_of_either (map (text_at own) keeps.moments) after.tried (Some text) one)

  -- which is read back
  pub is_read : (text : List ℕ) → new.keeper.disk.may_leave (Some text) → (left : List Known)
      × (read_text own text ≡ Ok left)
  is_read text may = read_of text (had (Some text) may)

  -- and what it says is fine
  pub left_is_fine : (text : List ℕ) (left : List Known)
      → (IsGood old.client old.link → Held new.link.past.objects own old.client.knowns)
      → (IsGood old.client old.link → Held new.link.past.objects own new.client.knowns)
      → new.keeper.disk.may_leave (Some text) → read_text own text ≡ Ok left
      → IsFine own old.client.knowns (IsGood old.client old.link) new.link.past.objects left
  left_is_fine text left held ended may said = elim (had (Some text) may) [
    | inl was ↦
        fine_at own old.client.knowns old.client.knowns _ new.link.past.objects left (kept_itself old.client.knowns)
        held
        (same_saved left (progress old.client) (sym said ∙ ap (λ t. read_text own t) (is_begun text was)
        ∙ begins.read_back))
    | inr one ↦
        ⊎_elim
        (λ early.
        one_is_fine own old.client.knowns old.client.knowns _ new.link.past.objects keeps.moments _ text left
        (kept_itself old.client.knowns)
        after.read_back keeps.are.forgets_nothing keeps.are.true_of said early)
        (λ late.
        tried_is_fine own old.client.knowns _ new.link.past.objects (moment new.client new.link) after.tried text left
        (kept_to_end old.client.knowns keeps.moments (moment new.client new.link) keeps.are.forgets_nothing)
        after.tried_read_back ended said late)
        (one_of_either (map (text_at own) keeps.moments) after.tried (Some text) one)
  ]

-- a crash leaves a text, which says this
pub says_left : (keys : List Key) (begun c : ClientState) (x y : Seen) (first disk : MemoryDisk)
    (texts more : List (List ℕ)) (n m : ℕ) (result : Result Stop SaveFault) (made : ℕ)
    (left : Left) (progress : List Known) → BeginsWith begun (memory_view first)
    → KeepsBetween (record { client = begun; link = x; keeper = kept_on first texts n })
    (record { client = c; link = y; keeper = kept_on disk more m }) result made
    → IsLeftOn left disk keys progress → SaysLeft left disk keys progress
says_left keys begun c x y first disk texts more n m result made left progress begins keeps (inl says) = says
says_left keys begun c x y first disk texts more n m result made left progress begins keeps (inr none) =
    some_left (record { client = begun; link = x; keeper = kept_on first texts n })
    (record { client = c; link = y; keeper = kept_on disk more m }) result made tt tt begins keeps none

-- whatever it leaves is read back
pub cannot_leave : (keys : List Key) (begun c : ClientState) (x y : Seen) (first disk : MemoryDisk)
    (texts more : List (List ℕ)) (n m : ℕ) (result : Result Stop SaveFault) (made : ℕ)
    (left : Left) → begun.keys ≡ keys → BeginsWith begun (memory_view first)
    → KeepsBetween (record { client = begun; link = x; keeper = kept_on first texts n })
    (record { client = c; link = y; keeper = kept_on disk more m }) result made
    → IsNotLeft left disk keys → CannotLeave left disk
cannot_leave keys begun c x y first disk texts more n m result made left same begins keeps (inl cannot) = cannot
cannot_leave keys begun c x y first disk texts more n m result made left same begins keeps (inr (text, may, unread)) =
    let (progress, read) = is_read (record { client = begun; link = x; keeper = kept_on first texts n })
    (record { client = c; link = y; keeper = kept_on disk more m }) result made tt tt begins keeps text may in
    absurd (unread progress (subst (λ ks. read_text ks text ≡ Ok progress) same read))

-- who never gives up makes as many exchanges as it may
pub not_tired : {A : Type 0} → A ⊎ IsTrue false → A
not_tired (inl a) = a
not_tired (inr is) = absurd cc

-- ---- one run

-- what is true was left true
pub left_onward : Lawbook → (keys : List Key) (x y : Seen) (left : List (List Known)) → IsLawful keys
    → WentOn keys x.past y.past
    → All (TrueProgress x.past.objects keys) left → All (TrueProgress y.past.objects keys) left
left_onward l keys x y left lawful went holds =
    true_onward l keys x.past.objects y.past.objects left lawful went.onward holds

pub held_no_conflict : HeldIsNoConflict → (c : ClientState) (link : Seen) (stop : Stop) → IsGood c link
    → IsBorneOut stop c.keys c.knowns → stop ≢ stops.Conflict
held_no_conflict none c link stop good stands =
    λ is. in_conflict (subst (λ s. IsBorneOut s c.keys c.knowns) is stands).1
  where
    in_conflict : {X : Type 0} → SomeClash c.keys c.knowns → X
    in_conflict clash = absurd (none link.past.objects c.keys c.knowns good.held clash.0 clash.1 clash.3)

-- a run begins with what its client knows
start_same : (keys : List Key) (start : Start) (run : Run) (at : Between) → run.start ≡ start
    → start_knowns keys run.start at.last.knowns at.saved ≡ (start_at keys run at).knowns
start_same keys Fresh run at is = rw is refl
start_same keys Same run at is = rw is refl
start_same keys (Saved number) run at is = rw is (resumed_same keys (saved_numbered number at.saved))
  where
    resumed_same : (keys : List Key) (progress : Option (List Known))
        → resumed keys progress ≡ (resumed_client keys progress).knowns
    resumed_same keys None = refl
    resumed_same keys (Some progress) = refl

same_end : (ends : List RunEnd) (one other : RunEnd) → ends ++ one ∷ [] ≡ ends ++ other ∷ [] → one ≡ other
same_end [] one other is = cc
same_end (end ∷ ends) one other is =
    let rest : ends ++ one ∷ [] ≡ ends ++ other ∷ [] = cc in same_end ends one other rest

-- a run that no crash ended has come
pub whole_come : (keys : List Key) (run : Run) (old new : CrashStage) → new.end.left.items ≡ old.end.left.items
    → HasRun keys [] run (record { client = old.client; link = old.link; end = old.end.campaign })
    (record { client = new.client; link = new.link; end = new.end.campaign })
    → RanTurned keys (start_at keys run (between old)) new.client (old.link.honest (is_planned keys)) old.link.past
    new.link.past old.end.campaign.runs.items new.end.campaign.runs.items
    → HasCome keys (record { run = run; crash = None }) old new
whole_come keys run old new left ran turned =
    let same : turned.end ≡ ran.ended.noted.end = same_end old.end.campaign.runs.items turned.end ran.ended.noted.end
    (sym turned.joined ∙ ran.ended.noted.joined) in
    record {
      end = ran.ended.noted.end;
      joined = ran.ended.noted.joined;
      made = record {
        ended = new.client;
        is_end = ran.ended.noted.is_end;
        few = ran.ended.noted.is_end.within;
        not_torn = tt;
        forgets_nothing = subst (λ ks. AllZip IsKept ks new.client.knowns)
            (start_same keys run.start run (between old) refl) ran.forgets_nothing;
        talk = turned.talk;
        turned = subst (λ e. RunTurned keys (start_at keys run (between old)) new.client e turned.talk) same
            turned.turned;
        sent_are = turned.sent_are;
        handed_are = turned.handed_are;
        remembered = rw (ran.ended.saved_are, left) refl;
      };
    }

-- ---- a run that a crash ended

-- All is good after the exchanges of a run, whatever is noted of it: it is begun, and carried out.
pub carried_stands : Lawbook → (keys : List Key) (old : CrashStage) (begun c : ClientState) (new : CrashStage)
    (stop : Stop)
    → IsLawful keys → old.client.keys ≡ keys → begun.keys ≡ keys → new.client.keys ≡ keys → c.keys ≡ keys
    → (All (TrueProgress old.link.past.objects keys) old.end.campaign.saved.items
    → Held old.link.past.objects old.client.keys old.client.knowns
    → Held old.link.past.objects begun.keys begun.knowns)
    → (IsGood begun old.link → IsGood c new.link)
    → (IsGood begun old.link → WentOn begun.keys old.link.past new.link.past)
    → (IsGood begun old.link → stop ≢ stops.Conflict)
    → (IsGood begun old.link → IsGood c new.link → Held new.link.past.objects new.client.keys new.client.knowns)
    → ((objects : List Object) → stop ≢ stops.Conflict → Held objects c.keys c.knowns
    → Noted objects c.keys old.end.campaign.runs.items old.end.campaign.saved.items
    → Noted objects c.keys new.end.campaign.runs.items new.end.campaign.saved.items)
    → (IsGood begun old.link → All (TrueProgress new.link.past.objects keys) old.end.left.items
    → All (TrueProgress new.link.past.objects keys) new.end.left.items)
    → IsStanding keys old → StandsOn keys old new
carried_stands l keys old begun c new stop lawful old_keys begun_keys new_keys c_keys begins good goes none held notes
    lefts stands =
    let all =
    stood l keys old.client begun c old.link new.link stop old.end.campaign.runs.items new.end.campaign.runs.items
    old.end.campaign.saved.items new.end.campaign.saved.items
    lawful old_keys begun_keys c_keys begins good goes none notes stands.standing in
    let first = good_with old.client begun old.link (begun_keys ∙ sym old_keys) stands.standing.good
    (begins stands.standing.noted.true_saved stands.standing.good.held) in
    record {
      stands = record {
        standing = record {
          good = good_with c new.client new.link (new_keys ∙ sym c_keys) all.0.good (held first all.0.good);
          noted = all.0.noted;
        };
        true_left = lefts first (left_onward l keys old.link new.link old.end.left.items lawful all.1 stands.true_left);
      };
      onward = all.1;
    }

-- What was said and heard in a run, whose turns made the last client of the first.
pub record HasTalked (first last : ClientState) (exchanges : ℕ) (honest : Type 0) (old new : Past) : Type 0 where
  pub talk : Talk
  pub turns : Turns talk.questions talk.answers first last
  pub as_many : length talk.questions ≡ exchanges
  pub sent_are : honest → new.sent ≡ old.sent ++ talk.questions
  pub handed_are : honest → new.handed ≡ old.handed ++ talk.answers

in_memory : (result : Result Stop SaveFault) → HasMemory result → stop_in result ≢ stops.NoMemory
in_memory (Ok stop) memory = λ is. memory.0 (ap (λ s. Ok s) is)
in_memory (Err fault) memory = λ is. absurd cc

-- until its end nothing else was
pub talked : (honest : Type 0) (result : Result Stop SaveFault) (made : ℕ) (begun c : ClientState) (old new : Past)
    → HasMemory result
    → IsTurnedUntil honest (stop_in result) made begun c old new → HasTalked begun c made honest old new
talked honest result made begun c old new memory turned =
    let until = turned.turned in
    let same : c ≡ until.last = left_same (stop_in result) until.last c (in_memory result memory) until.left in
    record {
      talk = record { questions = until.questions; answers = until.answers };
      turns = subst (λ s. Turns until.questions until.answers begun s) (sym same) until.turns;
      as_many = until.as_many;
      sent_are = λ holds. (delivered_stays (is_planned begun.keys) turned.until new (turned.closed holds)).sent_stays
          ∙ until.sent_are holds;
      handed_are = λ holds. (delivered_stays (is_planned begun.keys) turned.until new
          (turned.closed holds)).handed_stays ∙ until.handed_are holds (in_memory result memory);
    }

-- a run that was carried out on a disk
pub kept_so : (keys : List Key) (at : CrashStage) (run : Run) (calls : ℕ) (begun c : ClientState) (link : Seen)
    (first disk : MemoryDisk) (none texts : List (List ℕ)) (zeroes refusals : ℕ)
    (result : Result Stop SaveFault) (made : ℕ) → begun.keys ≡ keys → begun.batch ≡ run.batch → c.keys ≡ keys
    → none ≡ [] → zeroes ≡ 0
    → first.turns.limit ≡ calls → first.turns.left ≡ calls → BeginsWith begun (memory_view first)
    → (IsStanding keys at → IsGood begun at.link) → HasMemory result
    → KeepsBetween (record { client = begun; link = at.link; keeper = kept_on first none zeroes })
    (record { client = c; link = link; keeper = kept_on disk texts refusals }) result made
    → IfOk result (λ stop. IsBorneOut stop c.keys c.knowns) → (result ≡ Ok stops.Limit → made ≡ run.limit)
    → made ≤ run.limit
    → IsKeptOn keys (grounds_at keys at) calls
    (record { run = run; begun = moment begun at.link; ended = moment c link; exchanges = made }) disk
kept_so keys at run calls begun c link first disk none texts zeroes refusals result made same batch c_same no_text
    no_refusal limit left begins good memory keeps reason to_limit within =
    let leaves = keeps.any_moment tt in
    record {
      first = first;
      begins = λ content may. subst (λ ks. content ≡ Some (progress_text ks (progress begun))) same
          (begins.leaves content may);
      first_limit = limit;
      first_left = left;
      limit = let is : Some disk.turns.limit ≡ Some first.turns.limit = leaves.limit in let
          so : disk.turns.limit ≡ first.turns.limit = cc in so ∙ limit;
      result = result;
      memory = memory;
      texts = texts;
      refusals = refusals;
      moments =
          keeps_from keys run.batch (grounds_at keys at)
          (record { good = IsGood begun at.link; honest = at.link.honest (is_planned begun.keys) })
          (moment begun at.link) (moment c link)
          (kept_on first [] 0) (kept_on disk texts refusals) result made good
          (λ holds. subst (λ ks. at.link.honest (is_planned ks)) (sym same) holds)
          (subst (λ ts. KeepsMoments keys run.batch
          (grounds_in (record { client = begun; link = at.link; keeper = kept_on first none zeroes }))
          (moment begun at.link) (moment c link) (kept_on first ts 0) (kept_on disk texts refusals) result made)
          no_text
          (subst (λ n. KeepsMoments keys run.batch
          (grounds_in (record { client = begun; link = at.link; keeper = kept_on first none zeroes }))
          (moment begun at.link) (moment c link) (kept_on first none n) (kept_on disk texts refusals) result made)
          no_refusal
          (subst (λ n. KeepsMoments keys n (grounds_in
          (record { client = begun; link = at.link; keeper = kept_on first none zeroes })) (moment begun at.link)
          (moment c link) (kept_on first none zeroes) (kept_on disk texts refusals) result made) batch
          (subst (λ ks. KeepsMoments ks begun.batch
          (grounds_in (record { client = begun; link = at.link; keeper = kept_on first none zeroes }))
          (moment begun at.link) (moment c link) (kept_on first none zeroes) (kept_on disk texts refusals) result
          made) same keeps))));
      reason = subst (λ ks. IfOk result (λ stop. IsBorneOut stop ks c.knowns)) c_same reason;
      to_limit = to_limit;
      within = within;
    }

-- the end of a run that a crash ended shows what it knew, and what the crash left is remembered
pub crashed_come : (keys : List Key) (run : Run) (crash : Crash) (begun c : ClientState) (old new : CrashStage)
    (driven : Stop × ℕ) (disk : MemoryDisk) (left : List Known) (good : Type 0)
    → crash.left ≢ Torn → begun ≡ start_at keys run (between old) → driven.1 ≤ run.limit
    → HasEnded keys (record run { limit = driven.1; save = false }) c.knowns driven old.end.campaign new.end.campaign
    → AllZip IsKept begun.knowns c.knowns → IsFine keys begun.knowns good new.link.past.objects left
    → SaysLeft crash.left disk keys left
    → IsKeptOn keys (grounds_at keys old) crash.calls
    (record { run = run; begun = moment begun old.link; ended = moment c new.link; exchanges = driven.1 }) disk
    → HasTalked begun c driven.1 (old.link.honest (is_planned keys)) old.link.past new.link.past
    → new.client ≡ resume keys left → new.end.left.items ≡ old.end.left.items ++ left ∷ []
    → HasCome keys (record { run = run; crash = Some crash }) old new
crashed_come keys run crash begun c old new driven disk left good whole begins within ended kept fine says on said
    last lefts =
    let start = start_at keys run (between old) in
    let known : begun.knowns ≡ start.knowns = ap (λ s. s.knowns) begins in
    let count : driven.1 ≡ ended.noted.end.exchanges = sym ended.noted.exchanges_is in
    record {
      end = ended.noted.end;
      joined = ended.noted.joined;
      made = record {
        ended = c;
        is_end = subst (λ limit. IsEnd keys (record run { limit = limit; save = false }) ended.noted.end) count
            ended.noted.is_end;
        few = subst (λ n. n ≤ run.limit) count within;
        not_torn = whole;
        forgets_nothing = subst (λ ks. AllZip IsKept ks c.knowns) known kept;
        talk = said.talk;
        turned = record {
          turns = subst (λ s. Turns said.talk.questions said.talk.answers s c) begins said.turns;
          as_many = said.as_many ∙ count;
          shows = ended.noted.shows;
        };
        sent_are = said.sent_are;
        handed_are = said.handed_are;
        remembered = record {
          disk = disk;
          kept_on_disk =
              subst (λ n. IsKeptOn keys (grounds_at keys old) crash.calls
              (record {
                run = run;
                begun = record { knowns = start.knowns; past = old.link.past };
                ended = moment
                    c new.link;
                exchanges = n;
              }) disk) count
              (subst (λ ks. IsKeptOn keys (grounds_at keys old) crash.calls
              (record {
                run = run;
                begun = record { knowns = ks; past = old.link.past };
                ended = moment c
                    new.link;
                exchanges = driven.1;
              }) disk) known on);
          text = says.text;
          text_is = says.text_is;
          left = left;
          read_back = says.read_back;
          last_is = last;
          kept = subst (λ s. AllZip IsKept start.knowns s.knowns) (sym last)
              (subst (λ ks. AllZip IsKept ks (resume keys left).knowns) known fine.kept);
          left_are = lefts;
          saved_stay = ended.saved_are;
        };
      };
    }

-- the crash of a run that was carried out is refused
pub refused_come : (keys : List Key) (run : Run) (crash : Crash) (begun c : ClientState) (old : CrashStage)
    (link : Seen) (made : ℕ) (disk : MemoryDisk) → begun ≡ start_at keys run (between old)
    → IsKeptOn keys (grounds_at keys old) crash.calls
    (record { run = run; begun = moment begun old.link; ended = moment c link; exchanges = made }) disk
    → CannotLeave crash.left disk → IsRefused keys (grounds_at keys old) run crash (between old) link.past
refused_come keys run crash begun c old link made disk begins on cannot =
    let start = start_at keys run (between old) in
    record {
      ended = c;
      exchanges = made;
      disk = disk;
      kept_on_disk =
          subst (λ ks. IsKeptOn keys (grounds_at keys old) crash.calls
          (record {
            run = run;
            begun = record { knowns = ks; past = old.link.past };
            ended = moment c link;
            exchanges = made;
          }) disk)
          (ap (λ s. s.knowns) begins) on;
      cannot = cannot;
    }

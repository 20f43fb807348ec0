-- Runs in turn, of which a crash of the machine may end some: what is left of each, and what the next goes on from.
-- Source: own (view); what is own (choice) says so.
use Rattle.std.specs.Prelude.{◌≡◌, ◌≢◌, ◌≤◌, ⊤, List, [], ◌∷◌, ◌++◌, false, IsSome, IsTrue, length, map, None, Ok, Option, slice_get, Some, take, ℕ}
use Rattle.std.specs.List.{All, AllZip}
use Rattle.kmip_client.specs.Clients.{ClientState, fresh}
use Rattle.kmip_client.specs.Held.{TrueProgress}
use Rattle.kmip_client.specs.Saving.{resume}
use Rattle.kmip_client.specs.Shapes.{IsKept}
use Rattle.kmip_disk.specs.declared.memory_disk.MemoryDisk.{MemoryDisk}
use Rattle.kmip_plan.specs.declared.key.Key.{Key}
use Rattle.kmip_progress.specs.Reading.{read_text}
use Rattle.kmip_progress.specs.declared.known.Known.{Known}
use Rattle.kmip_protocol.specs.Headline.{Safe}
use Rattle.kmip_protocol.specs.Machine.{IsMirrored}
use Rattle.kmip_protocol.specs.Past.{Past, is_planned}
use Rattle.kmip_protocol.specs.Seen.{Seen}
use Rattle.kmip_protocol.specs.Sound.{Opening}
use Rattle.kmip_runs.specs.Campaign.{HasNoConflict, IsEnd, MayBatch}
use Rattle.kmip_runs.specs.CrashedDisks.{CannotLeave, CarriedRun, IsKeptOn, LeavesAtStop}
use Rattle.kmip_runs.specs.Driving.{WentOn}
use Rattle.kmip_runs.specs.Headline.{GoodLink, reported}
use Rattle.kmip_runs.specs.Remembering.{Talk, saved_after}
use Rattle.kmip_runs.specs.Saved.{Grounds}
use Rattle.kmip_runs.specs.TurnedRuns.{RunTurned, begin_client}
use Rattle.kmip_runs.specs.declared.crash.Crash.{Crash}
use Rattle.kmip_runs.specs.declared.left.Left.TheVariants.{Torn}
use Rattle.kmip_runs.specs.declared.crashes_end.CrashesEnd.{CrashesEnd}
use Rattle.kmip_runs.specs.declared.crashing_run.CrashingRun.{CrashingRun}
use Rattle.kmip_runs.specs.declared.run.Run.{Run}
use Rattle.kmip_runs.specs.declared.run_end.RunEnd.{RunEnd}

-- each of the runs asks about one to eight keys at once; own (limit)
abbrev pub MayCrash : List CrashingRun → Type 0
MayCrash runs = MayBatch (map (λ crashing. crashing.run) runs)

-- what stands between two runs: the client that one which begins with `Same` goes on with, what was saved, what
-- crashes left, and all that has happened
pub record Between : Type 0 where
  pub last : ClientState
  pub saved : List (List Known)
  pub left : List (List Known)
  pub past : Past

-- before the first run nothing is known, saved or left
abbrev pub at_first : List Key → Past → Between
at_first keys past = record { last = fresh keys; saved = []; left = []; past = past }

-- the client that a run begins with, which asks about as many keys at once as the run says
abbrev pub start_at : List Key → Run → Between → ClientState
start_at keys run at = begin_client keys run at.last at.saved

-- the run as it was where a crash ended it: it made as many exchanges as it made, and nothing is saved of it;
-- own (choice)
abbrev pub cut_run : Option Crash → Run → RunEnd → Run
cut_run None run end = run
cut_run (Some crash) run end = record run { limit = end.exchanges; save = false }

-- A crash left this, and the run after it goes on from it. It was left of the disk that the run was carried out on,
-- which stopped after as many calls as the crash says. It takes back no identifier and no count of what the run
-- began with.
pub record IsLeftBy (keys : List Key) (grounds : Grounds) (crash : Crash) (carried : CarriedRun) (old new : Between) : Type 0 where
  pub disk : MemoryDisk
  pub kept_on_disk : IsKeptOn keys grounds crash.calls carried disk
  pub text : List ℕ
  pub text_is : LeavesAtStop crash.left disk (Some text)
  pub left : List Known
  pub read_back : read_text keys text ≡ Ok left
  pub last_is : new.last ≡ resume keys left
  pub kept : AllZip IsKept carried.begun.knowns new.last.knowns
  pub left_are : new.left ≡ old.left ++ left ∷ []
  pub saved_stay : new.saved ≡ old.saved

-- What is remembered after a run that left this client: all that it knows, and what is saved; or what a crash left.
abbrev pub IsRemembered : List Key → Grounds → Option Crash → CarriedRun → ClientState → Between → Between → Type 0
IsRemembered keys grounds None carried ended old new =
    new ≡ record { last = ended; saved = saved_after carried.run ended.knowns old.saved; left = old.left; past = new.past }
IsRemembered keys grounds (Some crash) carried ended old new = IsLeftBy keys grounds crash carried old new

-- no crash leaves a text that is cut off
abbrev pub IsNotTorn : Option Crash → Type 0
IsNotTorn None = ⊤
IsNotTorn (Some crash) = crash.left ≢ Torn

-- there is such a run, and a crash is to end it
abbrev pub IsCrashing : Option CrashingRun → Type 0
IsCrashing None = ⊥
IsCrashing (Some crashing) = IsSome crashing.crash

-- a run between two moments, which left this client and ended so
abbrev pub carried_between : List Key → Run → RunEnd → ClientState → Between → Between → CarriedRun
carried_between keys run end ended old new = record {
  run = run;
  begun = record { knowns = (start_at keys run old).knowns; past = old.past };
  ended = record { knowns = ended.knowns; past = new.past };
  exchanges = end.exchanges;
}

-- The run was made, and ended so. It takes back nothing of what it began with, and makes no more exchanges than
-- it may. Its turns made the client that it leaves of the one that it begins with, and over an honest link nothing
-- else was sent or handed over.
pub record IsMade (keys : List Key) (grounds : Grounds) (crashing : CrashingRun) (end : RunEnd) (old new : Between) : Type 0 where
  pub ended : ClientState
  pub is_end : IsEnd keys (cut_run crashing.crash crashing.run end) end
  pub few : end.exchanges ≤ crashing.run.limit
  pub not_torn : IsNotTorn crashing.crash
  pub forgets_nothing : AllZip IsKept (start_at keys crashing.run old).knowns ended.knowns
  pub talk : Talk
  pub turned : RunTurned keys (start_at keys crashing.run old) ended end talk
  pub sent_are : grounds.honest → new.past.sent ≡ old.past.sent ++ talk.questions
  pub handed_are : grounds.honest → new.past.handed ≡ old.past.handed ++ talk.answers
  pub remembered : IsRemembered keys grounds crashing.crash (carried_between keys crashing.run end ended old new) ended old new

-- The runs were made in turn, and ended so; each begins with what is remembered after the one before.
abbrev pub AreMade : List Key → Grounds → List CrashingRun → List RunEnd → Between → Between → Type 0
AreMade keys grounds [] [] old new = new ≡ old
AreMade keys grounds [] (end ∷ ends) old new = ⊥
AreMade keys grounds (run ∷ runs) [] old new = ⊥
AreMade keys grounds (run ∷ runs) (end ∷ ends) old new =
    (mid : Between) × IsMade keys grounds run end old mid × AreMade keys grounds runs ends mid new

-- The run was carried out as far as it goes, and the crash that is to end it cannot be: its disk has not stopped, or
-- no such file may be left.
pub record IsRefused (keys : List Key) (grounds : Grounds) (run : Run) (crash : Crash) (old : Between) (new : Past) : Type 0 where
  pub ended : ClientState
  pub exchanges : ℕ
  pub disk : MemoryDisk
  pub kept_on_disk : IsKeptOn keys grounds crash.calls (record {
    run = run;
    begun = record { knowns = (start_at keys run old).knowns; past = old.past };
    ended = record { knowns = ended.knowns; past = new };
    exchanges = exchanges;
  }) disk
  pub cannot : CannotLeave crash.left disk

-- a crash that is to end this run is refused
abbrev pub RefusesCrash : List Key → Grounds → Run → Option Crash → Between → Past → Type 0
RefusesCrash keys grounds run None old new = ⊥
RefusesCrash keys grounds run (Some crash) old new = IsRefused keys grounds run crash old new

-- there is such a run, and the crash that is to end it is refused
abbrev pub RefusesRun : List Key → Grounds → Option CrashingRun → Between → Past → Type 0
RefusesRun keys grounds None old new = ⊥
RefusesRun keys grounds (Some crashing) old new = RefusesCrash keys grounds crashing.run crashing.crash old new

-- what may be premised of runs over this link: that it is good, or honest, at their start
abbrev pub grounds_over : List Key → Seen → Grounds
grounds_over keys link = record { good = GoodLink keys link; honest = link.honest (is_planned keys) }

-- What runs that crashes may end promise over a good link, wherever memory ran out, or a crash was refused.
pub record CrashesWell (old : Seen) (keys : List Key) (end : CrashesEnd) (new : Seen) : Type 0 where
  -- Over a good link, the past is safe for all that the ends and the saves report done, as after a campaign
  -- with no crash.
  pub safe : Safe keys new.past (reported keys end.campaign.runs.items end.campaign.saved.items)
  -- Over a good link the past is an image of a run of the plan machine, where nothing of the plan had
  -- happened before, or where the past was such an image before.
  pub machine : (Opening keys old.past → IsMirrored keys new.past) × (IsMirrored keys old.past → IsMirrored keys new.past)
  -- Over a good link no run stops in conflict, and no end has a key in conflict.
  pub no_conflict : All HasNoConflict end.campaign.runs.items
  -- A good link is good after it too.
  pub sound : GoodLink keys new
  -- Over a good link each saved progress is true of the objects that are there after it.
  pub true_saved : All (TrueProgress new.past.objects keys) end.campaign.saved.items
  -- So is what each crash left.
  pub true_left : All (TrueProgress new.past.objects keys) end.left.items
  -- Over a good link the object of each planned name keeps its identifier and never goes back.
  -- And it may pass over the links of others of the plan (`WentOn`).
  pub onward : WentOn keys old.past new.past

-- The runs of a plan were made in turn over a link, and crashes ended some of them. `follows` is that the link after
-- it is what calls made of the link before.
pub record MakesCrashes (old : Seen) (keys : List Key) (runs : List CrashingRun) (end : CrashesEnd) (new : Seen) (follows : Type 0) : Type 0 where
  -- Over a good link all of this holds.
  pub well : GoodLink keys old → CrashesWell old keys end new
  -- A link that was honest for the plan's names is so after it.
  pub honest : old.honest (is_planned keys) → new.honest (is_planned keys)
  -- Over any link the ends are those of the first runs, in order. Each run begins with nothing, with a save,
  -- or with what is remembered: after a crash, that is what the crash left.
  pub last : ClientState
  pub until : Past
  pub made : AreMade keys (grounds_over keys old) (take (length end.campaign.runs.items) runs) end.campaign.runs.items
      (at_first keys old.past)
      (record { last = last; saved = end.campaign.saved.items; left = end.left.items; past = until })
  -- Unless memory ran out or a crash was refused, nothing happened after the last of these ends.
  pub no_more : end.campaign.fault ≡ None → end.is_refused ≡ false → until ≡ new.past
  -- A crash was refused only where one is to end the run after those that have ends.
  pub refused : IsTrue end.is_refused → IsCrashing (slice_get runs (length end.campaign.runs.items))
  -- That run was carried out then, and its disk has not stopped, or a crash leaves no such file.
  pub refused_so : IsTrue end.is_refused → RefusesRun keys (grounds_over keys old)
      (slice_get runs (length end.campaign.runs.items))
      (record { last = last; saved = end.campaign.saved.items; left = end.left.items; past = until }) new.past
  -- Unless memory ran out or a crash was refused, each run has its end.
  pub complete : end.campaign.fault ≡ None → end.is_refused ≡ false → length end.campaign.runs.items ≡ length runs
  -- Unless memory ran out, the link after it is what calls made of the link before, as the link itself tells it.
  pub followed : end.campaign.fault ≡ None → follows

-- Private: what the parts of runs keep of which a crash of the machine may end some.
-- Source: own (view).
use Rattle.std.specs.Prelude.{◌≡◌, ◌≢◌, ◌⊎◌, ◌++◌, ◌∷◌, [], ℕ, Err, IsSome, List, None, Ok, OnErr, OnOk, Result, Some, length, slice_get, take}
use Rattle.std.specs.List.{All}
use Rattle.kmip_client.specs.Clients.{ClientState}
use Rattle.kmip_client.specs.Held.{TrueProgress}
use Rattle.kmip_client.specs.Saving.{progress}
use Rattle.kmip_disk.specs.Memory.{memory_view}
use Rattle.kmip_disk.specs.Views.{Content, DiskView}
use Rattle.kmip_disk.specs.declared.memory_disk.MemoryDisk.{MemoryDisk}
use Rattle.kmip_plan.specs.declared.key.Key.{Key}
use Rattle.kmip_progress.specs.Suiting.{Suits}
use Rattle.kmip_progress.specs.Reading.{read_text}
use Rattle.kmip_progress.specs.Texts.{progress_text}
use Rattle.kmip_progress.specs.declared.known.Known.{Known}
use Rattle.kmip_protocol.specs.Past.{Past, is_planned}
use Rattle.kmip_protocol.specs.Seen.{Seen}
use Rattle.kmip_runs.specs.CrashedDisks.{CannotLeave, LeavesAtStop}
use Rattle.kmip_runs.specs.Crashes.{AreMade, Between, IsCrashing, IsMade, RefusesCrash, RefusesRun, at_first, grounds_over}
use Rattle.kmip_runs.specs.Driving.{WentOn}
use Rattle.kmip_runs.specs.Headline.{GoodLink}
use Rattle.kmip_runs.specs.PrivateCampaignParts.{Campaigned, Standing}
use Rattle.kmip_runs.specs.declared.crash_fault.CrashFault.{CrashFault}
use Rattle.kmip_runs.specs.declared.crash_fault.CrashFault.TheVariants.{NoMemory as Wanting, Refused}
use Rattle.kmip_runs.specs.declared.left.Left.{Left}
use Rattle.kmip_runs.specs.Saved.{Grounds}
use Rattle.kmip_runs.specs.declared.crashes_end.CrashesEnd.{CrashesEnd}
use Rattle.kmip_runs.specs.declared.crashing_run.CrashingRun.{CrashingRun}
use Rattle.kmip_runs.specs.declared.run_end.RunEnd.{RunEnd}

-- A crash of this disk leaves the text of what the client knows, and nothing else. The text is read back.
pub record BeginsWith (c : ClientState) (disk : DiskView) : Type 0 where
  pub leaves : (left : Content) → disk.may_leave left → left ≡ Some (progress_text c.keys (progress c))
  pub read_back : read_text c.keys (progress_text c.keys (progress c)) ≡ Ok (progress c)

-- The progress is what a text says that a crash of this disk leaves.
pub record SaysLeft (left : Left) (disk : MemoryDisk) (keys : List Key) (progress : List Known) : Type 0 where
  pub text : List ℕ
  pub text_is : LeavesAtStop left disk (Some text)
  pub may : (memory_view disk).may_leave (Some text)
  pub read_back : read_text keys text ≡ Ok progress

-- the progress is what a text says that a crash of this disk leaves; or it leaves no file
abbrev pub IsLeftOn : Left → MemoryDisk → List Key → List Known → Type 0
IsLeftOn left disk keys progress = SaysLeft left disk keys progress ⊎ (memory_view disk).may_leave None

-- Nothing such may be left; or what is left is a text that is no progress of the plan.
abbrev pub IsNotLeft : Left → MemoryDisk → List Key → Type 0
IsNotLeft left disk keys =
    CannotLeave left disk
    ⊎ ((text : List ℕ) × (memory_view disk).may_leave (Some text) × ((progress : List Known) → read_text keys text ≢ Ok progress))

-- What is seen at a moment: of the client, of the link, and what is noted so far.
pub record CrashStage : Type 1 where
  pub client : ClientState
  pub link : Seen
  pub end : CrashesEnd

-- what stands between two runs at a moment
abbrev pub between : CrashStage → Between
between at = record { last = at.client; saved = at.end.campaign.saved.items; left = at.end.left.items; past = at.link.past }

-- All is good, and what was noted and left so far is true.
pub record IsStanding (keys : List Key) (at : CrashStage) : Type 0 where
  pub standing : Standing keys at.client at.link at.end.campaign.runs.items at.end.campaign.saved.items
  pub true_left : All (TrueProgress at.link.past.objects keys) at.end.left.items

-- what may be premised of a run at a moment: that all is good, or the link honest
abbrev pub grounds_at : List Key → CrashStage → Grounds
grounds_at keys at = record { good = IsStanding keys at; honest = at.link.honest (is_planned keys) }

-- All is good still, and the objects have gone onward.
pub record StandsOn (keys : List Key) (old new : CrashStage) : Type 0 where
  pub stands : IsStanding keys new
  pub onward : WentOn keys old.link.past new.link.past

-- One more run has its end.
pub record HasCome (keys : List Key) (run : CrashingRun) (old new : CrashStage) : Type 0 where
  pub end : RunEnd
  pub joined : new.end.campaign.runs.items ≡ old.end.campaign.runs.items ++ end ∷ []
  pub made : IsMade keys (grounds_at keys old) run end (between old) (between new)

-- Nothing more is noted.
pub record IsUnchanged (old new : CrashesEnd) : Type 0 where
  pub same_runs : new.campaign.runs.items ≡ old.campaign.runs.items
  pub same_saved : new.campaign.saved.items ≡ old.campaign.saved.items
  pub same_left : new.left.items ≡ old.left.items

-- A run was made, and a crash may have ended it. `follows` is that the link after it is what calls made of the link
-- before.
pub record CrashesOne (keys : List Key) (run : CrashingRun) (old : CrashStage) (result : Result (Unit {0}) CrashFault) (new : CrashStage) (follows : Type 0) : Type 0 where
  -- The client is one of the plan.
  pub keys_stay : new.client.keys ≡ keys
  -- What is saved by then suits the plan.
  pub suits : All (Suits keys) new.end.campaign.saved.items
  -- Where all was good before, it is so still.
  pub well : IsStanding keys old → StandsOn keys old new
  -- A link that was honest for the plan's names is so after it.
  pub honest : old.link.honest (is_planned keys) → new.link.honest (is_planned keys)
  -- At `Ok` it has its end.
  pub come : OnOk result (HasCome keys run old new)
  -- At a fault nothing is noted of it.
  pub same : OnErr result (IsUnchanged old.end new.end)
  -- A crash is refused only where one is to end it.
  pub refused : result ≡ Err Refused → IsSome run.crash
  -- It was carried out then, and the crash cannot be.
  pub refused_so : result ≡ Err Refused → RefusesCrash keys (grounds_at keys old) run.run run.crash (between old) new.link.past
  -- Unless memory ran out, the link after it is what calls made of the link before.
  pub followed : result ≢ Err Wanting → follows

-- What is good after several runs, whatever the client knows.
pub record CrashesGood (keys : List Key) (old new : Seen) (end : CrashesEnd) : Type 0 where
  pub campaigned : Campaigned keys old new end.campaign.runs.items end.campaign.saved.items
  pub true_left : All (TrueProgress new.past.objects keys) end.left.items

-- The runs were made in turn, and crashes ended some of them.
pub record CrashesEach (old : Seen) (keys : List Key) (runs : List CrashingRun) (result : Result (Unit {0}) CrashFault) (end : CrashesEnd) (new : Seen) (follows : Type 0) : Type 0 where
  -- Over a good link all is good.
  pub well : GoodLink keys old → CrashesGood keys old new end
  -- A link that was honest for the plan's names is so after it.
  pub honest : old.honest (is_planned keys) → new.honest (is_planned keys)
  -- The ends are those of the first runs, in order.
  pub last : ClientState
  pub until : Past
  pub made : AreMade keys (grounds_over keys old) (take (length end.campaign.runs.items) runs) end.campaign.runs.items (at_first keys old.past)
      (record { last = last; saved = end.campaign.saved.items; left = end.left.items; past = until })
  -- At `Ok` nothing happened after the last of them.
  pub no_more : OnOk result (until ≡ new.past)
  -- A crash is refused only where one is to end the run after those that have ends.
  pub refused : result ≡ Err Refused → IsCrashing (slice_get runs (length end.campaign.runs.items))
  -- That run was carried out then, and the crash cannot be.
  pub refused_so : result ≡ Err Refused → RefusesRun keys (grounds_over keys old) (slice_get runs (length end.campaign.runs.items))
      (record { last = last; saved = end.campaign.saved.items; left = end.left.items; past = until }) new.past
  -- Unless memory ran out, the link after them is what calls made of the link before.
  pub followed : result ≢ Err Wanting → follows
  -- At `Ok` each run has its end.
  pub complete : OnOk result (length end.campaign.runs.items ≡ length runs)

-- As many runs have their ends as were begun, and all is good between two of them.
pub record AreCrashing (keys : List Key) (runs : List CrashingRun) (place : ℕ) (first : Seen) (now : CrashStage) : Type 0 where
  pub keys_are : now.client.keys ≡ keys
  pub suits : All (Suits keys) now.end.campaign.saved.items
  pub stands : GoodLink keys first → IsStanding keys now × WentOn keys first.past now.link.past
  pub honest : first.honest (is_planned keys) → now.link.honest (is_planned keys)
  pub as_many : length now.end.campaign.runs.items ≡ place
  pub made : AreMade keys (grounds_over keys first) (take place runs) now.end.campaign.runs.items (at_first keys first.past) (between now)

-- The disk of a run that a crash of the machine is to end: what it has then, and what the crash leaves of it.
-- Source: own (view).
use Rattle.std.specs.Prelude.{◌≡◌, ◌⊎◌, ◌≤◌, ◌<◌, ℕ, zero, suc, List, [], IfOk, None, Ok, Option, Result, Some, length}
use Rattle.std.specs.Str.{IsUtf8}
use Rattle.kmip_disk.specs.Memory.{bytes_left_of, memory_view, outcome_at}
use Rattle.kmip_disk.specs.Views.{Content}
use Rattle.kmip_disk.specs.Whole.{LeavesText}
use Rattle.kmip_disk.specs.declared.memory_disk.MemoryDisk.{MemoryDisk}
use Rattle.kmip_plan.specs.declared.key.Key.{Key}
use Rattle.kmip_runs.specs.Driving.{IsBorneOut}
use Rattle.kmip_runs.specs.Keeping.{Kept}
use Rattle.kmip_runs.specs.Lasting.{KeepsMoments}
use Rattle.kmip_runs.specs.Saved.{Grounds, HasMemory, Moment, text_at}
use Rattle.kmip_runs.specs.declared.left.Left.{Left}
use Rattle.kmip_runs.specs.declared.left.Left.TheVariants.{New, Old, Torn}
use Rattle.kmip_runs.specs.declared.run.Run.{Run}
use Rattle.kmip_runs.specs.declared.save_fault.SaveFault.{SaveFault}
use Rattle.kmip_runs.specs.declared.stop.Stop.{Stop}
use Rattle.kmip_runs.specs.declared.stop.Stop.TheVariants as stops

-- the number of the one before the last of so many that were replaced; none if none was
abbrev pub one_before : ℕ → Option ℕ
one_before zero = None
one_before (suc n) = Some n

-- The number of the file that is left, among those that a crash may leave: for `New` the last, which a read finds,
-- and for `Old` the one before it. None if there is no such file.
abbrev pub place_left : Left → MemoryDisk → Option ℕ
place_left New disk = Some (length disk.back.items)
place_left Old disk = one_before (length disk.back.items)
place_left Torn disk = None

-- The disk has stopped, and a crash then leaves this in the file's place.
pub record LeavesAtStop (left : Left) (disk : MemoryDisk) (found : Content) : Type 0 where
  pub stopped : disk.turns.left ≡ 0
  pub place : ℕ
  pub place_is : place_left left disk ≡ Some place
  pub found_is : found ≡ bytes_left_of (outcome_at disk place)

-- The disk has not stopped; or a crash leaves no such file; or that is no UTF-8, as no text of a run is.
abbrev pub CannotLeave : Left → MemoryDisk → Type 0
CannotLeave left disk =
    (0 < disk.turns.left) ⊎ (place_left left disk ≡ None)
    ⊎ ((text : List ℕ) × LeavesAtStop left disk (Some text) × ¬ (IsUtf8 text))

-- What is seen of a keeper that saved these texts on this disk, and could not save so often.
abbrev pub kept_on : MemoryDisk → List (List ℕ) → ℕ → Kept
kept_on disk texts refusals = record { remembers = Unit {0}; saved = texts; disk = memory_view disk; refusals = refusals }

-- A run that was carried out: what was known and had happened at its begin and at its end, and how many exchanges
-- it made.
pub record CarriedRun : Type 0 where
  pub run : Run
  pub begun : Moment
  pub ended : Moment
  pub exchanges : ℕ

-- The run was carried out with a keeper on a disk in memory. At its begin a crash of the disk left the text of what
-- was known then, and nothing else. From then on the disk carries out so many calls. `disk` is how it stands at
-- the end.
pub record IsKeptOn (keys : List Key) (grounds : Grounds) (calls : ℕ) (carried : CarriedRun) (disk : MemoryDisk) : Type 0 where
  pub first : MemoryDisk
  pub begins : LeavesText (memory_view first) (text_at keys carried.begun)
  pub first_limit : first.turns.limit ≡ calls
  pub first_left : first.turns.left ≡ calls
  pub limit : disk.turns.limit ≡ calls
  -- Why it stopped. A text that the disk did not take ends a run too. Memory did not run out.
  pub result : Result Stop SaveFault
  pub memory : HasMemory result
  -- What it saved, and how often it could not.
  pub texts : List (List ℕ)
  pub refusals : ℕ
  -- After each exchange the text of what was known then was saved.
  pub moments : KeepsMoments keys carried.run.batch grounds carried.begun carried.ended (kept_on first [] 0)
      (kept_on disk texts refusals) result carried.exchanges
  -- It stopped for a reason, and before the disk stopped it was not cut short.
  pub reason : IfOk result (λ stop. IsBorneOut stop keys carried.ended.knowns)
  pub to_limit : result ≡ Ok stops.Limit → carried.exchanges ≡ carried.run.limit
  pub within : carried.exchanges ≤ carried.run.limit

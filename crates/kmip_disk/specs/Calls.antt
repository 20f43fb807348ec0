-- What the calls of a disk do, and what a crash may leave during each and after it. Where a call fails, what it
-- was to do is done, or in part, or not: only what a crash may leave is promised.
-- Source: POSIX.1-2017, rename(), fdatasync(), unlink(), open(); fsync(2) of Linux for what a folder's fsync brings
-- to the disk; own (limit) that failures are counted up to 2^64 - 1.
use Rattle.std.specs.Prelude.{◌≡◌, ◌⊎◌, ◌≤◌, ◌+◌, ◌-◌, ◌^◌, ◌++◌, min, IfOk, List, None, OnErr, OnOk, Option, Result, Some, [], ℕ, option_map}
use Rattle.kmip_disk.specs.Views.{Content, DiskView}

-- Time goes on. A crash since an earlier moment might have left what it might have left before, or what it may
-- leave now; and what it might have left it still might.
pub record Elapses (old new : DiskView) : Type 0 where
  pub later : old.moment ≤ new.moment
  pub nothing_else : (t : ℕ) (c : Content) → t ≤ old.moment → new.left_since t c → old.left_since t c ⊎ new.may_leave c
  pub keeps : (t : ℕ) (c : Content) → t ≤ old.moment → old.left_since t c → new.left_since t c

-- A count of 64 bits has risen by n, or it stands at its last value.
abbrev pub HasRisenBy : ℕ → ℕ → ℕ → Type 0
HasRisenBy n old new = min (old + n) (2 ^ 64 - 1) ≤ new

-- A call that failed was counted, and no count falls. No call changes after how many calls the disk stops.
pub record Counts {A E : Type 0} (old : DiskView) (result : Result A E) (new : DiskView) : Type 0 where
  pub limit : new.limit ≡ old.limit
  pub later : old.failures ≤ new.failures
  pub failed : OnErr result (HasRisenBy 1 old.failures new.failures)

-- The file stays as it was: reads give what they gave, and a crash leaves nothing that it might not have left.
pub record LeavesFile (old new : DiskView) : Type 0 where
  pub lawful : new.lawful
  pub file : new.file ≡ old.file
  pub kept : (c : Content) → new.file_may_keep c → old.file_may_keep c
  pub crash : (c : Content) → new.may_leave c → old.may_leave c
  pub time : Elapses old new

-- A file is made beside, in place of one that is there. It is empty.
pub record CreatesBeside {E : Type 0} (old : DiskView) (result : Result (Unit {0}) E) (new : DiskView) : Type 0 where
  -- The file stays as it was, also at a fault.
  pub alone : LeavesFile old new
  -- At `Ok` the file beside it is empty. What a crash may leave of that file is not said.
  pub created : OnOk result (new.beside ≡ Some [])
  -- A failure is counted.
  pub counted : Counts old result new

-- Bytes are written at the end of the file beside.
pub record WritesBeside {E : Type 0} (old : DiskView) (bytes : List ℕ) (result : Result (Unit {0}) E) (new : DiskView) : Type 0 where
  -- The file stays as it was, also at a fault.
  pub alone : LeavesFile old new
  -- At `Ok` these bytes follow those that were there. What a crash may leave of them is not said: none of
  -- them, some, or others.
  pub written : (text : List ℕ) → old.beside ≡ Some text → OnOk result (new.beside ≡ Some (text ++ bytes))
  -- A failure is counted.
  pub counted : Counts old result new

-- The bytes of the file beside are brought to the disk.
pub record SyncsBeside {E : Type 0} (old : DiskView) (result : Result (Unit {0}) E) (new : DiskView) : Type 0 where
  -- The file stays as it was, also at a fault.
  pub alone : LeavesFile old new
  -- At `Ok` the file beside has the bytes that it had.
  pub same : OnOk result (new.beside ≡ old.beside)
  -- At `Ok` a crash leaves these bytes of it, and no others.
  pub durable : OnOk result ((c : Content) → new.beside_may_keep c → c ≡ old.beside)
  -- A failure is counted.
  pub counted : Counts old result new

-- The file beside has taken the file's place.
pub record TakesPlace (old new : DiskView) : Type 0 where
  pub file : new.file ≡ old.beside
  pub kept : (c : Content) → new.file_may_keep c → old.beside_may_keep c

-- The file has kept its place.
pub record KeepsPlace (old new : DiskView) : Type 0 where
  pub file : new.file ≡ old.file
  pub kept : (c : Content) → new.file_may_keep c → old.file_may_keep c

-- The file beside takes the file's place, all at once.
pub record Renames {E : Type 0} (old : DiskView) (result : Result (Unit {0}) E) (new : DiskView) : Type 0 where
  -- The disk keeps the rules after it.
  pub lawful : new.lawful
  -- At `Ok` the file beside has taken the file's place.
  pub moved : OnOk result (TakesPlace old new)
  -- At `Ok` there is no file beside.
  pub gone : OnOk result (new.beside ≡ None)
  -- However it ends, the file beside has taken the place, or the file has kept it.
  pub whole : KeepsPlace old new ⊎ TakesPlace old new
  -- A crash may leave what it might have left before, since it may undo the rename; or what it might have left
  -- of the file beside.
  pub crash : (c : Content) → new.may_leave c → old.may_leave c ⊎ old.beside_may_keep c
  -- So it is at each moment of the call.
  pub time : Elapses old new
  -- A failure is counted.
  pub counted : Counts old result new

-- The names in the folder are brought to the disk.
pub record SyncsFolder {E : Type 0} (old : DiskView) (result : Result (Unit {0}) E) (new : DiskView) : Type 0 where
  -- The file stays as it was, also at a fault.
  pub alone : LeavesFile old new
  -- At `Ok` the file beside is as it was.
  pub same : OnOk result (new.beside ≡ old.beside)
  -- At `Ok` a crash leaves what it may leave of the file that stands there, and of no file before it.
  pub durable : OnOk result ((c : Content) → new.may_leave c → old.file_may_keep c)
  -- A failure is counted.
  pub counted : Counts old result new

-- The file beside is removed.
pub record RemovesBeside {E : Type 0} (old : DiskView) (result : Result (Unit {0}) E) (new : DiskView) : Type 0 where
  -- The file stays as it was, also at a fault.
  pub alone : LeavesFile old new
  -- At `Ok` there is no file beside.
  pub gone : OnOk result (new.beside ≡ None)
  -- A failure is counted.
  pub counted : Counts old result new

-- The file is read, which `bytes` reads in turn.
abbrev pub ReadsFile : {A E : Type 0} → (A → List ℕ) → DiskView → Result (Option A) E → Type 0
ReadsFile bytes view result = IfOk result (λ found. option_map bytes found ≡ view.file)

-- What is seen of the files and the lock of a run, and what each call of a desk does.
-- Source: own (view). That one run at a time holds the lock is flock(2) of Linux.
use Rattle.std.specs.Prelude.{◌≡◌, Bool, true, List, ℕ, None, Some, Option, Result, IfOk, OnOk}

-- What is seen of a desk.
pub record DeskView : Type 1 where
  -- That it keeps the rules. Of the files of a real machine no contract can say so.
  pub lawful : Type 0
  -- Whether this run holds the lock.
  pub is_held : Bool
  -- What the progress file says, if there is one.
  pub progress : Option (List ℕ)
  -- What the text says that tells where the progress was saved, if there is one.
  pub origin : Option (List ℕ)
  -- What the progress file said when this run took the lock.
  pub found_progress : Option (List ℕ)
  -- What the other text said then.
  pub found_origin : Option (List ℕ)

-- This run holds the lock of a desk that keeps the rules, and has changed nothing yet.
pub record IsLocked (desk : DeskView) : Type 0 where
  pub lawful : desk.lawful
  pub held : desk.is_held ≡ true
  pub progress_found : desk.found_progress ≡ desk.progress
  pub origin_found : desk.found_origin ≡ desk.origin

-- The lock was tried. If it was taken, the files say what this run finds.
pub record TakesLock {E : Type 0} (result : Result Bool E) (new : DeskView) : Type 0 where
  pub lawful : new.lawful
  pub locked : IfOk result (λ taken. taken ≡ true → IsLocked new)

-- The lock is held as before, and what was found when it was taken is the same.
pub record KeepsFound (old new : DeskView) : Type 0 where
  pub lawful : new.lawful
  pub held : new.is_held ≡ old.is_held
  pub progress_found : new.found_progress ≡ old.found_progress
  pub origin_found : new.found_origin ≡ old.found_origin

-- So it is, and the progress file is as it was.
pub record KeepsProgress (old new : DeskView) : Type 0 where
  pub found : KeepsFound old new
  pub progress : new.progress ≡ old.progress

-- The text was written that says where the progress was saved. At a fault, too, all else is as it was.
pub record WritesOrigin {E : Type 0} (old : DeskView) (text : List ℕ) (result : Result (Unit {0}) E) (new : DeskView) : Type 0 where
  pub kept : KeepsProgress old new
  pub written : OnOk result (new.origin ≡ Some text)

-- The progress file was put aside.
pub record PutsAside {E : Type 0} (old : DeskView) (result : Result (Unit {0}) E) (new : DeskView) : Type 0 where
  pub kept : KeepsFound old new
  -- The other text is as it was, also at a fault.
  pub origin : new.origin ≡ old.origin
  pub gone : OnOk result (new.progress ≡ None)

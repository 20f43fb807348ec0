-- What the parts of replacing a file promise.
-- Source: own.
use Rattle.std.specs.Prelude.{◌≡◌, ◌⊎◌, List, OnOk, Result, Some, ℕ}
use Rattle.kmip_disk.specs.Views.{Content, DiskView}
use Rattle.kmip_disk.specs.Calls.{Counts, LeavesFile}
use Rattle.kmip_disk.specs.Whole.{HasText, IsBeforeOrText, IsWritten, LeavesOnly}

-- The text is put beside the file and brought to the disk.
pub record PutsBeside {E : Type 0} (old : DiskView) (text : List ℕ) (result : Result (Unit {0}) E) (new : DiskView) : Type 0 where
  pub alone : LeavesFile old new
  pub beside : OnOk result (new.beside ≡ Some text)
  pub durable : OnOk result ((c : Content) → new.beside_may_keep c → c ≡ Some text)
  pub counted : Counts old result new

-- The file is given a text, and what is beside it at a fault is left there.
pub record Replaces {E : Type 0} (old : DiskView) (text : List ℕ) (result : Result (Unit {0}) E) (new : DiskView) : Type 0 where
  pub lawful : new.lawful
  pub written : OnOk result (HasText new text)
  pub whole : (new.file ≡ old.file) ⊎ (new.file ≡ Some text)
  pub any_moment : LeavesOnly old new (IsBeforeOrText old text)
  pub still : IsWritten old → IsWritten new
  pub counted : Counts old result new

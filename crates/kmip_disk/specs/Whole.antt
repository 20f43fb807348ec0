-- What replacing a file promises over a disk that may stop at any instant.
-- Source: own: a text is kept as a whole, the one before it or the new one.
use Rattle.std.specs.Prelude.{[], ◌∷◌, ◌≡◌, ◌⊎◌, ◌≤◌, List, None, OnErr, OnOk, Result, Some, ℕ}
use Rattle.kmip_disk.specs.Views.{Content, DiskView}
use Rattle.kmip_disk.specs.Calls.{HasRisenBy}

-- A crash at any moment since old leaves what has P.
pub record LeavesOnly (old new : DiskView) (P : Content → Type 0) : Type 0 where
  pub later : old.moment ≤ new.moment
  pub each : (c : Content) → new.left_since old.moment c → P c
  -- for what began earlier
  pub before : (t : ℕ) (c : Content) → t ≤ old.moment → new.left_since t c → old.left_since t c ⊎ P c

-- The bytes of the file that a read finds are on the disk: a crash leaves them, wherever that file stands then.
abbrev pub IsWritten : DiskView → Type 0
IsWritten view = (c : Content) → view.file_may_keep c → c ≡ view.file

-- What a crash might have left before, or this text, whole.
abbrev pub IsBeforeOrText : DiskView → List ℕ → Content → Type 0
IsBeforeOrText old text c = old.may_leave c ⊎ (c ≡ Some text)

-- What a write of this text leaves.
pub record HasText (view : DiskView) (text : List ℕ) : Type 0 where
  -- A read gives the text.
  pub file : view.file ≡ Some text
  -- Its bytes are on the disk.
  pub durable : IsWritten view
  -- There is no file beside.
  pub tidy : view.beside ≡ None

-- A file is given a text.
pub record WritesWhole {E : Type 0} (old : DiskView) (text : List ℕ) (result : Result (Unit {0}) E) (new : DiskView) : Type 0 where
  -- The disk keeps the rules after it.
  pub lawful : new.lawful
  -- At `Ok` a read gives the text, its bytes are on the disk, and there is no file beside.
  pub written : OnOk result (HasText new text)
  -- However it ends, a read gives the text, or what it gave before.
  pub whole : (new.file ≡ old.file) ⊎ (new.file ≡ Some text)
  -- A crash at any moment of the call leaves what it might have left before, or the text, and no torn one.
  pub any_moment : LeavesOnly old new (IsBeforeOrText old text)
  -- Where the bytes of the file were on the disk before, those of the file are after it, also at a fault.
  pub still : IsWritten old → IsWritten new
  -- At a fault there is no file beside, or one more call of the disk has failed.
  pub tidied : OnErr result ((new.beside ≡ None) ⊎ HasRisenBy 2 old.failures new.failures)
  -- It fails only where a call of the disk failed. No count falls.
  pub failed : OnErr result (HasRisenBy 1 old.failures new.failures)
  pub later : old.failures ≤ new.failures
  -- It changes nothing of after how many calls the disk stops.
  pub limit : new.limit ≡ old.limit

-- What was written is made to last.
pub record Closes {E : Type 0} (old : DiskView) (result : Result (Unit {0}) E) (new : DiskView) : Type 0 where
  -- The disk keeps the rules after it.
  pub lawful : new.lawful
  -- A read gives what it gave.
  pub same : new.file ≡ old.file
  -- A crash at any moment of the call leaves what it might have left before.
  pub any_moment : LeavesOnly old new old.may_leave
  -- At `Ok` the file beside is as it was.
  pub beside : OnOk result (new.beside ≡ old.beside)
  -- At `Ok` a crash leaves what a read gives and nothing else, where the bytes of the file were on the disk.
  pub durable : IsWritten old → OnOk result ((c : Content) → new.may_leave c → c ≡ old.file)
  -- Where the bytes of the file were on the disk before, they are after it.
  pub still : IsWritten old → IsWritten new
  -- It fails only where a call of the disk failed.
  pub failed : OnErr result (HasRisenBy 1 old.failures new.failures)
  -- It changes nothing of after how many calls the disk stops.
  pub limit : new.limit ≡ old.limit

-- A crash leaves this text, whole, and nothing else.
abbrev pub LeavesText : DiskView → List ℕ → Type 0
LeavesText view text = (c : Content) → view.may_leave c → c ≡ Some text

-- A file is given a text that lasts.
pub record Saves {E : Type 0} (old : DiskView) (text : List ℕ) (result : Result (Unit {0}) E) (new : DiskView) : Type 0 where
  -- The disk keeps the rules after it.
  pub lawful : new.lawful
  -- At `Ok` a read gives the text, its bytes are on the disk, and there is no file beside.
  pub written : OnOk result (HasText new text)
  -- At `Ok` a crash leaves the text and nothing else.
  pub lasts : OnOk result (LeavesText new text)
  -- However it ends, a read gives the text, or what it gave before.
  pub whole : (new.file ≡ old.file) ⊎ (new.file ≡ Some text)
  -- A crash at any moment of the call leaves what it might have left before, or the text, and no torn one.
  pub any_moment : LeavesOnly old new (IsBeforeOrText old text)
  -- Where the bytes of the file were on the disk before, those of the file are after it, also at a fault.
  pub still : IsWritten old → IsWritten new
  -- It fails only where a call of the disk failed.
  pub failed : OnErr result (HasRisenBy 1 old.failures new.failures)
  -- It changes nothing of after how many calls the disk stops.
  pub limit : new.limit ≡ old.limit

-- One of these texts, whole.
abbrev pub IsOneOf : List (List ℕ) → Content → Type 0
IsOneOf [] c = ⊥
IsOneOf (text ∷ texts) c = (c ≡ Some text) ⊎ IsOneOf texts c

-- A crash at any moment since old leaves what it might have left then, or one of these texts, whole.
abbrev pub LeavesOneOf : DiskView → List (List ℕ) → DiskView → Type 0
LeavesOneOf old texts new = LeavesOnly old new (λ c. old.may_leave c ⊎ IsOneOf texts c)

-- What stands in the place of what stood there, once each of these texts was written in turn.
abbrev pub last_of : Content → List (List ℕ) → Content
last_of c [] = c
last_of c (text ∷ texts) = last_of (Some text) texts

-- A file is given these texts in turn, up to the first that cannot be written.
pub record WritesEach {E : Type 0} (old : DiskView) (texts : List (List ℕ)) (result : Result (Unit {0}) E) (new : DiskView) : Type 0 where
  -- The disk keeps the rules after it.
  pub lawful : new.lawful
  -- At `Ok` a read gives the last of them, or what it gave before where there are none.
  pub written : OnOk result (new.file ≡ last_of old.file texts)
  -- A crash at any moment of the call leaves what it might have left before, or one of the texts, whole.
  pub any_moment : LeavesOneOf old texts new
  -- Where the bytes of the file were on the disk before, those of the file are after it, also at a fault.
  pub still : IsWritten old → IsWritten new

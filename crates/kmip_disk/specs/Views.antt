-- All that a contract sees of a disk at a moment, as one value. It has one file, the file beside it, and their
-- folder.
-- Source: own (view). The words are those of POSIX.1-2017: rename(), fdatasync() and unlink().
use Rattle.std.specs.Prelude.{◌≤◌, List, Option, ℕ}

-- What stands at a name: the bytes of a file, or none where there is no file.
abbrev pub Content : Type 0
Content = Option (List ℕ)

-- What is seen of a disk. The last three fields are laws of every disk.
pub record DiskView : Type 1 where
  -- That it keeps the rules. Of the files of a real machine no contract can say so.
  pub lawful : Type 0
  -- What a read of the file gives now.
  pub file : Content
  -- What a read of the file beside it would give now.
  pub beside : Content
  -- What a crash at this moment may leave of the file that a read finds now, wherever it stands then.
  pub file_may_keep : Content → Type 0
  -- What a crash at this moment may leave of the file beside it, wherever that stands then.
  pub beside_may_keep : Content → Type 0
  -- What a crash at this moment may leave in the file's place.
  pub may_leave : Content → Type 0
  -- This moment, as a number that never falls.
  pub moment : ℕ
  -- What a crash at some moment from that one on might have left in the file's place.
  pub left_since : ℕ → Content → Type 0
  -- How many calls have failed, up to 2^64 - 1.
  pub failures : ℕ
  -- After how many calls it stops, if it is one that stops after a number of them.
  pub limit : Option ℕ
  -- A program that is killed loses nothing: what a read gives is among what a crash may leave.
  pub kill_loses_nothing : lawful → may_leave file
  -- This moment is one of those since an earlier one.
  pub counts_now : lawful → (t : ℕ) (c : Content) → t ≤ moment → may_leave c → left_since t c
  -- Since this moment there is no other.
  pub only_now : lawful → (c : Content) → left_since moment c → may_leave c

-- All that a contract sees of a keeper at a moment, as one value, and what its calls leave on the disk.
-- Source: own (view): the standard knows no progress that is kept.
use Rattle.std.specs.Prelude.{◌≡◌, ◌⊎◌, [], ℕ, List, OnOk, Option, Result, Some}
use Rattle.kmip_disk.specs.Views.{Content, DiskView}
use Rattle.kmip_disk.specs.Whole.{HasText, IsBeforeOrText, IsWritten, LeavesOnly}

-- What is seen of a keeper: which texts it saved, the disk that it keeps them on, and how often it could not.
pub record Kept : Type 1 where
  -- That it remembers each text that it saved. A keeper that holds only the last one does not.
  pub remembers : Type 0
  -- If it does: each text that was saved, the first one first.
  pub saved : List (List ℕ)
  -- The disk, whose file has the text that was saved last. That it keeps the rules is a premise: of a real
  -- machine no contract can say so.
  pub disk : DiskView
  -- How often it could not write a text, or not make it last, up to 2^64 - 1.
  pub refusals : ℕ

-- If a text is remembered as the one that was written last, the file has it.
abbrev pub IsLastText : DiskView → Option (List ℕ) → Type 0
IsLastText disk last = (text : List ℕ) → last ≡ Some text → HasText disk text

-- A disk that keeps the rules only if this holds too.
abbrev pub guarded : DiskView → Type 0 → DiskView
guarded view P = record {
  lawful = view.lawful × P;
  file = view.file;
  beside = view.beside;
  file_may_keep = view.file_may_keep;
  beside_may_keep = view.beside_may_keep;
  may_leave = view.may_leave;
  moment = view.moment;
  left_since = view.left_since;
  failures = view.failures;
  limit = view.limit;
  kill_loses_nothing = λ both. view.kill_loses_nothing both.0;
  counts_now = λ both. view.counts_now both.0;
  only_now = λ both. view.only_now both.0;
}

-- What is seen of a keeper of one file, which remembers at most the text that it wrote last.
abbrev pub kept_in_file : DiskView → Option (List ℕ) → ℕ → Kept
kept_in_file disk last refusals = record {
  remembers = ⊥;
  saved = [];
  disk = guarded disk (IsLastText disk last);
  refusals = refusals;
}

-- A text is saved in place of the one before it.
pub record SavesText {E : Type 0} (old : DiskView) (text : List ℕ) (result : Result (Unit {0}) E) (new : DiskView) : Type 0 where
  -- The disk keeps the rules after it.
  pub lawful : new.lawful
  -- At `Ok` a read gives the text, and its bytes are on the disk.
  pub written : OnOk result ((new.file ≡ Some text) × IsWritten new)
  -- However it ends, a read gives the text, or what it gave before.
  pub whole : (new.file ≡ old.file) ⊎ (new.file ≡ Some text)
  -- A crash at any moment of the call leaves what it might have left before, or the text, and no torn one.
  pub any_moment : LeavesOnly old new (IsBeforeOrText old text)
  -- Where the bytes of the file were on the disk before, those of the file are after it, also at a fault.
  pub still : IsWritten old → IsWritten new
  -- It changes nothing of after how many calls the disk stops.
  pub limit : new.limit ≡ old.limit

-- The text that was saved last is made to last.
pub record MakesLast {E : Type 0} (old : DiskView) (result : Result (Unit {0}) E) (new : DiskView) : Type 0 where
  -- The disk keeps the rules after it.
  pub lawful : new.lawful
  -- A read gives what it gave.
  pub same : new.file ≡ old.file
  -- A crash at any moment of the call leaves what it might have left before.
  pub any_moment : LeavesOnly old new old.may_leave
  -- Where the bytes of the file were on the disk before, they are after it.
  pub still : IsWritten old → IsWritten new
  -- It changes nothing of after how many calls the disk stops.
  pub limit : new.limit ≡ old.limit
  -- At `Ok` a crash leaves what a read gives and nothing else, where the bytes of the file were on the disk.
  pub lasts : IsWritten old → OnOk result ((c : Content) → new.may_leave c → c ≡ old.file)

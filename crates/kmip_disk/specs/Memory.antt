-- What is seen of a disk in memory, and what it leaves after a crash.
-- Source: own: of bytes that were not synced a crash may leave any, and it may undo each rename since the folder
-- was synced; what is own (choice) says so.
use Rattle.std.specs.Prelude.{[], IsSome, List, None, Option, Some, drop, false, get_or, if◌then◌else◌, length, option_map, take, ◌/◌, ◌++◌, ◌∷◌, ◌≡◌, ◌⊎◌, ℕ, refl}
use Rattle.std.proofs.Common.{inl, inr, ⊎_elim}
use Rattle.kmip_disk.specs.Views.{Content, DiskView}
use Rattle.kmip_disk.specs.declared.memory_disk.MemoryDisk.{MemoryDisk}
use Rattle.kmip_disk.specs.declared.stored_file.StoredFile.{StoredFile}

-- What a crash may leave of a file: its bytes, or any bytes where they are not on the disk.
abbrev pub IsOutcome : Option StoredFile → Content → Type 0
IsOutcome None c = c ≡ None
IsOutcome (Some file) c = (c ≡ Some file.bytes.items) ⊎ ((file.is_synced ≡ false) × IsSome c)

-- What it may leave of one of these files.
abbrev pub IsOutcomeOfOne : List (Option StoredFile) → Content → Type 0
IsOutcomeOfOne [] c = ⊥
IsOutcomeOfOne (file ∷ files) c = IsOutcome file c ⊎ IsOutcomeOfOne files c

-- The bytes of a file that is there.
abbrev pub bytes_of : Option StoredFile → Content
bytes_of file = option_map (λ f. f.bytes.items) file

-- The file of this number, from 0 on, among those that a crash may leave in the file's place: first those that
-- stood there since the folder was synced, the oldest first, and last the one that a read finds.
abbrev pub outcome_at : MemoryDisk → ℕ → Option StoredFile
outcome_at disk which = get_or disk.back.items which disk.file

-- The bytes of a file after a crash: all of them if they are on the disk, else the first half; own (choice).
abbrev pub bytes_left_of : Option StoredFile → Content
bytes_left_of None = None
bytes_left_of (Some file) = Some (if file.is_synced then file.bytes.items else take (length file.bytes.items / 2) file.bytes.items)

-- A crash may lose nothing of a file.
pub nothing_lost : (file : Option StoredFile) → IsOutcome file (bytes_of file)
nothing_lost None = refl
nothing_lost (Some file) = inl refl

-- What it may leave of one of some files, it may leave of one of these and others before them.
pub later_too : (files more : List (Option StoredFile)) (c : Content) → IsOutcomeOfOne more c → IsOutcomeOfOne (files ++ more) c
later_too [] more c one = one
later_too (file ∷ files) more c one = inr (later_too files more c one)

-- Where all files before them are gone, it leaves one of the others.
pub none_before : (gone back : List (Option StoredFile)) (c : Content) → IsOutcomeOfOne (drop (length gone) gone ++ back) c → IsOutcomeOfOne back c
none_before [] back c one = one
none_before (file ∷ gone) back c one = none_before gone back c one

-- All that is seen of a disk in memory, which keeps the rules. A moment is how many files can't come back any more.
abbrev pub memory_view : MemoryDisk → DiskView
memory_view disk = record {
  lawful = Unit {0};
  file = bytes_of disk.file;
  beside = bytes_of disk.beside;
  file_may_keep = IsOutcome disk.file;
  beside_may_keep = IsOutcome disk.beside;
  may_leave = λ c. IsOutcome disk.file c ⊎ IsOutcomeOfOne disk.back.items c;
  moment = length disk.gone.items;
  left_since = λ t c. IsOutcome disk.file c ⊎ IsOutcomeOfOne (drop t disk.gone.items ++ disk.back.items) c;
  failures = disk.turns.failures;
  limit = Some disk.turns.limit;
  kill_loses_nothing = λ _. inl (nothing_lost disk.file);
  counts_now = λ _ t c le now. ⊎_elim (λ here. inl here) (λ one. inr (later_too (drop t disk.gone.items) disk.back.items c one)) now;
  only_now = λ _ c left. ⊎_elim (λ here. inl here) (λ one. inr (none_before disk.gone.items disk.back.items c one)) left;
}

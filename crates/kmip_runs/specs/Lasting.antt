-- What a run keeps of what it knows: the texts that were saved, and what a crash may leave of the file that they
-- are in. A run may be killed, or its machine may stop, at any time.
-- Source: own (law): what is found there is whole and true, so that the next run may begin with it.
use Rattle.std.specs.Prelude.{◌≡◌, ◌≤◌, ◌⊎◌, ◌++◌, ◌∷◌, [], ℕ, List, Ok, Err, Result, Some, map}
use Rattle.std.specs.List.{All}
use Rattle.kmip_client.specs.Saving.{known_of}
use Rattle.kmip_disk.specs.Views.{Content, DiskView}
use Rattle.kmip_disk.specs.Whole.{IsWritten, LeavesOneOf}
use Rattle.kmip_plan.specs.declared.key.Key.{Key}
use Rattle.kmip_progress.specs.Reading.{read_text}
use Rattle.kmip_runs.specs.Keeping.{Kept}
use Rattle.kmip_runs.specs.Saved.{AreMoments, Grounds, IsWhole, Moment, Situation, grounds_in, moment, text_at}
use Rattle.kmip_runs.specs.declared.save_fault.SaveFault.{SaveFault}
use Rattle.kmip_runs.specs.declared.stop.Stop.{Stop}

-- The text says what was known at a moment, and is read back as that.
abbrev pub IsTextOf : List Key → Moment → List ℕ → Type 0
IsTextOf keys m text = (text ≡ text_at keys m) × (read_text keys text ≡ Ok (map known_of m.knowns))

-- The text of what was known at a moment is read back as that, whole.
abbrev pub IsReadBack : List Key → Moment → Type 0
IsReadBack keys m = read_text keys (text_at keys m) ≡ Ok (map known_of m.knowns)

-- The text of the last exchange, if it could not be saved: it may have been written, or not.
abbrev pub IsTried : Result Stop SaveFault → List ℕ → List (List ℕ) → Type 0
IsTried (Ok stop) text texts = texts ≡ []
IsTried (Err fault) text texts = (texts ≡ []) ⊎ (texts ≡ text ∷ [])

-- What a crash may leave of a run with these moments, on a disk that keeps the rules.
pub record Leaves (keys : List Key) (honest : Type 0) (moments : List Moment) (ended : Moment) (old new : DiskView) (result : Result Stop SaveFault) (exchanges : ℕ) : Type 0 where
  -- The disk keeps the rules after it.
  pub lawful : new.lawful
  -- The text of the last exchange, if a save of it failed and may have written it.
  pub tried : List (List ℕ)
  pub is_tried : IsTried result (text_at keys ended) tried
  -- A crash at any time during the run leaves what it might have left when the run began, or one of these texts,
  -- whole.
  pub any_moment : LeavesOneOf old (map (text_at keys) moments ++ tried) new
  -- Each of these texts is read back.
  pub read_back : All (IsReadBack keys) moments
  pub tried_read_back : All (IsTextOf keys ended) tried
  -- If the bytes of the file were on the disk at the start, those of the file are at the end.
  pub still : IsWritten old → IsWritten new
  -- The run changes nothing of after how many calls the disk stops.
  pub limit : new.limit ≡ old.limit
  -- If no exchange was made, a read gives what it gave.
  pub same : exchanges ≡ 0 → new.file ≡ old.file
  -- If all was saved over an honest link, a read gives the text of what is known at the end.
  pub file : honest → IsWhole result → 1 ≤ exchanges → (new.file ≡ Some (text_at keys ended)) × (IsWritten new)

-- What is kept of a run: its moments, the texts that were saved of them, and what a crash may leave.
pub record KeepsMoments (keys : List Key) (most : ℕ) (grounds : Grounds) (begun ended : Moment) (old new : Kept) (result : Result Stop SaveFault) (exchanges : ℕ) : Type 0 where
  -- The moments of the run, each right after an exchange.
  pub moments : List Moment
  pub are : AreMoments keys most grounds begun ended result exchanges moments
  -- A keeper that remembers what it saved has saved the text of each moment, in order, and no other.
  pub saved : old.remembers → new.remembers × (new.saved ≡ old.saved ++ map (text_at keys) moments)
  -- On a disk that kept the rules, a crash leaves what it might have left before, or a text of these moments.
  pub any_moment : old.disk.lawful → Leaves keys grounds.honest moments ended old.disk new.disk result exchanges

-- `KeepsMoments` from one situation of a run to another, of its own plan.
abbrev pub KeepsBetween : Situation → Situation → Result Stop SaveFault → ℕ → Type 0
KeepsBetween old new result exchanges =
    KeepsMoments old.client.keys old.client.batch (grounds_in old) (moment old.client old.link) (moment new.client new.link)
    old.keeper new.keeper result exchanges

-- A crash leaves what a read gives, and nothing else.
abbrev pub LeavesTheFile : DiskView → Type 0
LeavesTheFile disk = (c : Content) → disk.may_leave c → c ≡ disk.file

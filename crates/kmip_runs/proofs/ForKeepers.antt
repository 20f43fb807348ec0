-- For keepers over a disk: what the calls of a file that is replaced whole are to who keeps texts in it. For commands: what is kept of a run
-- under other premises.
use Rattle.std.proofs.Common.{Err, Ok, List, Result, inl, refl, ℕ}
use Rattle.kmip_disk.specs.Views.{DiskView}
use Rattle.kmip_disk.specs.Whole.{Closes, IsBeforeOrText, WritesWhole}
use Rattle.kmip_disk.proofs.ForCallers.{nothing_since}
use Rattle.kmip_plan.specs.declared.key.Key.{Key}
use Rattle.kmip_runs.specs.Keeping.{Kept, MakesLast, SavesText}
use Rattle.kmip_runs.specs.Lasting.{KeepsMoments}
use Rattle.kmip_runs.specs.Saved.{Grounds, Moment}
use Rattle.kmip_runs.specs.declared.save_fault.SaveFault.{SaveFault}
use Rattle.kmip_runs.specs.declared.stop.Stop.{Stop}
use Rattle.kmip_runs.proofs.KeptLemmas.{keeps_from as premises_less}

-- nothing was written
pub saves_nothing : {E : Type 0} (disk : DiskView) (text : List ℕ) (fault : E) → disk.lawful → SavesText disk text (Err fault) disk
saves_nothing disk text fault lawful = record {
  lawful = lawful;
  written = tt;
  whole = inl refl;
  any_moment = nothing_since disk lawful (IsBeforeOrText disk text) (λ c left. inl left);
  still = λ was. was;
  limit = refl;
}

-- the text was written
pub saves_whole : {E F : Type 0} (old new : DiskView) (text : List ℕ) (done : Unit {0}) → WritesWhole {E = E} old text (Ok done) new → SavesText {E = F} old text (Ok done) new
saves_whole old new text done wrote = record {
  lawful = wrote.lawful;
  written = (wrote.written.file, wrote.written.durable);
  whole = wrote.whole;
  any_moment = wrote.any_moment;
  still = wrote.still;
  limit = wrote.limit;
}

-- it could not be
pub saves_not : {E F : Type 0} (old new : DiskView) (text : List ℕ) (fault : E) (other : F) → WritesWhole old text (Err fault) new → SavesText old text (Err other) new
saves_not old new text fault other wrote = record {
  lawful = wrote.lawful;
  written = tt;
  whole = wrote.whole;
  any_moment = wrote.any_moment;
  still = wrote.still;
  limit = wrote.limit;
}

-- it was made to last
pub lasts : {E F : Type 0} (old new : DiskView) (done : Unit {0}) → Closes {E = E} old (Ok done) new → MakesLast {E = F} old (Ok done) new
lasts old new done closed = record {
  lawful = closed.lawful;
  same = closed.same;
  any_moment = closed.any_moment;
  still = closed.still;
  limit = closed.limit;
  lasts = closed.durable;
}

-- it could not be
pub lasts_not : {E F : Type 0} (old new : DiskView) (fault : E) (other : F) → Closes old (Err fault) new → MakesLast old (Err other) new
lasts_not old new fault other closed = record {
  lawful = closed.lawful;
  same = closed.same;
  any_moment = closed.any_moment;
  still = closed.still;
  limit = closed.limit;
  lasts = λ written. tt;
}

-- what is kept of a run, under other premises that give the first
pub keeps_from : (keys : List Key) (most : ℕ) (before later : Grounds) (begun ended : Moment) (old new : Kept) (result : Result Stop SaveFault) (n : ℕ)
    → (before.good → later.good) → (before.honest → later.honest) → KeepsMoments keys most later begun ended old new result n → KeepsMoments keys most before begun ended old new result n
keeps_from = premises_less

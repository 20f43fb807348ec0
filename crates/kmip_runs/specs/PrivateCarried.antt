-- Private: what the parts of carrying out a plan keep.
-- Source: own (view).
use Rattle.std.specs.Prelude.{Err, IfOk, IsTrue, Ok, Result, [], false, ℕ, ◌-◌, ◌<◌, ◌≡◌, ◌≤◌, ◌⊎◌}
use Rattle.kmip_client.specs.Clients.{ClientState}
use Rattle.kmip_client.specs.Saving.{progress}
use Rattle.kmip_disk.specs.Calls.{HasRisenBy}
use Rattle.kmip_disk.specs.Views.{DiskView}
use Rattle.kmip_disk.specs.Whole.{IsWritten, LeavesOneOf}
use Rattle.kmip_progress.specs.Reading.{read_text}
use Rattle.kmip_progress.specs.Texts.{progress_text}
use Rattle.kmip_protocol.specs.Past.{Names, is_planned}
use Rattle.kmip_runs.specs.Driving.{IsBorneOut, IsGood, IsSettling, Keeps, Learnt, LearntUntil, Nearer, TakesNothingBack, WentOn}
use Rattle.kmip_runs.specs.declared.stop.Stop.{Stop}
use Rattle.kmip_runs.specs.declared.stop.Stop.TheVariants as stops
use Rattle.kmip_runs.specs.Saved.{IsInMemory, IsLeft, IsWhole, Situation}
use Rattle.kmip_runs.specs.declared.save_fault.SaveFault.{SaveFault}
use Rattle.kmip_runs.specs.declared.save_fault.SaveFault.TheVariants as faults
use Rattle.kmip_runs.specs.CarriesOut.{Stage, situation}
use Rattle.kmip_runs.specs.Losing.{ArePaid, left_for}
use Rattle.kmip_runs.specs.Keeping.{SavesText}
use Rattle.kmip_runs.specs.Lasting.{KeepsBetween}
use Rattle.kmip_runs.specs.Refusals.{HasRisen}
use Rattle.kmip_runs.specs.Turning.{IsTurned, stop_in}

-- What `made` exchanges keep of what is good, and what they teach. The fields are clauses of `carry_out`.
pub record Went (old new : Situation) (result : Result Stop SaveFault) (made : ℕ) : Type 0 where
  pub good : IsGood old.client old.link → IsGood new.client new.link
  pub onward : IsGood old.client old.link → WentOn old.client.keys old.link.past new.link.past
  pub learns : old.link.honest (is_planned old.client.keys)
      → new.link.honest (is_planned old.client.keys)
      × (IsInMemory result → Learnt old.client.keys old.client.batch old.link.past new.link.past old.client.knowns new.client.knowns made)
  pub broken : old.link.honest (is_planned old.client.keys) → result ≡ Ok stops.NoMemory
      → LearntUntil old.client.keys old.client.batch old.link.past new.link.past old.client.knowns new.client.knowns made
  pub takes_nothing_back : old.link.honest (is_planned old.client.keys) → TakesNothingBack old.client.keys old.link.past new.link.past
  pub keeps : Keeps old.client new.client
  pub near : IsSettling old.client old.link → IsWhole result → Nearer old.client new.client old.link new.link made

-- So many exchanges were made, and what was known after each was saved.
pub record Carried (old new : Situation) (result : Result Stop SaveFault) (made : ℕ) : Type 0 where
  pub went : Went old new result made
  pub kept : KeepsBetween old new result made

-- What exchanges make of a run, however many are made.
pub record MakesExchanges (old new : Situation) (result : Result Stop SaveFault) (made : ℕ) : Type 0 where
  -- What is good stays so, and what was known after each is saved.
  pub carried : Carried old new result made
  -- The keeper's count of refusals never falls.
  pub counted : old.keeper.refusals ≤ new.keeper.refusals
  -- That a text could not be written is answered only where the count has risen, or stands at its last value.
  pub output : result ≡ Err faults.Output → HasRisen old.keeper.refusals new.keeper.refusals
  -- How the keys stand bears out why no more were made.
  pub stops_for_its_reason : IfOk result (λ stop. IsBorneOut stop new.client.keys new.client.knowns)
  -- The client took a turn for each.
  pub turned : IsTurned (old.link.honest (is_planned old.client.keys)) (stop_in result) made old.client new.client old.link.past new.link.past
  -- Where all was good and nobody else asks, they are paid for.
  pub losing : IsGood old.client old.link → old.link.honest (is_planned old.client.keys) → IsInMemory result
      → ArePaid made (left_for old.client old.link.past) (left_for new.client new.link.past) old.link.disturbances new.link.disturbances

-- One exchange was made at most, and saved.
pub record MakesOneExchange (old new : Situation) (result : Result Stop SaveFault) (made : ℕ) : Type 0 where
  -- It is an exchange as any other.
  pub exchanges : MakesExchanges old new result made
  -- Where it might go on, one was made.
  pub limit : result ≡ Ok stops.Limit → made ≡ 1
  -- One is made at most.
  pub within : made ≤ 1
  -- Over a link that was honest for some names no run was ended.
  pub ended : (names : Names) → old.link.honest names → new.link.ended ≡ old.link.ended

-- Exchanges were made in turn, `most` at most, and saved.
pub record MakesExchangesInTurn (most : ℕ) (old : Stage) (result : Result Stop SaveFault) (made : ℕ) (new : Stage) : Type 0 where
  -- Each is an exchange as any other.
  pub exchanges : MakesExchanges (situation old) (situation new) result made
  -- It stops with `Limit` only after exactly `most` exchanges, or where patience has given up.
  pub limit : result ≡ Ok stops.Limit → (made ≡ most) ⊎ IsTrue new.is_tired
  -- Where patience gives up meanwhile, fewer were made, and it was left so.
  pub given_up : old.is_tired ≡ false → IsTrue new.is_tired → IsLeft result × (made < most)
  -- `most` are made at most.
  pub within : made ≤ most
  -- Patience was asked before each but the first.
  pub asked : HasRisenBy (made - 1) old.asked new.asked
  -- Over a link that was honest for the names of the plan no run was ended.
  pub ended : old.link.honest (is_planned old.client.keys) → new.link.ended ≡ old.link.ended

-- Nothing was written.
pub record WritesNothing (old new : DiskView) : Type 0 where
  pub lawful : new.lawful
  pub any_moment : LeavesOneOf old [] new
  pub still : IsWritten old → IsWritten new
  pub limit : new.limit ≡ old.limit

-- The text of what a client knows was given to the disk, and is read back as that.
pub record WritesProgress (old : DiskView) (client : ClientState) (result : Result (Unit {0}) SaveFault) (new : DiskView) : Type 0 where
  pub read_back : read_text client.keys (progress_text client.keys (progress client)) ≡ Ok (progress client)
  pub saves : SavesText old (progress_text client.keys (progress client)) result new

-- The text of what a client knows was saved, or at a fault perhaps not even written.
abbrev pub SavesProgress : DiskView → ClientState → Result (Unit {0}) SaveFault → DiskView → Type 0
SavesProgress old client (Ok done) new = WritesProgress old client (Ok done) new
SavesProgress old client (Err fault) new = WritesProgress old client (Err fault) new ⊎ WritesNothing old new

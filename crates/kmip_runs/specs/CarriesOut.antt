-- What carrying out a plan over a link promises.
-- Source: own (view).
use Rattle.std.specs.List.{All}
use Rattle.std.specs.Prelude.{Bool, Err, IfOk, IsTrue, Ok, Result, false, length, ℕ, ◌+◌, ◌-◌, ◌<◌, ◌≡◌, ◌≢◌, ◌≤◌, ◌⊎◌}
use Rattle.kmip_client.specs.Clients.{ClientState}
use Rattle.kmip_client.specs.Verdicts.{counts_of}
use Rattle.kmip_plan.specs.Chains.{bound}
use Rattle.kmip_protocol.specs.Ending.{EndedAt}
use Rattle.kmip_protocol.specs.Headline.{Safe}
use Rattle.kmip_protocol.specs.Past.{is_planned}
use Rattle.kmip_protocol.specs.Seen.{Seen}
use Rattle.kmip_protocol.specs.Sound.{AreJustified, IsOfPlan}
use Rattle.kmip_runs.specs.Driving.{AsksOne, IsBorneOut, IsGood, IsSettling, Keeps, Learnt, LearntUntil, Nearer, TakesNothingBack, WentOn, need}
use Rattle.kmip_runs.specs.Headline.{reported_by}
use Rattle.kmip_runs.specs.Keeping.{Kept}
use Rattle.kmip_disk.specs.Calls.{HasRisenBy}
use Rattle.kmip_disk.specs.Whole.{IsWritten}
use Rattle.kmip_runs.specs.Lasting.{KeepsBetween, LeavesTheFile}
use Rattle.kmip_runs.specs.Losing.{ArePaid, IsEnough, left_for}
use Rattle.kmip_runs.specs.Refusals.{HasRisen}
use Rattle.kmip_runs.specs.Saved.{HasMemory, IsInMemory, IsLeft, IsWhole, Situation}
use Rattle.kmip_runs.specs.Turning.{IsTurnedUntil, stop_in}
use Rattle.kmip_runs.specs.declared.save_fault.SaveFault.{SaveFault}
use Rattle.kmip_runs.specs.declared.stop.Stop.{Stop}
use Rattle.kmip_runs.specs.declared.stop.Stop.TheVariants as stops
use Rattle.kmip_runs.specs.declared.save_fault.SaveFault.TheVariants as faults

-- What is seen at a moment while a plan is carried out: of the link, of the client, of the keeper, and of
-- patience: whether it has given up.
pub record Stage : Type 1 where
  pub link : Seen
  pub client : ClientState
  pub keeper : Kept
  pub is_tired : Bool
  -- How often patience was asked whether to go on.
  pub asked : ℕ

-- The stage of these parts.
abbrev pub stage : Seen → ClientState → Kept → Bool → ℕ → Stage
stage link client keeper is_tired asked =
    record { link = link; client = client; keeper = keeper; is_tired = is_tired; asked = asked }

-- What is seen at a stage, but for patience.
abbrev pub situation : Stage → Situation
situation moment = record { client = moment.client; link = moment.link; keeper = moment.keeper }

-- What carrying out a plan promises where all was good before (`IsGood`).
pub record CarriesOutWell (most : ℕ) (old : Stage) (stopped : Result Stop SaveFault) (made : ℕ) (new : Stage) : Type 0 where
  -- Where all is good, it is so after it, however it stops: the link is honest among others of the plan,
  -- all that has happened over it is sound, and what the client knows is true.
  pub good : IsGood new.client new.link
  -- Where all was good (`IsGood`), the objects have gone onward. A past that was an image of the plan
  -- machine is one still.
  -- And it may pass over the links of others of the plan (`WentOn`).
  pub onward : WentOn old.client.keys old.link.past new.link.past
  -- Where all was good (`IsGood`) and nobody else asks, with no premise of calm: the exchanges that were
  -- made and those that are left are no more than were left, and what disturbed exchanges cost. That is said unless it
  -- stops for want of memory, and also where the text of the last one was not saved. What arrives at
  -- the end of the run adds nothing.
  pub losing : old.link.honest (is_planned old.client.keys) → IsInMemory stopped
      → ArePaid made (left_for old.client old.link.past) (left_for new.client new.link.past)
      old.link.disturbances new.link.disturbances
  -- Where all was good (`IsGood`) and nobody else asks, it stops with `AllFinished`, unless patience has
  -- given up, memory ran out or a text was not saved. It asks for a limit of at least the plan's bound, one exchange for
  -- each key, and what the disturbed exchanges of the call cost.
  pub outlasts : old.link.honest (is_planned old.client.keys) → new.is_tired ≡ false → IsWhole stopped
      → IsEnough old.client.keys most old.link.disturbances new.link.disturbances
      → stopped ≡ Ok stops.AllFinished
  -- Where all was good (`IsGood`), it does not stop with `Conflict`.
  pub no_conflict : stopped ≢ Ok stops.Conflict
  -- If all was good, nobody else asks, and no request asked before was a look's: each request ever asked
  -- may be asked of a key of the plan still.
  pub justified : old.link.honest (is_planned old.client.keys)
      → All (IsOfPlan old.client.keys) old.link.past.requests → AreJustified old.client.keys new.link.past
  -- If all was good, the past is safe for the steps that the client counts done at the end.
  pub safe : Safe old.client.keys new.link.past (reported_by old.client.keys (counts_of new.client.knowns))

-- What carrying out a plan promises over a link that was honest for its names.
pub record CarriesOutHonestly (old : Stage) (stopped : Result Stop SaveFault) (made : ℕ) (new : Stage) : Type 0 where
  -- A link that was honest for the plan's names is so after it. Unless it stops for want of memory, as
  -- many messages were sent as it counts exchanges, and nothing else was asked. Each asks about keys of
  -- the plan, each once, and about no more than the client asks about at once. What is then known of
  -- identifiers, counts and conflicts is what was known before and what these exchanges handed over.
  pub learns : new.link.honest (is_planned old.client.keys)
      × (IsInMemory stopped → Learnt old.client.keys old.client.batch old.link.past new.link.past
      old.client.knowns new.client.knowns made)
  -- Where it stops for want of memory, over a link that was honest for the plan's names: the exchanges
  -- that it counts were made. What they handed over was learnt, but of the last one there may have been
  -- no memory to learn. An exchange that lacked memory itself is not counted: it sent nothing, and
  -- asked at most the questions of one message.
  pub broken : stopped ≡ Ok stops.NoMemory
      → LearntUntil old.client.keys old.client.batch old.link.past new.link.past old.client.knowns
      new.client.knowns made
  -- Over a link that was honest for the plan's names nothing that was asked, sent or handed over is
  -- taken back, however it stops. What joins those asked is of the plan.
  pub takes_nothing_back : TakesNothingBack old.client.keys old.link.past new.link.past
  -- Over a link that was honest for the plan's names the run is ended once, right after its last
  -- exchange, unless memory ran out or a text was not saved.
  pub ended : IsWhole stopped
      → EndedAt (length old.link.past.sent + made) old.link.ended new.link.ended
  -- Over a link that was honest for the plan's names the run is ended at most once, however it stops,
  -- and after all that was sent.
  pub once : EndedAt (length new.link.past.sent) old.link.ended new.link.ended
      ⊎ (new.link.ended ≡ old.link.ended)

-- What carrying out a plan promises over a calm link, where the client was ready to settle.
pub record CarriesOutCalmly (most : ℕ) (old : Stage) (stopped : Result Stop SaveFault) (made : ℕ) (new : Stage) : Type 0 where
  -- Over a calm link, where the client was ready to settle: unless memory ran out or a text was not
  -- saved, link and client are so still. The client needs at least one question less for each exchange
  -- that was made, and exactly one where each message asks about one key.
  pub calm : IsWhole stopped → Nearer old.client new.client old.link new.link made
  -- Over a calm link, where the client was ready to settle, with a limit of at least the plan's bound,
  -- it stops with `AllFinished`. It makes no more exchanges than the keys needed questions, at most the
  -- bound, and exactly as many where each message asks about one key. That is said unless patience has
  -- given up, memory ran out or a text was not saved.
  pub settles : bound old.client.keys ≤ most → new.is_tired ≡ false → IsWhole stopped
      → (stopped ≡ Ok stops.AllFinished) × (made ≤ need old.client old.link.past)
      × (AsksOne old.client → made ≡ need old.client old.link.past) × (made ≤ bound old.client.keys)

-- A plan is carried out over a link, in `most` exchanges at most, and saved after each: what that makes of
-- link, client, keeper and patience, why it stopped, and how many exchanges were made. `follows` is that the link
-- after it is what calls made of the link before.
pub record CarriesOut (most : ℕ) (old : Stage) (stopped : Result Stop SaveFault) (made : ℕ) (new : Stage) (follows : Type 0) : Type 0 where
  -- Where all was good before, all of this holds.
  pub well : IsGood old.client old.link → CarriesOutWell most old stopped made new
  -- Over a link that was honest for the names of the plan, all of this holds.
  pub honestly : old.link.honest (is_planned old.client.keys)
      → CarriesOutHonestly old stopped made new
  -- Over any link the plan stays, and how many keys a message may ask about. No identifier or count is
  -- taken back.
  pub forgets_nothing : Keeps old.client new.client
  -- What is known after each exchange is saved, and what a crash may leave is one of these texts
  -- (`KeepsMoments`): if the disk keeps the rules, it is whole, and if all was good, it is true.
  pub moments : KeepsBetween (situation old) (situation new) stopped made
  -- On a disk that kept the rules, once the run has ended: a crash leaves what a read gives, and nothing
  -- else. That is said where the bytes of the file were on the disk at the start, and unless the keeper's
  -- count of refusals has risen, or stands at its last value. An older text is as true.
  pub lasts : old.keeper.disk.lawful → IsWritten old.keeper.disk
      → LeavesTheFile new.keeper.disk ⊎ HasRisen old.keeper.refusals new.keeper.refusals
  -- The keeper's count of refusals never falls.
  pub counted : old.keeper.refusals ≤ new.keeper.refusals
  -- It answers that a text could not be written only where the keeper's count of refusals has risen, or
  -- stands at its last value, 2^64 - 1. So it does not give up by itself.
  pub output : stopped ≡ Err faults.Output → HasRisen old.keeper.refusals new.keeper.refusals
  -- `AllFinished`: every key is finished. `Limit`: some key is worked on. `Conflict`: no key is worked
  -- on, and one is in conflict.
  pub stops_for_its_reason : IfOk stopped (λ stop. IsBorneOut stop new.client.keys new.client.knowns)
  -- It stops with `Limit` only after exactly `most` exchanges, or where patience has given up.
  pub limit : stopped ≡ Ok stops.Limit → (made ≡ most) ⊎ IsTrue new.is_tired
  -- Where patience gives up in the call, fewer than `most` exchanges were made. It stops with `Limit`
  -- then, or for want of memory.
  pub given_up : old.is_tired ≡ false → IsTrue new.is_tired → IsLeft stopped × (made < most)
  -- At most `most` exchanges are made.
  pub within : made ≤ most
  -- Patience was asked before each exchange but the first.
  pub asked : HasRisenBy (made - 1) old.asked new.asked
  -- Over any link the client took as many turns as exchanges are counted. In each it asked its next question,
  -- and learnt from an answer or that none came. Over an honest link these are what was sent and handed over,
  -- and the end of the run followed.
  pub turned : IsTurnedUntil (old.link.honest (is_planned old.client.keys)) (stop_in stopped) made old.client
      new.client old.link.past new.link.past
  -- Unless memory ran out, the link after it is what calls made of the link before, as the link itself tells it.
  pub followed : HasMemory stopped → follows
  -- Over a calm link, where the client was ready to settle, both of this hold.
  pub calmly : IsSettling old.client old.link → CarriesOutCalmly most old stopped made new

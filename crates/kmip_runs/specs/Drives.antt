-- What driving a client over a link promises, and ending a run.
-- Source: own (view).
use Rattle.std.specs.Prelude.{List, OnErr, OnOk, Result, length, ℕ, ◌+◌, ◌≡◌, ◌≢◌, ◌≤◌}
use Rattle.kmip_client.specs.Clients.{ClientState}
use Rattle.kmip_plan.specs.Chains.{bound}
use Rattle.kmip_plan.specs.declared.key.Key.{Key}
use Rattle.kmip_protocol.specs.Amid.{PassedAmid}
use Rattle.kmip_protocol.specs.Clean.{AreNoFewer}
use Rattle.kmip_protocol.specs.Ending.{EndedAt}
use Rattle.kmip_protocol.specs.Moves.{Delivered}
use Rattle.kmip_protocol.specs.Needs.{chains_and_looks}
use Rattle.kmip_protocol.specs.Past.{Names, is_planned}
use Rattle.kmip_protocol.specs.Seen.{Seen}
use Rattle.kmip_protocol.specs.Sound.{Sound}
use Rattle.kmip_runs.specs.Driving.{AsksOne, IsBorneOut, IsComplete, IsGood, IsSettling, IsUntouched, Keeps, KeepsFurther, Learnt, LearntUntil, Nearer, TakesNothingBack, WentOn, need}
use Rattle.kmip_runs.specs.Losing.{ArePaid, IsEnough, left_for}
use Rattle.kmip_runs.specs.Turning.{IsTurned}
use Rattle.kmip_runs.specs.declared.stop.Stop.{Stop}
use Rattle.kmip_runs.specs.declared.stop.Stop.TheVariants as stops

-- What driving promises where all was good before (`IsGood`).
pub record DrivesWell (old : Seen) (client : ClientState) (most : ℕ) (driven : Stop × ℕ) (new : Seen) (next : ClientState) : Type 0 where
  -- Where all was good before, all is good after it, however it stops.
  pub good : IsGood next new
  -- Where all was good before, the object of each planned name keeps its identifier and never goes back,
  -- and a past that was an image of the plan machine still is.
  -- And it may pass over the links of others of the plan (`WentOn`).
  pub onward : WentOn client.keys old.past new.past
  -- Where all was good and nobody else asks, with no premise of calm, and unless memory ran out: the exchanges
  -- that were made and those that may be left are at most those that might be left before, and what the
  -- disturbed ones cost. Such sums of several calls in a row add up.
  pub losing : old.honest (is_planned client.keys) → driven.0 ≢ stops.NoMemory
      → ArePaid driven.1 (left_for client old.past) (left_for next new.past) old.disturbances
      new.disturbances
  -- Where all was good and nobody else asks, and unless memory ran out: if `most` is at least the plan's bound,
  -- one for each key, and what its own disturbed exchanges cost, it stops with `AllFinished`.
  pub outlasts : old.honest (is_planned client.keys) → driven.0 ≢ stops.NoMemory
      → IsEnough client.keys most old.disturbances new.disturbances → driven.0 ≡ stops.AllFinished
  -- Where all was good, it does not stop in conflict.
  pub no_conflict : driven.0 ≢ stops.Conflict
  -- Where all was good, what holds for a plan that prolongs the client's is kept. Over a link that is
  -- honest among others of it, what was sound for it stays so, its objects go onward, and an image of its
  -- machine stays one. Over a calm link with room for what that plan misses, there is room still, unless
  -- memory ran out.
  pub further : KeepsFurther client.keys (driven.0 ≢ stops.NoMemory) old new

-- What driving promises over a link that is honest for the names of the plan.
pub record DrivesHonestly (old : Seen) (client : ClientState) (most : ℕ) (driven : Stop × ℕ) (new : Seen) (next : ClientState) : Type 0 where
  -- Where the link is honest for the plan's names, it is so after it. Unless memory ran out, each exchange
  -- that is counted sent one message about keys of the plan, each once, and no more of them than the client
  -- asks about at once. Nothing else was asked, sent or handed over. What is known of identifiers, counts
  -- and conflicts is what was known before and what these exchanges handed over.
  pub learns : new.honest (is_planned client.keys)
      × (driven.0 ≢ stops.NoMemory → Learnt client.keys client.batch old.past new.past client.knowns
      next.knowns driven.1)
  -- Where memory ran out over such a link, so it is of the exchanges that are counted, but nothing was
  -- learnt from a last reply for which there was no memory. An exchange that lacked memory itself is not
  -- counted: it sent and handed over nothing, and may have asked one message.
  pub broken : driven.0 ≡ stops.NoMemory
      → LearntUntil client.keys client.batch old.past new.past client.knowns next.knowns driven.1
  -- Where the link is honest for the plan's names, at most `most` messages are sent.
  pub few : length new.past.sent ≤ length old.past.sent + most
  -- Where the link is honest for the plan's names, nothing that was asked, sent or handed over is taken
  -- back, and what joins those asked is of the plan.
  pub takes_nothing_back : TakesNothingBack client.keys old.past new.past

-- What driving promises where the link is calm and the client ready (`IsSettling`).
pub record DrivesCalmly (old : Seen) (client : ClientState) (most : ℕ) (driven : Stop × ℕ) (new : Seen) (next : ClientState) : Type 0 where
  -- Where the link is calm and the client ready (`IsSettling`), and `most` is at least the plan's bound:
  -- unless memory ran out, it stops with `AllFinished`. It makes no more exchanges than the keys still need
  -- questions, and at most the bound. It makes exactly as many as they need where each message asks one
  -- (`AsksOne`).
  pub settles : bound client.keys ≤ most → driven.0 ≢ stops.NoMemory
      → (driven.0 ≡ stops.AllFinished) × (driven.1 ≤ need client old.past)
      × (AsksOne client → driven.1 ≡ need client old.past) × (driven.1 ≤ bound client.keys)
  -- Where the link is calm and the client ready, both are so after it, unless memory ran out. Each exchange
  -- brought down what the keys need by one question at least, and by exactly one where each message asks
  -- one.
  pub calm : driven.0 ≢ stops.NoMemory → Nearer client next old new driven.1

-- A client is driven over a link, for `most` exchanges at most: what that makes of link and client, why it
-- stopped, and how many exchanges were made. `follows` is that the link after it is what calls made of the
-- link before.
pub record Drives (old : Seen) (client : ClientState) (most : ℕ) (driven : Stop × ℕ) (new : Seen) (next : ClientState) (follows : Type 0) : Type 0 where
  -- Where all was good before, all of this holds.
  pub well : IsGood client old → DrivesWell old client most driven new next
  -- Over a link that is honest for the names of the plan, all of this holds.
  pub honestly : old.honest (is_planned client.keys)
      → DrivesHonestly old client most driven new next
  -- Over any link the client took as many turns as exchanges are counted. In each it asked its next
  -- question, and learnt from an answer or that none came. Where memory ran out, it may then have given up
  -- one more question. Where the link is honest for the plan's names, the messages sent are these
  -- questions, and unless memory ran out, what was handed over are these answers.
  pub turned : IsTurned (old.honest (is_planned client.keys)) driven.0 driven.1 client next old.past
      new.past
  -- Over any link the plan stays, and how many keys are asked about at once, and no identifier or count
  -- that was known is taken back.
  pub forgets_nothing : Keeps client next
  -- It stops with `AllFinished` only where every key is finished, and with `Limit` only where one is worked
  -- on. It stops with `Conflict` only where none is worked on and one is in conflict.
  pub stops_for_its_reason : IsBorneOut driven.0 next.keys next.knowns
  -- With `Limit` it has made exactly `most` exchanges.
  pub limit : driven.0 ≡ stops.Limit → driven.1 ≡ most
  -- It makes at most `most` exchanges.
  pub within : driven.1 ≤ most
  -- Where the link is calm and the client ready, both of this hold.
  pub calmly : IsSettling client old → DrivesCalmly old client most driven new next
  -- Where the link is calm, no planned name has an object, there is room for all and nothing is known
  -- (`IsUntouched`), and `most` is at least the plan's bound: unless memory ran out, it stops with
  -- `AllFinished`. It makes at most as many exchanges as all chains have steps, and one more for each key.
  -- It makes exactly as many where each message asks one. Then each object is at the end of its chain, and
  -- counts and verdicts say so.
  pub finishes : IsUntouched client old → bound client.keys ≤ most → driven.0 ≢ stops.NoMemory
      → (driven.0 ≡ stops.AllFinished) × (driven.1 ≤ chains_and_looks client.keys)
      × (AsksOne client → driven.1 ≡ chains_and_looks client.keys)
      × IsComplete client.keys new.past.objects next.knowns
  -- A link that is honest for some names is so after it.
  pub honest : (names : Names) → old.honest names → new.honest names
  -- Over a link that is honest for some names no count of disturbed exchanges falls.
  pub counts : (names : Names) → old.honest names → AreNoFewer old.disturbances new.disturbances
  -- Over a link that is honest for some names it ends no run.
  pub ended : (names : Names) → old.honest names → new.ended ≡ old.ended
  -- Unless memory ran out, the link after it is what calls made of the link before, as the link itself
  -- tells it.
  pub followed : driven.0 ≢ stops.NoMemory → follows

-- What the end of a run promises over a link that is honest for some names.
pub record ClosesHonestly (names : Names) {E : Type 0} (old : Seen) (closed : Result (Unit {0}) E) (new : Seen) : Type 0 where
  -- A link that is honest for some names is so after it, and what happened in between is a delivery beside
  -- these names.
  pub honest : new.honest names × Delivered names old.past new.past
  -- Over a link that is honest for some names, no exchange is counted as disturbed by it.
  pub undisturbed : new.disturbances ≡ old.disturbances
  -- Over a link that is honest for some names, and unless memory ran out, the end is noted after those
  -- before it, by how many messages had been sent.
  pub ended : OnOk closed (EndedAt (length old.past.sent) old.ended new.ended)
  -- Where memory ran out over such a link, no end is noted.
  pub unended : OnErr closed (new.ended ≡ old.ended)

-- A run is ended over a link: what that makes of the link. `follows` is that the link after it is what calls
-- made of the link before.
pub record ClosesRun {E : Type 0} (old : Seen) (closed : Result (Unit {0}) E) (new : Seen) (follows : Type 0) : Type 0 where
  -- Over a link that is honest for some names, all of this holds.
  pub honestly : (names : Names) → old.honest names → ClosesHonestly names old closed new
  -- A link that is honest among others of a plan, and whose past is sound, is so after it. What happened in
  -- between may happen there.
  pub amid : (keys : List Key) → old.amid keys → Sound keys old.past → new.amid keys × PassedAmid keys old.past new.past
  -- A link that is calm for some names is so after it, and unless memory ran out nothing happened.
  pub calm : (names : Names) → old.calm names → new.calm names × OnOk closed (new.past ≡ old.past)
  -- Unless memory ran out, the link after it is what calls made of the link before, as the link itself
  -- tells it.
  pub followed : OnOk closed follows
  -- Where memory ran out, no failure of the network was counted.
  pub wanting : OnErr closed (new.failures ≡ old.failures)

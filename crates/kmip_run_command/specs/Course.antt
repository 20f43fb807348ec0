-- What comes of a run: what its exchanges taught, what was kept of it, and what stays safe.
-- Source: own (view), but `LeavesTrue`, `KeepsSafe` and `AsksFew`: own (law).
use Rattle.std.specs.Prelude.{◌≡◌, ◌≤◌, ◌<◌, ◌-◌, ◌⊎◌, ⊤, ℕ, Bool, true, false, List, [], ◌++◌, Option, Some, None, Result, Ok, Err}
use Rattle.std.specs.List.{All, AllZip}
use Rattle.kmip_objects.specs.Objects.{Object}
use Rattle.kmip_plan.specs.Chains.{bound}
use Rattle.kmip_plan.specs.declared.key.Key.{Key}
use Rattle.kmip_progress.specs.Reading.{read_text}
use Rattle.kmip_progress.specs.declared.known.Known.{Known}
use Rattle.kmip_client.specs.Clients.{ClientState}
use Rattle.kmip_client.specs.Held.{Held, TrueProgress}
use Rattle.kmip_client.specs.Verdicts.{counts_of}
use Rattle.kmip_disk.specs.Calls.{HasRisenBy}
use Rattle.kmip_disk.specs.Views.{Content, DiskView}
use Rattle.kmip_disk.specs.Whole.{IsWritten, LeavesOnly}
use Rattle.kmip_client.specs.Shapes.{IsKept}
use Rattle.kmip_client.specs.declared.knowledge.Knowledge.{Knowledge}
use Rattle.kmip_protocol.specs.Past.{Past, is_planned}
use Rattle.kmip_protocol.specs.Seen.{Seen}
use Rattle.kmip_protocol.specs.Ready.{IsReady}
use Rattle.kmip_protocol.specs.Headline.{Safe}
use Rattle.kmip_runs.specs.Headline.{GoodLink, reported_by}
use Rattle.kmip_runs.specs.Lasting.{KeepsMoments, LeavesTheFile}
use Rattle.kmip_runs.specs.Turning.{IsTurnedUntil, stop_in}
use Rattle.kmip_runs.specs.Driving.{IsGood, IsQuestion, Learnt, WentOn}
use Rattle.kmip_runs.specs.Losing.{IsEnough}
use Rattle.kmip_runs.specs.declared.stop.Stop.{Stop}
use Rattle.kmip_runs.specs.declared.stop.Stop.TheVariants as stops
use Rattle.kmip_runs.specs.Refusals.{HasRisen}
use Rattle.kmip_runs.specs.Saved.{IsLeft, IsWhole}
use Rattle.kmip_runs.specs.declared.save_fault.SaveFault.{SaveFault}
use Rattle.kmip_runs.specs.declared.save_fault.SaveFault.TheVariants as faults
use Rattle.kmip_runs.specs.Keeping.{Kept}
use Rattle.kmip_run_command.specs.RunEnds.{Outcome}

-- The state of a run at a moment: what is seen of its link, its keeper and its patience.
pub record RunState : Type 1 where
  pub link : Seen
  pub keeper : Kept
  -- Whether patience has given up.
  pub is_tired : Bool
  -- How often patience was asked whether to go on.
  pub asked : ℕ

-- The state of these parts.
abbrev pub run_state : Seen → Kept → Bool → ℕ → RunState
run_state link keeper is_tired asked =
    record { link = link; keeper = keeper; is_tired = is_tired; asked = asked }

-- A crash leaves what a read of the file gives, and nothing else, or the keeper has counted a failure since. It asks
-- for a disk that kept the rules, with the bytes of the file on it.
abbrev pub Lasts : Kept → Kept → Type 0
Lasts old new =
    old.disk.lawful → IsWritten old.disk → LeavesTheFile new.disk ⊎ HasRisen old.refusals new.refusals

-- What came of exchanges over a link, no more than `limit`, of a client that was in this state at first. `old` is
-- the state of the run at first, `new` the state then. `outcome` says what is known then, why no more exchanges
-- were made, and how many were. All was good at first if the link was honest among others of the plan, all was sound,
-- and what was known was true (`IsGood`).
pub record Came (limit : ℕ) (old new : RunState) (first : ClientState) (outcome : Outcome) : Type 0 where
  -- No identifier or count is taken back.
  pub forgets_nothing : AllZip IsKept first.knowns outcome.knowns
  -- If all was good, what is known then is true of the objects that there are then, whoever else asked.
  pub is_true : IsGood first old.link → Held new.link.past.objects first.keys outcome.knowns
  -- If all was good, the past is safe for the steps that are then reported done.
  pub safe : IsGood first old.link → Safe first.keys new.link.past (reported_by first.keys (counts_of outcome.knowns))
  -- Over an honest link, each message asked about keys of the plan. What is known then is what was known
  -- at first and what the exchanges handed over.
  pub learnt : old.link.honest (is_planned first.keys)
      → Learnt first.keys first.batch old.link.past new.link.past first.knowns outcome.knowns outcome.exchanges
  -- Over any link the client took as many turns as exchanges were made: it asked its next question, about as
  -- many keys as it may, and learnt from an answer or that none came. Over an honest link these are what was
  -- sent and handed over.
  pub last : ClientState
  pub last_knows : last.knowns ≡ outcome.knowns
  pub turned : IsTurnedUntil (old.link.honest (is_planned first.keys)) (stop_in outcome.result) outcome.exchanges first last
      old.link.past new.link.past
  -- What was known after each exchange was saved, and what a crash may leave is one of these texts.
  pub moments : KeepsMoments first.keys first.batch
      (record { good = IsGood first old.link; honest = old.link.honest (is_planned first.keys) })
      (record { knowns = first.knowns; past = old.link.past }) (record { knowns = outcome.knowns; past = new.link.past })
      old.keeper new.keeper outcome.result outcome.exchanges
  -- A crash after it leaves the file as it is read, or the keeper has counted a failure.
  pub lasts : Lasts old.keeper new.keeper
  -- Over a calm link, with what is ready to settle, and a limit of at least the plan's bound: every key
  -- is finished after no more exchanges than the bound. That is said where each text could be kept,
  -- memory did not run out, and patience has not given up.
  pub settles : old.link.calm (is_planned first.keys) → IsReady old.link.past.room first.keys old.link.past.objects first.knowns
      → bound first.keys ≤ limit → new.is_tired ≡ false → IsWhole outcome.result
      → (outcome.result ≡ Ok stops.AllFinished) × (outcome.exchanges ≤ bound first.keys)
  -- It stops with `Limit` only after as many exchanges as it may make, or where patience has given up.
  pub at_limit : outcome.result ≡ Ok stops.Limit → (outcome.exchanges ≡ limit) ⊎ (new.is_tired ≡ true)
  -- Where patience gives up in the run, fewer exchanges are made than may be, and it stops with `Limit`,
  -- or for want of memory.
  pub given_up : old.is_tired ≡ false → new.is_tired ≡ true → IsLeft outcome.result × (outcome.exchanges < limit)
  -- Patience was asked before each exchange but the first.
  pub asked : HasRisenBy (outcome.exchanges - 1) old.asked new.asked
  -- That a text could not be written is told only where the keeper's count of refusals has risen, or
  -- stands at its last value.
  pub unwritten : outcome.result ≡ Err faults.Output → HasRisen old.keeper.refusals new.keeper.refusals
  -- Where all was good and nobody else asks, with no premise of calm: the plan's bound, one exchange for each
  -- key, and what the link counted of the run's disturbed exchanges are enough for every key. That too is said
  -- where each text could be kept, memory did not run out, and patience has not given up.
  pub outlasts : IsGood first old.link → old.link.honest (is_planned first.keys) → new.is_tired ≡ false → IsWhole outcome.result
      → IsEnough first.keys limit old.link.disturbances new.link.disturbances → outcome.result ≡ Ok stops.AllFinished

-- Turns were taken over the link by a client that was in this state at first.
abbrev pub TakesTurns : ClientState → Seen → Seen → Type 0
TakesTurns first old new =
    (stop : Stop) × (exchanges : ℕ) × (last : ClientState)
    × IsTurnedUntil (old.honest (is_planned first.keys)) stop exchanges first last old.past new.past

-- A run of a client that was in this state at first kept the texts of its moments.
abbrev pub KeepsTexts : ClientState → Seen → Seen → Kept → Kept → Type 0
KeepsTexts first old new old_keeper new_keeper =
    (result : Result Stop SaveFault) × (exchanges : ℕ) × (ended : List Knowledge)
    × KeepsMoments first.keys first.batch
    (record { good = IsGood first old; honest = old.honest (is_planned first.keys) })
    (record { knowns = first.knowns; past = old.past }) (record { knowns = ended; past = new.past })
    old_keeper new_keeper result exchanges

-- The text of a progress, where there is one, says what is true of these objects.
abbrev pub IsTrueText : List Object → List Key → Option (List ℕ) → Type 0
IsTrueText objects keys None = ⊤
IsTrueText objects keys (Some text) = (saved : List Known) → read_text keys text ≡ Ok saved → TrueProgress objects keys saved

-- The link is honest among others of the keys, and all that has happened over it is sound. The text of a progress,
-- where there is one, is true.
abbrev pub IsGoodStart : Option (List ℕ) → Seen → List Key → Type 0
IsGoodStart text link keys = GoodLink keys link × IsTrueText link.past.objects keys text

-- The text is that of a whole progress, which is true of these objects.
abbrev pub IsWholeText : List Object → List Key → List ℕ → Type 0
IsWholeText objects keys text = (saved : List Known) × (read_text keys text ≡ Ok saved) × TrueProgress objects keys saved

-- There is the text of a whole progress, which is true of these objects.
abbrev pub IsWholeFile : List Object → List Key → Content → Type 0
IsWholeFile objects keys c = (text : List ℕ) × (c ≡ Some text) × IsWholeText objects keys text

-- Own (law): a run that is killed, or whose machine stops, leaves what its next run may begin with. If the disk
-- keeps the rules, a crash at any time leaves what it might have left before the run, or a whole progress. Its
-- text is true of the objects at the end.
abbrev pub LeavesTrue : List Object → List Key → DiskView → DiskView → Type 0
LeavesTrue objects keys old new = old.lawful → LeavesOnly old new (λ c. old.may_leave c ⊎ IsWholeFile objects keys c)

-- Own (law): the link was honest among others of the plan, its past was sound, and the run began with what was
-- true. What holds of the link then.
pub record KeepsSafe (keys : List Key) (old new : Seen) : Type 0 where
  -- The link is honest among others of the plan still, and its past is sound.
  pub stays_good : GoodLink keys new
  -- The past is safe: the sentence holds of it, whatever is reported.
  pub safe : Safe keys new.past []
  -- A link that was honest for the names of the plan is so still.
  pub honest : old.honest (is_planned keys) → new.honest (is_planned keys)
  -- The objects have gone onward, and a past that was an image of the plan machine is one still.
  pub went_on : WentOn keys old.past new.past

-- Own (law): each message that was sent asks about one of these keys or more, at most `most` of them, and
-- about none twice.
pub record AsksFew (keys : List Key) (most : ℕ) (old new : Past) : Type 0 where
  pub messages : List (List ℕ)
  pub sent_are : new.sent ≡ old.sent ++ messages
  pub each : All (IsQuestion keys most) messages

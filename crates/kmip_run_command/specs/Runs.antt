-- What a run promises: how it ends, what is kept of it, and what stays safe.
-- Source: own (view), but `RunsOver`: own (law).
use Rattle.std.specs.Prelude.{IfOk, List, Result, ℕ}
use Rattle.kmip_client.specs.Clients.{ClientState}
use Rattle.kmip_plan.specs.declared.key.Key.{Key}
use Rattle.kmip_protocol.specs.Past.{is_planned}
use Rattle.kmip_runs.specs.Driving.{IsGood}
use Rattle.kmip_ttlv.specs.declared.no_memory.NoMemory.{NoMemory}
use Rattle.kmip_run_command.specs.Course.{AsksFew, Came, KeepsSafe, LeavesTrue, RunState}
use Rattle.kmip_run_command.specs.RunEnds.{EndsFrom}
use Rattle.kmip_run_command.specs.declared.run_end.RunEnd.{RunEnd}

-- What a run makes of its link, its keeper and its patience.
pub record RunChange : Type 1 where
  -- Their state before the run.
  pub before : RunState
  -- Their state after it.
  pub after : RunState

-- The change from one state to another.
abbrev pub run_change : RunState → RunState → RunChange
run_change before after = record { before = before; after = after }

-- How a run ended whose client was in the first state before it, and is in the last one after it: it stopped, or what
-- was known could not be saved. What is known at its end came of its exchanges.
abbrev pub Ends : ClientState → ℕ → RunChange → ClientState → RunEnd → Type 0
Ends first limit change last = EndsFrom (Came limit change.before change.after first) first.keys limit last

-- What a run over these keys promises of its link and its file. `good` is that the link is honest among others of
-- the plan, that all that has happened over it is sound, and that what the run begins with is true.
pub record RunsOver (good : Type 0) (keys : List Key) (most : ℕ) (old new : RunState) (Whole : Type 0 → Type 0) : Type 0 where
  -- It asks that the link is honest among others of the plan, that all that has happened over it is sound,
  -- and that what the client knows is true. Then the link is honest among others still, and its past sound and
  -- safe, however the run ends (`KeepsSafe`).
  pub safe : good → KeepsSafe keys old.link new.link
  -- It asks that too, and that the keeper's disk keeps the rules. Then whatever a crash at any time during the run
  -- leaves is what it might have left before, or a whole text that is true, however the run ends: so the next run
  -- may begin with it.
  pub any_moment : good → LeavesTrue new.link.past.objects keys old.keeper.disk new.keeper.disk
  -- Over a link that is honest for the names of the plan, each message that was sent asks about keys of the
  -- plan, each once, and about no more than the client may. That is not said where it ends with a fault.
  pub few : old.link.honest (is_planned keys) → Whole (AsksFew keys most old.link.past new.link.past)

-- What carrying out a plan to its end promises, from the first state of its client to the last. Of running out of
-- memory nothing is told.
pub record RunsPlan (first : ClientState) (limit : ℕ) (change : RunChange) (ended : Result RunEnd NoMemory) (last : ClientState) : Type 0 where
  -- How it ended came of its exchanges (`Came`).
  pub text : IfOk ended (Ends first limit change last)
  -- What it promises of its link and its file.
  pub over : RunsOver (IsGood first change.before.link) first.keys first.batch
      change.before change.after (λ P. IfOk ended (λ end. P))

-- What was heard of a key in a run.
-- Source: own (view, choice).
use Rattle.std.specs.Prelude.{ℕ, nat_lt, ◌&&◌, ◌||◌, not, Bool, true, false, List, [], Option, None, if◌then◌else◌}
use Rattle.kmip_batch_items.specs.declared.operation.Operation.{Operation}
use Rattle.kmip_run_record.specs.OperationCounts.{no_counts}
use Rattle.kmip_run_record.specs.declared.counts.Counts.{Counts}
use Rattle.kmip_run_record.specs.declared.setback.Setback.{Setback}
use Rattle.kmip_run_record.specs.declared.stage.Stage.{Stage}

-- What a contract sees of a story: how far the key is known to be, how often each operation was refused and not
-- answered since then, the last setback, what was answered last, and that answer in words.
pub record StoryState : Type 0 where
  pub stage : Stage
  pub refusals : Counts
  pub losses : Counts
  pub setback : Option Setback
  pub answered : Option Operation
  pub told : List ℕ

-- Nothing was heard of a key that is known to be so far.
abbrev pub begun : Stage → StoryState
begun stage = record { stage = stage; refusals = no_counts; losses = no_counts; setback = None; answered = None; told = [] }

-- The second stage is further than the first: more steps are known, or the identifier is new.
abbrev pub is_further : Stage → Stage → Bool
is_further old new = nat_lt old.done new.done || (new.is_identified && not old.is_identified)

-- The key is known to be so far. If that is further than before, its setbacks are forgotten. Own (choice).
abbrev pub reaching : Stage → StoryState → StoryState
reaching stage story =
    if is_further story.stage stage then record story { stage = stage; refusals = no_counts; losses = no_counts; setback = None }
    else record story { stage = stage }

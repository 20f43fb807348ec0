-- Private: what the parts of a campaign on several plans keep.
-- Source: own (view).
use Rattle.std.specs.Prelude.{◌≡◌, ◌≢◌, ◌<◌, ◌⊎◌, List, [], ◌++◌, flat_map, length, map, IfOk, IfSome, IsOk, None, OnErr, OnOk, Option, Result}
use Rattle.std.specs.List.{All}
use Rattle.kmip_plan.specs.Plans.{IsLawful}
use Rattle.kmip_plan.specs.declared.key.Key.{Key}
use Rattle.kmip_progress.specs.Suiting.{Suits}
use Rattle.kmip_progress.specs.declared.known.Known.{Known}
use Rattle.kmip_protocol.specs.Laws.{IsReached}
use Rattle.kmip_protocol.specs.Past.{Past, is_planned}
use Rattle.kmip_protocol.specs.Seen.{Seen}
use Rattle.kmip_ttlv.specs.declared.no_memory.NoMemory.{NoMemory}
use Rattle.kmip_runs.specs.Headline.{GoodLink, reported_by}
use Rattle.kmip_runs.specs.Campaign.{HasNoConflict}
use Rattle.kmip_runs.specs.Private.{EndsJoin}
use Rattle.kmip_runs.specs.PrivateCampaignParts.{AreSame, HasRunAll}
use Rattle.kmip_runs.specs.Campaigns.{AreInTurn, GoodStart, IsTrueFor, carried_over, last_plan, premises_of}
use Rattle.kmip_runs.specs.Driving.{WentOn}
use Rattle.kmip_runs.specs.Remembering.{notes_of}
use Rattle.kmip_runs.specs.declared.campaign_end.CampaignEnd.{CampaignEnd}
use Rattle.kmip_runs.specs.TurnedRuns.{AreTurnedFrom}
use Rattle.kmip_runs.specs.declared.run.Run.{Run}
use Rattle.kmip_runs.specs.declared.run_end.RunEnd.{RunEnd}

-- Each step that the ends of runs and what was saved report done was reached, no end has a conflict, and what
-- was saved is true.
pub record NotedFor (keys : List Key) (p : Past) (ends : List RunEnd) (saved : List (List Known)) : Type 0 where
  pub ends_reached : All (IsReached keys p) (flat_map (λ (end : RunEnd). reported_by keys end.counts.items) ends)
  pub saved_reached : All (IsReached keys p) (flat_map (λ progress. reported_by keys (map (λ known. known.done) progress)) saved)
  pub no_conflict : All HasNoConflict ends
  pub true_saved : All (IsTrueFor p.objects keys) saved

-- The runs of one more plan were made, and what they noted joined what was noted.
pub record HasRunPart (keys : List Key) (carried : List (List Known)) (runs : List Run) (x y : Seen) (old new : CampaignEnd) : Type 0 where
  pub part : CampaignEnd
  pub all : HasRunAll keys carried runs (notes_of part) (part.fault ≡ None) x y
  pub runs_are : new.runs.items ≡ old.runs.items ++ part.runs.items
  pub saved_are : new.saved.items ≡ old.saved.items ++ part.saved.items
  pub turned : AreTurnedFrom keys carried runs part.runs.items (x.honest (is_planned keys)) (part.fault ≡ None) x.past y.past

-- The runs of one more plan were made, and either one of them has no end, or there is a plan to which nothing
-- was carried over.
pub record HasRunBroken (keys : List Key) (next : Option (List Key)) (carried : List (List Known)) (runs : List Run) (x y : Seen) (old new : CampaignEnd) : Type 0 where
  pub ran : HasRunPart keys carried runs x y old new
  pub why : (length ran.part.runs.items < length runs) ⊎ (next ≢ None)

-- what was saved so far is read for the next plan, where there is one
abbrev pub IsReadFor : Option (List Key) → List (List Known) → List (List Known) → Type 0
IsReadFor next saved read = IfSome next (λ keys. (read ≡ map (carried_over keys) saved) × All (Suits keys) read)

-- What is seen at a moment between the runs of plans: of the link, and what is noted so far.
pub record PlanStage : Type 1 where
  pub link : Seen
  pub end : CampaignEnd

-- The runs of the plan are whole, and what was saved so far was read for the next.
pub record HasRunWhole (keys : List Key) (next : Option (List Key)) (carried : List (List Known)) (runs : List Run) (old new : PlanStage) (read : List (List Known)) : Type 0 where
  pub ran : HasRunPart keys carried runs old.link new.link old.end new.end
  pub whole : ran.part.fault ≡ None
  pub read_is : IsReadFor next (carried ++ ran.part.saved.items) read

-- What the runs on one plan are given: the plan, the next one, what was carried over, and the runs.
pub record Portion : Type 0 where
  pub keys : List Key
  pub next : Option (List Key)
  pub carried : List (List Known)
  pub runs : List Run

-- The runs on a plan were made: what that makes of the link, what is noted, and what is read for the next
-- plan. `stays` is that the link is as it was, and `follows` that it is what calls made of the one before.
pub record MakesPart {V : Type 0} (given : Portion) (old : PlanStage) (done : Result V NoMemory) (read : V → List (List Known)) (new : PlanStage) (stays follows : Type 0) : Type 0 where
  -- Unless memory ran out they are whole, and what was saved so far was read for the next plan.
  pub ran : IfOk done (λ v. HasRunWhole given.keys given.next given.carried given.runs old new (read v))
  -- Where memory ran out nothing was done, or some run has no end, or a further plan was not begun.
  pub broken : OnErr done ((AreSame old.end new.end × stays)
      ⊎ HasRunBroken given.keys given.next given.carried given.runs old.link new.link old.end new.end)
  -- The runs that have ends are those that were ended over an honest link, and no other was.
  pub ended : old.link.honest (is_planned given.keys) → EndsJoin old.end.runs.items new.end.runs.items (IsOk done)
      (length old.link.past.sent) (length new.link.past.sent) old.link.ended new.link.ended
  -- Unless memory ran out, the link after them is what calls made of the link before.
  pub followed : OnOk done follows

-- Over a link that is good at the start, all is good for this plan, the last one, after the runs.
pub record IsGoodFor (keys : List Key) (old new : Seen) (ends : List RunEnd) (saved : List (List Known)) : Type 0 where
  pub good : GoodLink keys new
  pub honest : new.honest (is_planned keys)
  pub went : WentOn keys old.past new.past
  pub noted : NotedFor keys new.past ends saved

-- after the runs on all plans, or on the first ones of them: all is good for the last plan, and what is noted
-- was noted plan by plan
pub record HasRunPlans (plans : List (List Key)) (runs : List (List Run)) (whole : Type 0) (old new : Seen) (end : CampaignEnd) : Type 0 where
  pub good : GoodStart plans old → IsGoodFor (last_plan plans) old new end.runs.items end.saved.items
  pub in_turn : AreInTurn plans runs (notes_of end) (premises_of plans old) whole old.past new.past

-- The lists of runs were made in turn, each on its plan: all that is promised of them. `follows` is that the
-- link after them is what calls made of the link before.
pub record MakesPlans (plans : List (List Key)) (runs : List (List Run)) (whole : Type 0) (old new : Seen) (end : CampaignEnd) (follows : Type 0) : Type 0 where
  -- All is good for the last plan, and what is noted was noted plan by plan.
  pub ran : HasRunPlans plans runs whole old new end
  pub lawful : IsLawful (last_plan plans)
  -- The runs that have ends are those that were ended over an honest link, and no other was.
  pub ended : old.honest (is_planned (last_plan plans))
      → EndsJoin [] end.runs.items whole (length old.past.sent) (length new.past.sent) old.ended new.ended
  -- Unless memory ran out, the link after them is what calls made of the link before.
  pub followed : whole → follows

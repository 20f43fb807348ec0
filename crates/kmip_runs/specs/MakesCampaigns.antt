-- What a campaign promises, on one plan and on several in turn.
-- Source: own (view).
use Rattle.std.specs.List.{All, AllZip}
use Rattle.std.specs.Prelude.{List, None, [], filter, length, take, ◌<◌, ◌≡◌, ◌≢◌}
use Rattle.kmip_client.specs.Held.{TrueProgress}
use Rattle.kmip_plan.specs.declared.key.Key.{Key}
use Rattle.kmip_protocol.specs.Machine.{IsMirrored}
use Rattle.kmip_protocol.specs.Past.{is_planned}
use Rattle.kmip_protocol.specs.Headline.{Safe}
use Rattle.kmip_protocol.specs.Seen.{Seen}
use Rattle.kmip_protocol.specs.Sound.{AreJustified, IsOfPlan, Opening}
use Rattle.kmip_runs.specs.Campaign.{CalmLink, HasNoConflict, IsEnd, Settles, saves}
use Rattle.kmip_runs.specs.Headline.{GoodLink, reported}
use Rattle.kmip_runs.specs.Campaigns.{AreInTurn, GoodStart, IsTrueFor, last_plan, premises_of}
use Rattle.kmip_runs.specs.Driving.{WentOn}
use Rattle.kmip_runs.specs.Ending.{AreEnded}
use Rattle.kmip_runs.specs.Losing.{AllOutlast}
use Rattle.kmip_runs.specs.Remembering.{AreKnown, notes_of}
use Rattle.kmip_runs.specs.TurnedRuns.{AreTurnedFrom}
use Rattle.kmip_runs.specs.declared.campaign_end.CampaignEnd.{CampaignEnd}
use Rattle.kmip_runs.specs.declared.run.Run.{Run}

-- What a campaign promises over a good link (`GoodLink`), whatever the runs are, and wherever memory ran
-- out.
pub record RunsWell (old : Seen) (keys : List Key) (runs : List Run) (end : CampaignEnd) (new : Seen) : Type 0 where
  -- Over a good link, the past after the campaign is safe for all that its ends and its saves report done.
  -- Each planned name is on at most one object, with the attributes of the plan. What took effect on it is
  -- the first steps of its chain, each once and in order, and every step reported is among these. A request
  -- that comes again after its step took effect changes no object.
  pub safe : Safe keys new.past (reported keys end.runs.items end.saved.items)
  -- Over a good link the past is an image of a run of the plan machine, where nothing of the plan had
  -- happened before, or where the past was such an image before.
  pub machine : (Opening keys old.past → IsMirrored keys new.past)
      × (IsMirrored keys old.past → IsMirrored keys new.past)
  -- Over a good link no run stops in conflict, and no end has a key in conflict.
  pub no_conflict : All HasNoConflict end.runs.items
  -- A good link is good after the campaign too, so that another campaign may follow.
  pub sound : GoodLink keys new
  -- Over a good link, if nobody else asks, and no request asked before was a look's: each request ever asked
  -- may be asked of a key of the plan still.
  pub justified : old.honest (is_planned keys) → All (IsOfPlan keys) old.past.requests → AreJustified keys new.past
  -- Over a good link each saved progress is true of the objects that are there after the campaign.
  pub true_saved : All (TrueProgress new.past.objects keys) end.saved.items
  -- Over a good link the object of each planned name keeps its identifier and never goes back, and a past
  -- that was an image of the plan machine still is.
  -- And it may pass over the links of others of the plan (`WentOn`).
  pub onward : WentOn keys old.past new.past
  -- Over a good link where nobody else asks, unless memory ran out, each run finishes every key if it may make
  -- enough exchanges, whatever it began with. Enough are the plan's bound, one for each key, and what the disturbed ones of
  -- its own exchanges cost. A disturbed exchange costs one, two for each request that it sent, and one for
  -- each reply about another key that the link counts. It is no premise that the link ever stops losing.
  pub outlasts : old.honest (is_planned keys) → end.fault ≡ None
      → AllOutlast keys runs end.runs.items old.disturbances new.disturbances

-- The runs of a plan were made in turn over a link: what that makes of the link, and what is noted of it.
-- `follows` is that the link after it is what calls made of the link before.
pub record MakesCampaign (old : Seen) (keys : List Key) (runs : List Run) (end : CampaignEnd) (new : Seen) (follows : Type 0) : Type 0 where
  -- Over a good link all of this holds.
  pub well : GoodLink keys old → RunsWell old keys runs end new
  -- A link that is honest for the plan's names is so after the campaign.
  pub honest : old.honest (is_planned keys) → new.honest (is_planned keys)
  -- Over any link the ends are those of the first runs, in order. Each is borne out by its own counts and
  -- verdicts (`IsEnd`): its report, the reason why it stopped, and its number of exchanges within the
  -- limit.
  pub order : AllZip (IsEnd keys) (take (length end.runs.items) runs) end.runs.items
  -- Unless memory ran out, over any link each run has its end, and as much was saved as the runs say.
  pub complete : end.fault ≡ None → AllZip (IsEnd keys) runs end.runs.items
      × (length end.saved.items ≡ length (filter saves runs))
  -- For each end there is a knowledge that it shows. This takes back no identifier and no count of what the
  -- run began with: nothing, what was known at the end before, or what was saved. What was saved is exactly
  -- what was known at the ends of the runs that say so. Where the link is honest for the plan's names,
  -- sound or not, each exchange that the ends count sent one message. It asks about keys of the plan, each
  -- once, and about no more of them than the run asks about at once. What is known at an end is what its
  -- run began with and what its exchanges handed over. Nothing else was asked, sent or handed over until
  -- the last end, and later only where memory ran out: then the next run sent no more messages than its
  -- limit.
  pub known : AreKnown keys runs (notes_of end) (old.honest (is_planned keys))
      (end.fault ≡ None) old.past new.past
  -- Client by client: each run begins with a client that knows nothing, with that of the run before, or
  -- with one that goes on from a save. The turns of the run, one for each exchange that its end counts,
  -- made of it the client that the end shows. Where the link is honest for the plan's names, the messages
  -- that were sent until the last end are the questions of these turns, and what was handed over are their
  -- answers. Unless memory ran out, nothing was sent or handed over later.
  pub turned : AreTurnedFrom keys [] runs end.runs.items (old.honest (is_planned keys))
      (end.fault ≡ None) old.past new.past
  -- Where the link is calm for the plan's names, all that has happened over it is sound, and there is room
  -- for the objects that are missing (`CalmLink`): unless memory ran out, so it is after the campaign. And
  -- each run that may make as many exchanges as the plan's bound finishes every key within that bound,
  -- whatever it began with.
  pub settles : CalmLink keys old → end.fault ≡ None → AllZip (Settles keys) runs end.runs.items
      × CalmLink keys new
  -- Where memory ran out, some run has no end.
  pub fewer : end.fault ≢ None → length end.runs.items < length runs
  -- Where the link is honest for the plan's names, the runs that have ends are those that were ended over
  -- it, each right after its last exchange, and no other run was.
  pub ended : old.honest (is_planned keys)
      → AreEnded end.runs.items (length old.past.sent) old.ended new.ended
  -- Unless memory ran out, the link after the campaign is what calls made of the link before, as the link
  -- itself tells it (`follows`).
  pub followed : end.fault ≡ None → follows

-- What a campaign on several plans promises where the start is good (`GoodStart`), whatever the runs were,
-- and wherever memory ran out.
pub record PlansRunWell (old : Seen) (plans : List (List Key)) (end : CampaignEnd) (new : Seen) : Type 0 where
  -- Where the start is good, the past is safe for the last plan and for all that was reported on any of the
  -- plans, whatever the runs were and wherever memory ran out.
  pub safe : Safe (last_plan plans) new.past (reported (last_plan plans) end.runs.items end.saved.items)
  -- Where the start is good, the past is an image of a run of the last plan's machine, if nothing of that
  -- plan had happened before, or if the past was such an image before.
  pub machine : (Opening (last_plan plans) old.past → IsMirrored (last_plan plans) new.past)
      × (IsMirrored (last_plan plans) old.past → IsMirrored (last_plan plans) new.past)
  -- Where the start is good, no run stops in conflict, and no end has a key in conflict.
  pub no_conflict : All HasNoConflict end.runs.items
  -- Where the start is good, the link is good for the last plan after it.
  pub sound : GoodLink (last_plan plans) new
  -- Where the start is good, and no request asked before was a look's: each request ever asked may be asked of a
  -- key of the last plan still.
  pub justified : All (IsOfPlan (last_plan plans)) old.past.requests → AreJustified (last_plan plans) new.past
  -- Where the start is good, the link is honest for the names of the last plan after it.
  pub honest : new.honest (is_planned (last_plan plans))
  -- Where the start is good, each saved progress is true of the last plan and of the objects that are there
  -- after it, where nothing is known of the further keys.
  pub true_saved : All (IsTrueFor new.past.objects (last_plan plans)) end.saved.items
  -- Where the start is good, the object of each name of the last plan keeps its identifier and never goes
  -- back, and a past that was an image of that plan's machine still is.
  -- And it may pass over the links of others of the plan (`WentOn`).
  pub onward : WentOn (last_plan plans) old.past new.past

-- The lists of runs were made in turn over a link, each on its plan: what that makes of the link, and what is
-- noted of it. `follows` is that the link after it is what calls made of the link before.
pub record MakesCampaigns (old : Seen) (plans : List (List Key)) (runs : List (List Run)) (end : CampaignEnd) (new : Seen) (follows : Type 0) : Type 0 where
  -- Where the start is good, all of this holds.
  pub well : GoodStart plans old → PlansRunWell old plans end new
  -- Over any link what is noted was noted plan by plan. The runs on each plan are as `order`, `complete`
  -- and `known` of `campaign` say for that plan alone, where `Saved` finds what was saved so far, carried
  -- over to the plan. Where the start is calm (`CalmStart`), and memory did not run out in them, each that
  -- may make as many exchanges as its plan's bound finishes every key of the plan within it. The runs on
  -- each plan begin where those before them ended. Only where memory ran out are runs missing: then the
  -- runs on the last plan that was begun lack an end, or a further plan was not begun.
  pub in_turn : AreInTurn plans runs (notes_of end) (premises_of plans old) (end.fault ≡ None)
      old.past new.past
  -- Where the link is honest for the names of the last plan, the runs that have ends are those that were
  -- ended over it, each right after its last exchange, and no other run was.
  pub ended : old.honest (is_planned (last_plan plans))
      → AreEnded end.runs.items (length old.past.sent) old.ended new.ended
  -- Unless memory ran out, the link after it is what calls made of the link before, as the link itself
  -- tells it.
  pub followed : end.fault ≡ None → follows

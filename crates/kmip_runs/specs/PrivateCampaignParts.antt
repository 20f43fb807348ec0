-- Private: what the parts of a campaign keep.
-- Source: own (view).
use Rattle.std.specs.Prelude.{◌≡◌, ◌≢◌, ◌≤◌, ◌<◌, ℕ, ◌+◌, List, [], ◌∷◌, ◌++◌, filter, length, map, Ok, OnErr, OnOk, Option, Result, Some, None, string_bytes, take, if◌then◌else◌, vec_capacity, vec_len}
use Rattle.std.specs.List.{All, AllZip}
use Rattle.kmip_objects.specs.Objects.{Object}
use Rattle.kmip_plan.specs.declared.key.Key.{Key}
use Rattle.kmip_progress.specs.Suiting.{Suits}
use Rattle.kmip_progress.specs.declared.known.Known.{Known}
use Rattle.kmip_client.specs.Clients.{ClientState}
use Rattle.kmip_client.specs.Held.{TrueProgress}
use Rattle.kmip_client.specs.Places.{position}
use Rattle.kmip_client.specs.Saving.{known_of}
use Rattle.kmip_client.specs.Shapes.{IsKept}
use Rattle.kmip_client.specs.Verdicts.{AreWithin, counts_of, verdicts_of}
use Rattle.kmip_client.specs.declared.knowledge.Knowledge.{Knowledge}
use Rattle.kmip_protocol.specs.Past.{Names, is_planned}
use Rattle.kmip_protocol.specs.Seen.{Seen}
use Rattle.kmip_runs.specs.Campaign.{CalmLink, HasNoConflict, IsEnd, Settles, saves}
use Rattle.kmip_runs.specs.Headline.{GoodLink}
use Rattle.kmip_runs.specs.Driving.{IsGood, KeepsFurther, Learnt, TakesNothingBack, WentOn}
use Rattle.kmip_runs.specs.Losing.{AllOutlast}
use Rattle.kmip_runs.specs.Private.{EndsJoin, HasOutlasted, RanTurned}
use Rattle.kmip_runs.specs.Remembering.{AreKnownFrom, Notes, Shows, saved_after, start_knowns}
use Rattle.kmip_runs.specs.TurnedRuns.{AreTurnedFrom, begin_client}
use Rattle.kmip_ttlv.specs.declared.no_memory.NoMemory.{NoMemory}
use Rattle.kmip_runs.specs.Reporting.{report_text}
use Rattle.kmip_runs.specs.declared.campaign_end.CampaignEnd.{CampaignEnd}
use Rattle.kmip_runs.specs.declared.run.Run.{Run}
use Rattle.kmip_runs.specs.declared.run_end.RunEnd.{RunEnd}
use Rattle.kmip_runs.specs.declared.ending.Ending.{Ending}
use Rattle.kmip_runs.specs.declared.stop.Stop.{Stop}
use Rattle.kmip_runs.specs.declared.stop.Stop.TheVariants as stops

-- each key has come at least as far as is counted
abbrev pub Reaches : List Object → Key → ℕ → Type 0
Reaches objects key count = count ≤ position key objects

-- No end counts a step that its key has not come to, or has a conflict; and what was saved is true.
pub record Noted (objects : List Object) (keys : List Key) (ends : List RunEnd) (saved : List (List Known)) : Type 0 where
  pub reached : All (λ (end : RunEnd). AllZip (Reaches objects) keys end.counts.items) ends
  pub no_conflict : All HasNoConflict ends
  pub true_saved : All (TrueProgress objects keys) saved

-- All is good between two runs, and what was noted so far is true.
pub record Standing (keys : List Key) (c : ClientState) (link : Seen) (ends : List RunEnd) (saved : List (List Known)) : Type 0 where
  pub good : IsGood c link
  pub noted : Noted link.past.objects keys ends saved

-- After several runs the link is good, the objects have gone onward, and what was noted is true, whatever the
-- client knows.
pub record Campaigned (keys : List Key) (old new : Seen) (ends : List RunEnd) (saved : List (List Known)) : Type 0 where
  pub good : GoodLink keys new
  pub on : WentOn keys old.past new.past
  pub noted : Noted new.past.objects keys ends saved

-- the end says what is known, why the run stopped and how many exchanges it made
pub record IsEndOf (keys : List Key) (knowns : List Knowledge) (stop : Stop) (exchanges : ℕ) (end : RunEnd) : Type 0 where
  pub stop_is : end.stop ≡ stop
  pub exchanges_is : end.exchanges ≡ exchanges
  pub counts_are : end.counts.items ≡ counts_of knowns
  pub verdicts_are : end.verdicts.items ≡ verdicts_of keys knowns
  pub few : AreWithin keys end.counts.items
  pub report_is : string_bytes end.report ≡ report_text keys end.counts.items end.verdicts.items
  pub in_memory : stop ≢ stops.NoMemory

-- how a run ended where this is known at its end, and what is saved of it
pub record IsEnding (keys : List Key) (run : Run) (knowns : List Knowledge) (driven : Stop × ℕ) (ending : Ending) : Type 0 where
  pub end_is : IsEndOf keys knowns driven.0 driven.1 ending.run
  pub saved_is : ending.saved ≡ (if run.save then Some (map known_of knowns) else None)

-- one more end can be noted, and what is saved of it, without memory
pub record HasRoom (end : CampaignEnd) : Type 0 where
  pub room_for_run : vec_len end.runs < vec_capacity end.runs
  pub room_for_save : vec_len end.saved < vec_capacity end.saved

-- what is saved, with what a run adds to it
abbrev pub saved_with : Option (List Known) → List (List Known) → List (List Known)
saved_with None saved = saved
saved_with (Some progress) saved = saved ++ progress ∷ []

-- One more end is noted, of this run, that shows what is known.
pub record IsNoted (keys : List Key) (run : Run) (knowns : List Knowledge) (driven : Stop × ℕ) (old new : List RunEnd) : Type 0 where
  pub end : RunEnd
  pub joined : new ≡ old ++ end ∷ []
  pub is_end : IsEnd keys run end
  pub shows : Shows keys knowns end
  pub stop_is : end.stop ≡ driven.0
  pub exchanges_is : end.exchanges ≡ driven.1

-- the run has ended, and what is known was saved if it says so
pub record HasEnded (keys : List Key) (run : Run) (knowns : List Knowledge) (driven : Stop × ℕ) (old new : CampaignEnd) : Type 0 where
  pub noted : IsNoted keys run knowns driven old.runs.items new.runs.items
  pub saved_are : new.saved.items ≡ saved_after run knowns old.saved.items

-- nothing more is noted
pub record AreSame (old new : CampaignEnd) : Type 0 where
  pub same_runs : new.runs.items ≡ old.runs.items
  pub same_saved : new.saved.items ≡ old.saved.items

-- what a run begins with; what was carried over from earlier plans counts before what was saved under this
-- one
abbrev pub begins_with : List Key → List (List Known) → Run → ClientState → CampaignEnd → List Knowledge
begins_with keys carried run a old = start_knowns keys run.start a.knowns (carried ++ old.saved.items)

-- What is seen at a moment in a campaign: of the client, of the link, and what is noted so far.
pub record CampaignStage : Type 1 where
  pub client : ClientState
  pub link : Seen
  pub end : CampaignEnd

-- The run was made and has ended: nothing of what it began with is taken back, and over an honest link its
-- answers taught the rest.
pub record HasRun (keys : List Key) (carried : List (List Known)) (run : Run) (old new : CampaignStage) : Type 0 where
  pub driven : Stop × ℕ
  pub ended : HasEnded keys run new.client.knowns driven old.end new.end
  pub forgets_nothing : AllZip IsKept (begins_with keys carried run old.client old.end) new.client.knowns
  pub learnt : old.link.honest (is_planned keys) → new.link.honest (is_planned keys)
      × Learnt keys run.batch old.link.past new.link.past (begins_with keys carried run old.client old.end) new.client.knowns driven.1
  pub takes_nothing_back : old.link.honest (is_planned keys) → TakesNothingBack keys old.link.past new.link.past

-- the run that was noted last finished all keys within the plan's bound, if it might make as many exchanges
pub record HasSettled (keys : List Key) (run : Run) (old new : List RunEnd) : Type 0 where
  pub end : RunEnd
  pub joined : new ≡ old ++ end ∷ []
  pub settles : Settles keys run end

-- the run was broken off, and nothing is noted of it
pub record IsBroken (keys : List Key) (run : Run) (x y : Seen) (old new : CampaignEnd) : Type 0 where
  pub same : AreSame old new
  pub takes_nothing_back : x.honest (is_planned keys) → TakesNothingBack keys x.past y.past
  pub few : x.honest (is_planned keys) → length y.past.sent ≤ length x.past.sent + run.limit

-- What a run promises where all was good before it, and what was carried over is true.
pub record RunsOneWell (keys : List Key) (run : Run) (old : CampaignStage) (result : Result (Unit {0}) NoMemory) (new : CampaignStage) : Type 0 where
  -- All is good after it, and what is noted by then is true.
  pub standing : Standing keys new.client new.link new.end.runs.items new.end.saved.items
  -- The objects have gone onward, and an image of the plan machine is one still.
  pub onward : WentOn keys old.link.past new.link.past
  -- What holds for a plan that prolongs this one is kept.
  pub further : KeepsFurther keys (result ≡ Ok tt) old.link new.link
  -- Over a calm link it finishes every key if it may make as many exchanges as the plan's bound.
  pub settles : CalmLink keys old.link → OnOk result (HasSettled keys run old.end.runs.items new.end.runs.items × CalmLink keys new.link)
  -- Where nobody else asks it finishes every key if its limit is enough.
  pub outlasts : old.link.honest (is_planned keys)
      → OnOk result (HasOutlasted keys run old.end.runs.items new.end.runs.items old.link.disturbances new.link.disturbances)

-- A run was made, and noted, where this was carried over from earlier plans. `follows` is that the link after
-- it is what calls made of the link before.
pub record RunsOne (keys : List Key) (carried : List (List Known)) (run : Run) (old : CampaignStage) (result : Result (Unit {0}) NoMemory) (new : CampaignStage) (follows : Type 0) : Type 0 where
  -- The client is one of the plan.
  pub keys_stay : new.client.keys ≡ keys
  -- What is saved by then suits the plan.
  pub suits : All (Suits keys) new.end.saved.items
  -- Where all was good before, and what was carried over is true, this holds.
  pub well : Standing keys old.client old.link old.end.runs.items old.end.saved.items → All (TrueProgress old.link.past.objects keys) carried
      → RunsOneWell keys run old result new
  -- A link that is honest for some names is so after it.
  pub honest : (names : Names) → old.link.honest names → new.link.honest names
  -- Unless memory ran out it has its end, which says what was learnt.
  pub ran : OnOk result (HasRun keys carried run old new)
  -- Unless memory ran out its turns made the client that it leaves.
  pub turned : OnOk result (RanTurned keys (begin_client keys run old.client (carried ++ old.end.saved.items)) new.client (old.link.honest (is_planned keys))
      old.link.past new.link.past old.end.runs.items new.end.runs.items)
  -- Where memory ran out nothing is noted of it.
  pub broken : OnErr result (IsBroken keys run old.link new.link old.end new.end)
  -- It was ended over an honest link, right after its last exchange, or not at all.
  pub ended : old.link.honest (is_planned keys) → EndsJoin old.end.runs.items new.end.runs.items (result ≡ Ok tt)
      (length old.link.past.sent) (length new.link.past.sent) old.link.ended new.link.ended
  -- Unless memory ran out, the link after it is what calls made of the link before.
  pub followed : OnOk result follows

-- What runs in turn promise over a good link, where what was carried over is true.
pub record HasRunWell (keys : List Key) (runs : List Run) (notes : Notes) (whole : Type 0) (old new : Seen) : Type 0 where
  -- The link is good still, and what is noted is true.
  pub campaigned : Campaigned keys old new notes.ends notes.saved
  -- What holds for a plan that prolongs this one is kept.
  pub further : KeepsFurther keys whole old new
  -- Where nobody else asks each run finishes every key if its limit is enough.
  pub outlasts : old.honest (is_planned keys) → whole → AllOutlast keys runs notes.ends old.disturbances new.disturbances

-- The runs of a plan were made in turn, with what was carried over from earlier plans: what stands after
-- them, and what their ends say. `whole` is that memory did not run out.
pub record HasRunAll (keys : List Key) (carried : List (List Known)) (runs : List Run) (notes : Notes) (whole : Type 0) (old new : Seen) : Type 0 where
  -- What is saved suits the plan.
  pub suits : All (Suits keys) notes.saved
  -- A link that is honest for some names is so after them.
  pub stays_honest : (names : Names) → old.honest names → new.honest names
  -- Over a good link, where what was carried over is true, this holds.
  pub well : GoodLink keys old → All (TrueProgress old.past.objects keys) carried → HasRunWell keys runs notes whole old new
  -- The ends are those of the first runs, in order.
  pub order : AllZip (IsEnd keys) (take (length notes.ends) runs) notes.ends
  -- Unless memory ran out, each run has its end, and as much was saved as the runs say.
  pub complete : whole → AllZip (IsEnd keys) runs notes.ends × (length notes.saved ≡ length (filter saves runs))
  -- Where memory ran out, some run has no end.
  pub fewer : (whole → ⊥) → length notes.ends < length runs
  -- What is known at each end is what its run began with, and what was heard.
  pub known : AreKnownFrom keys carried runs notes (old.honest (is_planned keys)) whole old.past new.past
  -- Over a calm link each run finishes every key if it may make as many exchanges as the plan's bound.
  pub settles : CalmLink keys old → All (TrueProgress old.past.objects keys) carried → whole
      → AllZip (Settles keys) runs notes.ends × CalmLink keys new

-- The runs of a plan were made in turn: all that is promised of them. `follows` is that the link after them is
-- what calls made of the link before.
pub record MakesRuns (keys : List Key) (carried : List (List Known)) (runs : List Run) (notes : Notes) (whole : Type 0) (old new : Seen) (follows : Type 0) : Type 0 where
  -- What stands after them, and what their ends say.
  pub all : HasRunAll keys carried runs notes whole old new
  -- Each end shows what the turns of its run made of the client that it began with.
  pub turned : AreTurnedFrom keys carried runs notes.ends (old.honest (is_planned keys)) whole old.past new.past
  -- The runs that have ends are those that were ended over an honest link, and no other was.
  pub ended : old.honest (is_planned keys)
      → EndsJoin [] notes.ends whole (length old.past.sent) (length new.past.sent) old.ended new.ended
  -- Unless memory ran out, the link after them is what calls made of the link before.
  pub followed : whole → follows

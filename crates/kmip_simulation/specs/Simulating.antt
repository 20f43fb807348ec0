-- What holds of a campaign over a link in memory that followed a script, and of all that happened.
-- Source: own.
use Rattle.std.specs.Prelude.{◌≡◌, ◌≤◌, ◌+◌, ◌-◌, IsTrue, ℕ, ⊤, Bool, List, [], false, length, filter, map, replicate, slice_get, take, None}
use Rattle.std.specs.List.{All, AllZip}
use Rattle.std.specs.Option.{option_map_or}
use Rattle.kmip_plan.specs.declared.key.Key.{Key}
use Rattle.kmip_client.specs.Held.{TrueProgress}
use Rattle.kmip_protocol.specs.Machine.{IsMirrored}
use Rattle.kmip_protocol.specs.Headline.{Safe}
use Rattle.kmip_protocol.specs.Sound.{Opening, Sound}
use Rattle.kmip_runs.specs.Campaign.{CalmLink, HasNoConflict, IsEnd, Settles, saves}
use Rattle.kmip_runs.specs.Headline.{reported}
use Rattle.kmip_runs.specs.Driving.{WentOn}
use Rattle.kmip_runs.specs.Ending.{AreEnded}
use Rattle.kmip_runs.specs.Losing.{AllOutlast}
use Rattle.kmip_runs.specs.Remembering.{AreKnown, notes_of}
use Rattle.kmip_runs.specs.Campaigns.{AreInTurn, CalmStart, IsTrueFor, last_plan}
use Rattle.kmip_runs.specs.Crashes.{CrashesWell, IsCrashing, MakesCrashes}
use Rattle.kmip_runs.specs.TurnedRuns.{AreTurnedFrom}
use Rattle.kmip_runs.specs.declared.crashes_end.CrashesEnd.{CrashesEnd}
use Rattle.kmip_runs.specs.declared.crashing_run.CrashingRun.{CrashingRun}
use Rattle.kmip_runs.specs.declared.campaign_end.CampaignEnd.{CampaignEnd}
use Rattle.kmip_runs.specs.declared.run.Run.{Run}
use Rattle.kmip_runs.specs.declared.run_end.RunEnd.{RunEnd}
use Rattle.kmip_runs.specs.Stops.{is_all_finished}
use Rattle.kmip_store.specs.Stock.{empty_stock, most_room}
use Rattle.kmip_scripted.specs.Following.{Follows}
use Rattle.kmip_scripted.specs.Runs.{crashing_runs_of, lists_of, runs_of}
use Rattle.kmip_scripted.specs.Scenes.{Scene, disturbances_in, past_in, scene_of, seen_in}
use Rattle.kmip_scripted.specs.Words.{next_words}
use Rattle.kmip_scripted.specs.declared.word.Word.{Word}

-- the link to a new server that is to follow a script: no object, room for 10,000, key material from the stream of a seed of 32 zeros,
-- nothing that was asked, and the words of the script left
abbrev pub first_scene : List Word → Scene
first_scene words = scene_of (empty_stock (replicate 32 0) most_room) (next_words words)

-- each of the runs was made and has its end, and those that say so were saved
abbrev pub AreMade : List Key → List Run → CampaignEnd → Type 0
AreMade keys runs end = AllZip (IsEnd keys) runs end.runs.items × (length end.saved.items ≡ length (filter saves runs))

-- the runs, each of which asks about so many keys at once
abbrev pub in_batches : ℕ → List Run → List Run
in_batches batch runs = map (λ (run : Run). record run { batch = batch }) runs

-- What the headline says of a campaign over a link in memory, with its premises met: whatever the link lost, delayed and repeated, what
-- the server did is safe, and a past of the plan machine; no run found a conflict; over a calm link the
-- runs finish; and so they do over any, if they may make as many exchanges as the losses cost. Each end shows
-- what the turns of its run made of the client that it began with.
pub record IsCarriedOut (keys : List Key) (runs : List Run) (end : CampaignEnd) (before after : Scene) : Type 0 where
  pub safe : Safe keys (past_in after) (reported keys end.runs.items end.saved.items)
  pub machine : IsMirrored keys (past_in before) → IsMirrored keys (past_in after)
  pub no_conflict : All HasNoConflict end.runs.items
  pub sound : Sound keys (past_in after)
  pub true_saved : All (TrueProgress (past_in after).objects keys) end.saved.items
  pub onward : WentOn keys (past_in before) (past_in after)
  pub order : AllZip (IsEnd keys) (take (length end.runs.items) runs) end.runs.items
  pub complete : end.fault ≡ None → AreMade keys runs end
  pub known : AreKnown keys runs (notes_of end) ⊤ (end.fault ≡ None) (past_in before) (past_in after)
  pub turned : AreTurnedFrom keys [] runs end.runs.items ⊤ (end.fault ≡ None) (past_in before) (past_in after)
  pub settles : CalmLink keys (seen_in before) → end.fault ≡ None
      → AllZip (Settles keys) runs end.runs.items × CalmLink keys (seen_in after)
  pub outlasts : end.fault ≡ None → AllOutlast keys runs end.runs.items (disturbances_in before) (disturbances_in after)
  pub ended : AreEnded end.runs.items (length before.sent) before.ended after.ended
  pub followed : end.fault ≡ None → Follows before after

-- The runs of a script were made for a plan, with so many keys asked about at once, over the link to a new server that follows the
-- script, and ended so: the first of them, and where memory sufficed all. The link at the end is then what the words made of the first,
-- exchange by exchange. With no word in the script the link was calm, and had room for all keys. No run but these ended over the link.
pub record IsSimulated (keys : List Key) (batch : ℕ) (words : List Word) (end : CampaignEnd) (link : Scene) : Type 0 where
  pub opening : Opening keys (past_in (first_scene words))
  pub mirrored : IsMirrored keys (past_in link)
  pub calm : words ≡ [] → CalmLink keys (seen_in (first_scene words))
  pub carried : IsCarriedOut keys (in_batches batch (runs_of keys words)) end (first_scene words) link

-- the runs, each of which asks about so many keys at once
abbrev pub crashing_in_batches : ℕ → List CrashingRun → List CrashingRun
crashing_in_batches batch runs = map (λ (crashing : CrashingRun). record crashing { run = record crashing.run { batch = batch } }) runs

-- The runs of a script were made for a plan, and crashes ended some of them, as it says. All that a campaign with crashes promises over a good
-- link holds of them. No crash was refused.
pub record IsSimulatedWithCrashes (keys : List Key) (batch : ℕ) (words : List Word) (end : CampaignEnd) (link : Scene) : Type 0 where
  pub opening : Opening keys (past_in (first_scene words))
  pub mirrored : IsMirrored keys (past_in link)
  pub crashes : CrashesEnd
  pub end_is : end ≡ crashes.campaign
  pub allowed : crashes.is_refused ≡ false
  pub well : CrashesWell (seen_in (first_scene words)) keys crashes (seen_in link)
  pub made : MakesCrashes (seen_in (first_scene words)) keys (crashing_in_batches batch (crashing_runs_of keys words)) crashes (seen_in link)
      (Follows (first_scene words) link)

-- a crash is to end the run of this number, from 1
abbrev pub IsCrashOf : List Key → List Word → ℕ → Type 0
IsCrashOf keys words number = IsCrashing (slice_get (crashing_runs_of keys words) (number - 1)) × (1 ≤ number)

-- The runs of a script before the one of this number were made for a plan. That one was carried out too, and the crash that is to end it was
-- refused, as the campaign with crashes says.
pub record RefusesCrashOf (keys : List Key) (batch : ℕ) (words : List Word) (number : ℕ) : Type 0 where
  pub is_crash : IsCrashOf keys words number
  pub crashes : CrashesEnd
  pub link : Scene
  pub refused : IsTrue crashes.is_refused
  pub number_is : number ≡ length crashes.campaign.runs.items + 1
  pub made : MakesCrashes (seen_in (first_scene words)) keys (crashing_in_batches batch (crashing_runs_of keys words)) crashes (seen_in link)
      (Follows (first_scene words) link)

-- After that, a second campaign made these runs for the same plan over the same link.
pub record IsSimulatedAgain (keys : List Key) (batch : ℕ) (words : List Word) (runs : List Run) (first second : CampaignEnd) (link : Scene) : Type 0 where
  pub between : Scene
  pub simulated : IsSimulated keys batch words first between
  pub carried : IsCarriedOut keys runs second between link

-- The runs of a script with one `prolong` were made for plans in turn, each of which prolongs the one before, and ended so. They were made
-- over one link to a new server that follows the script, with so many keys asked about at once. All that holds of the runs for one plan holds of
-- these for the last plan, what was saved under an earlier one included.
pub record AreSimulated (plans : List (List Key)) (batch : ℕ) (words : List Word) (end : CampaignEnd) (link : Scene) : Type 0 where
  pub safe : Safe (last_plan plans) (past_in link) (reported (last_plan plans) end.runs.items end.saved.items)
  pub machine : IsMirrored (last_plan plans) (past_in link)
  pub sound : Sound (last_plan plans) (past_in link)
  pub no_conflict : All HasNoConflict end.runs.items
  pub true_saved : All (IsTrueFor (past_in link).objects (last_plan plans)) end.saved.items
  pub opening : (keys : List Key) → Opening keys (past_in (first_scene words))
  pub in_turn : AreInTurn plans (map (in_batches batch) (lists_of (last_plan plans) words)) (notes_of end)
      (record { honest = ⊤; calm = CalmStart plans (seen_in (first_scene words)) }) (end.fault ≡ None) (past_in (first_scene words)) (past_in link)
  pub ended : AreEnded end.runs.items 0 [] link.ended
  pub followed : end.fault ≡ None → Follows (first_scene words) link

-- the last of the runs stopped since each key of the plan was finished
abbrev pub is_last_finished : List RunEnd → Bool
is_last_finished ends = option_map_or (λ (end : RunEnd). is_all_finished end.stop) (slice_get ends (length ends - 1)) false

-- A campaign over a shared link to a new server.
-- Source: own (view).
use Rattle.std.specs.Prelude.{◌++◌, [], List, replicate}
use Rattle.kmip_client.specs.Clients.{ClientState, fresh}
use Rattle.kmip_client.specs.Verdicts.{counts_of}
use Rattle.kmip_plan.specs.declared.key.Key.{Key}
use Rattle.kmip_runs.specs.Headline.{reported, reported_by}
use Rattle.kmip_runs.specs.MakesCampaigns.{MakesCampaign}
use Rattle.kmip_runs.specs.declared.campaign_end.CampaignEnd.{CampaignEnd}
use Rattle.kmip_runs.specs.declared.run.Run.{Run}
use Rattle.kmip_scripted.specs.Scenes.{scene_of}
use Rattle.kmip_scripted.specs.Words.{next_words}
use Rattle.kmip_scripted.specs.declared.word.Word.{Word}
use Rattle.kmip_server.specs.declared.effect.Effect.{Effect}
use Rattle.kmip_store.specs.Stock.{empty_stock, most_room}
use Rattle.kmip_company.specs.Sharing.{GoesOn, Sharing, seen_of}

-- The shared link to a new server that is to follow a script: no object, room for 10,000, nothing that was asked, and
-- the words of the script left. The other client knows nothing.
abbrev pub first_sharing : List Key → List Word → Sharing
first_sharing keys words = record {
  scene = scene_of (empty_stock (replicate 32 0) most_room) (next_words words);
  other = fresh keys;
  sent = [];
  handed = [];
}

-- The steps that are reported done: by the ends of runs, by what was saved, and by what the other client counts.
abbrev pub reported_by_both : List Key → CampaignEnd → ClientState → List Effect
reported_by_both keys end other =
    reported keys end.runs.items end.saved.items ++ reported_by keys (counts_of other.knowns)

-- These runs were made over the shared link to a new server, as `campaign` promises.
abbrev pub IsSharedCampaign : List Key → List Word → List Run → CampaignEnd → Sharing → Type 0
IsSharedCampaign keys words runs end last =
    let first = first_sharing keys words in
    MakesCampaign (seen_of first) keys runs end (seen_of last) (GoesOn first last)

-- The link in memory is honest whatever its script, so the premises of the headline are met.
use Rattle.kmip_scripted.specs.Scenes.{seen_in}
use Rattle.kmip_runs.specs.Headline.{GoodLink}
use Rattle.kmip_simulation.proofs.simulation.campaign_over.Goals as goal

pub returns : goal.returns
returns c =
    let keys = c.args.plan.now in
    let good : GoodLink keys (seen_in c.args.link.now) = record { amid_for = tt; sound = c.requires.sound } in
    record {
      safe = (c.campaign.ensures.well good).safe;
      machine = (c.campaign.ensures.well good).machine.1;
      no_conflict = (c.campaign.ensures.well good).no_conflict;
      sound = (c.campaign.ensures.well good).sound.sound;
      true_saved = (c.campaign.ensures.well good).true_saved;
      onward = (c.campaign.ensures.well good).onward;
      order = c.campaign.ensures.order;
      complete = c.campaign.ensures.complete;
      known = c.campaign.ensures.known;
      turned = c.campaign.ensures.turned;
      settles = c.campaign.ensures.settles;
      outlasts = (c.campaign.ensures.well good).outlasts tt;
      ended = c.campaign.ensures.ended tt;
      followed = c.campaign.ensures.followed;
    }

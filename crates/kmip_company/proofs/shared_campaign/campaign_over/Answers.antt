-- The other client knows the truth, so the link is good.
use Rattle.kmip_company.specs.Sharing.{past_of, seen_of}
use Rattle.kmip_runs.specs.Headline.{GoodLink, reported}
use Rattle.kmip_company.proofs.SharedLemmas.{both_safe}
use Rattle.kmip_company.proofs.shared_campaign.campaign_over.Goals as goal

pub returns-clause-safe : goal.returns-clause-safe
returns-clause-safe c =
    let keys = c.args.plan.now in
    let l = c.the_laws_below_hold.ensures in
    let old = c.args.link.now in
    let new = c.campaign.new.link in
    let end = c.campaign.result in
    let good : GoodLink keys (seen_of old) = record
    { amid_for = c.requires.together; sound = l.exchanges.begins keys (past_of old) c.requires.opening } in
    let well = c.campaign.ensures.well good in
    both_safe l keys (past_of new) new.other (reported keys end.runs.items end.saved.items) c.a_plan_is_lawful.ensures
    well.sound.sound well.sound.amid_for well.safe

pub returns-clause-machine : goal.returns-clause-machine
returns-clause-machine c =
    let keys = c.args.plan.now in
    let old = c.args.link.now in
    let good : GoodLink keys (seen_of old) = record {
      amid_for = c.requires.together;
      sound = c.the_laws_below_hold.ensures.exchanges.begins keys (past_of old)
          c.requires.opening;
    } in
    (c.campaign.ensures.well good).machine.0 c.requires.opening

pub returns-clause-other : goal.returns-clause-other
returns-clause-other c =
    let keys = c.args.plan.now in
    let old = c.args.link.now in
    let good : GoodLink keys (seen_of old) = record {
      amid_for = c.requires.together;
      sound = c.the_laws_below_hold.ensures.exchanges.begins keys (past_of old)
          c.requires.opening;
    } in
    (c.campaign.ensures.well good).sound.amid_for

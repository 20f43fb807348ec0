-- Nothing was carried over; and all that is reported was reached, so what is sound is safe.
use Rattle.std.proofs.Common.{◌≡◌, ◌∙◌, [], None, subst}
use Rattle.std.proofs.lemmas.List.Elements.{All-nil}
use Rattle.kmip_client.specs.Held.{TrueProgress}
use Rattle.kmip_runs.specs.Headline.{reported}
use Rattle.kmip_runs.specs.PrivateCampaignParts.{HasRunAll}
use Rattle.kmip_runs.specs.Remembering.{notes_of}
use Rattle.kmip_runs.specs.TurnedRuns.{AreTurnedFrom}
use Rattle.kmip_protocol.specs.Past.{is_planned}
use Rattle.kmip_runs.proofs.CampaignLemmas.{reported_reached}
use Rattle.kmip_runs.proofs.EndingLemmas.{all_joined}
use Rattle.kmip_runs.proofs.KnownLemmas.{grown_justified}
use Rattle.kmip_runs.proofs.campaigning.campaign.Goals as goal

pub returns : goal.returns
returns g c =
    let l = c.the_laws_below_hold.ensures in
    let keys = c.args.plan.now in
    let none : c.as_slice.result.now ≡ [] = c.as_slice.ensures.value ∙ c.new-carried.ensures.items in
    let all =
    subst (λ carried. HasRunAll keys carried c.args.runs.now (notes_of c.run_all.result)
    (c.run_all.result.fault ≡ None) (g.L.Link.seen c.args.link.now) (g.L.Link.seen c.run_all.new.link)) none
    c.run_all.ensures.all in
    let nothing = All-nil (TrueProgress (g.L.Link.seen c.args.link.now).past.objects keys) in
    let ends = c.run_all.result.runs.items in
    let saved = c.run_all.result.saved.items in
    record {
      well = λ good. record {
        safe =
            let ran = (all.well good nothing).campaigned in
            l.exchanges.safe keys (g.L.Link.seen c.run_all.new.link).past (reported keys ends saved) ran.good.sound
            (reported_reached l keys (g.L.Link.seen c.run_all.new.link).past ends saved c.a_plan_is_lawful.ensures
            ran.noted);
        machine =
            let on = (all.well good nothing).campaigned.on in (
              λ opening. on.mirrored (l.exchanges.opening keys (g.L.Link.seen c.args.link.now).past opening),
              on.mirrored,
            );
        no_conflict = (all.well good nothing).campaigned.noted.no_conflict;
        sound = (all.well good nothing).campaigned.good;
        justified = λ honest own.
            grown_justified l.exchanges.justified keys (g.L.Link.seen c.args.link.now).past
            (g.L.Link.seen c.run_all.new.link).past (all.known.takes_nothing_back honest)
            (all.well good nothing).campaigned.good.sound own;
        true_saved = (all.well good nothing).campaigned.noted.true_saved;
        onward = (all.well good nothing).campaigned.on;
        outlasts = (all.well good nothing).outlasts;
      };
      honest = all.stays_honest (is_planned keys);
      order = all.order;
      complete = all.complete;
      fewer = all.fewer;
      known = all.known;
      turned =
          subst
          (λ carried. AreTurnedFrom keys carried c.args.runs.now ends
          ((g.L.Link.seen c.args.link.now).honest (is_planned keys)) (c.run_all.result.fault ≡ None)
          (g.L.Link.seen c.args.link.now).past
          (g.L.Link.seen c.run_all.new.link).past) none c.run_all.ensures.turned;
      settles = λ calmly is. all.settles calmly nothing is;
      ended = λ honest. all_joined ends _ _ _ _ _ (c.run_all.ensures.ended honest);
      followed = c.run_all.ensures.followed;
    }

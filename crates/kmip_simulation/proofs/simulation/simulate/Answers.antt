-- Nothing has happened yet over the new link, so what the campaign makes of it is good.
use Rattle.std.proofs.Common.{◌≡◌, refl, subst, sym, ap, ◌∙◌}
use Rattle.kmip_protocol.specs.Sound.{Opening}
use Rattle.kmip_scripted.specs.Runs.{runs_of}
use Rattle.kmip_scripted.specs.Scenes.{past_in}
use Rattle.kmip_scripted.specs.Words.{next_words}
use Rattle.kmip_runs.specs.Campaign.{MayBatch}
use Rattle.kmip_simulation.specs.Simulating.{IsCarriedOut, first_scene, in_batches}
use Rattle.kmip_simulation.proofs.RoomLemmas.{has_room}
use Rattle.kmip_simulation.proofs.simulation.simulate.Goals as goal

pub returns-clause-simulated : goal.returns-clause-simulated
returns-clause-simulated c =
    let keys = c.args.plan.now in
    let words = c.args.script in
    let link = c.new_link-link.result in
    let first = c.new_link-link.ensures.first in
    let after = c.campaign_over-end.new.link in
    let end = c.campaign_over-end.result in
    let opening : Opening keys (past_in (first_scene words)) = subst (λ s. Opening keys (past_in s)) first
    (c.new_link-link.ensures.opening keys) in
    let batch = c.args.batch in
    let runs : c.as_slice-2.result.now ≡ in_batches batch (runs_of keys words) =
    c.as_slice-2.ensures.value ∙ c.in_ok-runs-2.ensures.runs
    ∙ ap (in_batches batch) (c.as_slice.ensures.value ∙ c.in_ok-runs.ensures.runs) in
    let carried : IsCarriedOut keys (in_batches batch (runs_of keys words)) end (first_scene words) after =
    subst (λ s. IsCarriedOut keys (in_batches batch (runs_of keys words)) end s after) first
    (subst (λ rs. IsCarriedOut keys rs end link after) runs c.campaign_over-end.ensures) in
    record {
      opening = opening;
      mirrored = carried.machine (c.the_laws_of_exchanges_hold.ensures.opening keys (past_in (first_scene words))
          opening);
      calm = λ none. record {
        calm_for = ap next_words none;
        sound = c.the_laws_of_exchanges_hold.ensures.begins keys (past_in (first_scene words)) opening;
        roomy = has_room keys (past_in (first_scene words)) c.a_plan_is_lawful.ensures refl refl;
      };
      carried = carried;
    }

pub campaign_over-end-requires : goal.campaign_over-end-requires
campaign_over-end-requires c = record {
  sound = c.the_laws_of_exchanges_hold.ensures.begins c.args.plan.now (past_in c.new_link-link.result)
      (c.new_link-link.ensures.opening c.args.plan.now);
  batches = subst MayBatch (sym c.as_slice-2.ensures.value) c.in_ok-runs-2.ensures.may;
}

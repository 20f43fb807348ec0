-- Nothing has happened yet over the new link, so what the campaign makes of it is good.
use Rattle.std.proofs.Common.{◌≡◌, ◌+◌, length, refl, rules, subst, sym, ap, ◌∙◌}
use Rattle.kmip_protocol.specs.Sound.{Opening}
use Rattle.kmip_scripted.specs.Following.{Follows}
use Rattle.kmip_scripted.specs.Runs.{crashing_runs_of}
use Rattle.kmip_scripted.specs.Scenes.{past_in, seen_in}
use Rattle.kmip_runs.specs.Crashes.{MakesCrashes}
use Rattle.kmip_runs.specs.Headline.{GoodLink}
use Rattle.kmip_simulation.specs.Simulating.{IsCrashOf, crashing_in_batches, first_scene}
use Rattle.kmip_simulation.proofs.CrashingLemmas.{crash_of}
use Rattle.kmip_simulation.proofs.simulation.simulate_with_crashes.Goals as goal

pub returns-clause-simulated : goal.returns-clause-simulated
returns-clause-simulated c =
    let keys = c.args.plan.now in
    let words = c.args.script in
    let batch = c.args.batch in
    let link = c.new_link-link.result in
    let first = c.new_link-link.ensures.first in
    let after = c.campaign_with_crashes-crashes.new.link in
    let crashes = c.campaign_with_crashes-crashes.result in
    let all = crashing_in_batches batch (crashing_runs_of keys words) in
    let opening : Opening keys (past_in (first_scene words)) = subst (λ s. Opening keys (past_in s)) first
    (c.new_link-link.ensures.opening keys) in
    let runs : c.as_slice-2.result.now ≡ all =
    c.as_slice-2.ensures.value ∙ c.in_ok-runs-2.ensures.runs
    ∙ ap (crashing_in_batches batch) (c.as_slice.ensures.value ∙ c.in_ok-runs.ensures.runs) in
    let made : MakesCrashes (seen_in (first_scene words)) keys all crashes (seen_in after)
    (Follows (first_scene words) after) =
    subst (λ s. MakesCrashes (seen_in s) keys all crashes (seen_in after) (Follows s after)) first
    (subst (λ rs. MakesCrashes (seen_in link) keys rs crashes (seen_in after) (Follows link after)) runs
    c.campaign_with_crashes-crashes.ensures) in
    let good : GoodLink keys (seen_in (first_scene words)) =
    record {
      amid_for = tt;
      sound = c.the_laws_of_exchanges_hold.ensures.begins keys (past_in (first_scene words))
          opening;
    } in
    record {
      opening = opening;
      mirrored = (made.well good).machine.0 opening;
      crashes = crashes;
      end_is = refl;
      allowed = c.if-crashes.false;
      well = made.well good;
      made = made;
    }

-- a crash of the run after those that have ends is refused
pub returns-then-crashes-clause-refused : goal.returns-then-crashes-clause-refused
returns-then-crashes-clause-refused c = λ number is.
    let keys = c.args.plan.now in
    let words = c.args.script in
    let batch = c.args.batch in
    let runs : c.as_slice-2.result.now ≡ crashing_in_batches batch (crashing_runs_of keys words) =
    c.as_slice-2.ensures.value ∙ c.in_ok-runs-2.ensures.runs
    ∙ ap (crashing_in_batches batch) (c.as_slice.ensures.value ∙ c.in_ok-runs.ensures.runs) in
    let first = c.new_link-link.ensures.first in
    let link = c.new_link-link.result in
    let after = c.campaign_with_crashes-crashes.new.link in
    let crashes = c.campaign_with_crashes-crashes.result in
    let all = crashing_in_batches batch (crashing_runs_of keys words) in
    let same : c.len.result + 1 ≡ number = cc in
    let count : c.len.result ≡ length crashes.campaign.runs.items = search rules in
    let made : MakesCrashes (seen_in (first_scene words)) keys all crashes (seen_in after)
    (Follows (first_scene words) after) =
    subst (λ s. MakesCrashes (seen_in s) keys all crashes (seen_in after) (Follows s after)) first
    (subst (λ rs. MakesCrashes (seen_in link) keys rs crashes (seen_in after) (Follows link after)) runs
    c.campaign_with_crashes-crashes.ensures) in
    record {
      is_crash = subst (λ n. IsCrashOf keys words n) same
          (crash_of batch keys words c.as_slice-2.result.now _ c.len.result runs count
          (c.campaign_with_crashes-crashes.ensures.refused c.if-crashes.true));
      crashes = crashes;
      link = after;
      refused = c.if-crashes.true;
      number_is = sym same ∙ ap (λ n. n + 1) count;
      made = made;
    }

-- All that is reported was reached, so what is sound for the last plan is safe.
use Rattle.std.proofs.Common.{[], flat_map, map}
use Rattle.std.proofs.lemmas.List.Elements.{All-append}
use Rattle.kmip_protocol.specs.Laws.{IsReached}
use Rattle.kmip_runs.specs.Headline.{reported, reported_by}
use Rattle.kmip_runs.specs.Campaigns.{last_plan, premises_of}
use Rattle.kmip_runs.specs.Remembering.{notes_of}
use Rattle.kmip_runs.proofs.EndingLemmas.{all_joined, join_if}
use Rattle.kmip_runs.proofs.GrownLemmas.{parts_grown}
use Rattle.kmip_runs.proofs.KnownLemmas.{grown_justified}
use Rattle.kmip_runs.proofs.PlanLemmas.{in_turn_if}
use Rattle.kmip_runs.proofs.RunLemmas.{of_ok, ok_of}
use Rattle.kmip_runs.proofs.prolonging.campaigns.Goals as goal

pub returns : goal.returns
returns g c =
    let r = c.the_laws_below_hold.ensures in
    let plans = c.args.plans.now in
    let keys = last_plan plans in
    let all = c.run_plans.ensures.ran in
    let end = c.run_plans.new.end in
    let old = (g.L.Link.seen c.args.link.now).past in
    let new = (g.L.Link.seen c.run_plans.new.link).past in
    record {
      well = λ begun. record {
        safe =
            let noted = (all.good begun).noted in
            r.exchanges.safe keys new (reported keys end.runs.items end.saved.items) (all.good begun).good.sound
            (All-append (IsReached keys new) (flat_map (λ ended. reported_by keys ended.counts.items) end.runs.items)
            (flat_map (λ progress. reported_by keys (map (λ known. known.done) progress)) end.saved.items)
            noted.ends_reached noted.saved_reached);
        machine =
            let went = (all.good begun).went in
            (λ opening. went.mirrored (r.exchanges.opening keys old opening), went.mirrored);
        no_conflict = (all.good begun).noted.no_conflict;
        sound = (all.good begun).good;
        justified = λ own.
            grown_justified r.exchanges.justified keys old new
            (parts_grown r (premises_of plans (g.L.Link.seen c.args.link.now)) _ begun.honest_for plans
            (map (λ list. list.items) c.args.runs.now) [] all.in_turn.parts old new c.requires.prolong
            c.run_plans.ensures.lawful all.in_turn.each) (all.good begun).good.sound own;
        honest = (all.good begun).honest;
        true_saved = (all.good begun).noted.true_saved;
        onward = (all.good begun).went;
      };
      in_turn = in_turn_if plans (map (λ list. list.items) c.args.runs.now) (notes_of end) _ _ _ old new
          (ok_of c.run_plans.result c.err-fault.result c.err-fault.ensures.value)
          (of_ok c.run_plans.result c.err-fault.result c.err-fault.ensures.value) all.in_turn;
      ended = λ honest.
          all_joined end.runs.items _ _ _ _ _
          (join_if [] end.runs.items _ _ _ _ _ _ (ok_of c.run_plans.result c.err-fault.result
          c.err-fault.ensures.value) (c.run_plans.ensures.ended honest));
      followed = λ is. c.run_plans.ensures.followed
          (ok_of c.run_plans.result c.err-fault.result c.err-fault.ensures.value is);
    }

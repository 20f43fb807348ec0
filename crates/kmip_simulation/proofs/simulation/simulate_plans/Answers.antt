-- Nothing of any plan has happened yet over the new link, so what is made of the plans in turn is good.
use Rattle.std.proofs.Common.{◌≡◌, List, Vec, Global, length, map, subst, sym, ap, ◌∙◌, arith}
use Rattle.std.proofs.lemmas.List.{length-map}
use Rattle.std.specs.List.{All}
use Rattle.std.specs.Prelude.{⊤, None}
use Rattle.kmip_protocol.specs.Sound.{Opening}
use Rattle.kmip_scripted.specs.Runs.{lists_of}
use Rattle.kmip_scripted.specs.Following.{Follows}
use Rattle.kmip_scripted.specs.Scenes.{Scene, past_in, seen_in}
use Rattle.kmip_runs.specs.Campaign.{MayBatch}
use Rattle.kmip_runs.specs.declared.run.Run.{Run}
use Rattle.kmip_runs.specs.Campaigns.{AreInTurn, CalmStart, GoodStart, first_plan, last_plan}
use Rattle.kmip_runs.specs.Remembering.{notes_of}
use Rattle.kmip_simulation.specs.Simulating.{in_batches}
use Rattle.kmip_runs.specs.Ending.{AreEnded}
use Rattle.kmip_simulation.proofs.PlansLemmas.{second_is}
use Rattle.kmip_simulation.proofs.simulation.simulate_plans.Goals as goal

pub returns-clause-simulated : goal.returns-clause-simulated
returns-clause-simulated c =
    let plans = c.args.plans.now in
    let words = c.args.script in
    let link = c.new_link-link.result in
    let first = c.new_link-link.ensures.first in
    let end = c.campaigns-end.result in
    let after = c.campaigns-end.new.link in
    let opening : (keys : _) → Opening keys (past_in link) = c.new_link-link.ensures.opening in
    let good : GoodStart plans (seen_in link) = record {
      honest_for = tt;
      sound = c.the_laws_of_exchanges_hold.ensures.begins (first_plan plans) (past_in link)
          (opening (first_plan plans));
      none_further = λ key planned none. (opening (last_plan plans)).no_object key planned;
    } in
    let second = second_is plans c.index-plans-1.result c.requires.two c.index-plans-1.is in
    let batch = c.args.batch in
    let lists = map (in_batches batch) (lists_of (last_plan plans) words) in
    let runs : map (λ list. list.items) c.as_slice-2.result.now ≡ lists =
    ap (map (λ list. list.items)) c.as_slice-2.ensures.value ∙ c.in_ok-lists-2.ensures.lists
    ∙ ap (λ ls. map (in_batches batch) (map (λ list. list.items) ls)) c.as_slice.ensures.value
    ∙ ap (map (in_batches batch)) (c.in_ok-lists.ensures.lists ∙ ap (λ keys. lists_of keys words) second) in
    record {
      safe = (c.campaigns-end.ensures.well good).safe;
      machine = (c.campaigns-end.ensures.well good).machine.0 (opening (last_plan plans));
      sound = (c.campaigns-end.ensures.well good).sound.sound;
      no_conflict = (c.campaigns-end.ensures.well good).no_conflict;
      true_saved = (c.campaigns-end.ensures.well good).true_saved;
      opening = λ keys. subst (λ s. Opening keys (past_in s)) first (opening keys);
      in_turn =
          subst
          (λ s. AreInTurn plans lists (notes_of end) (record { honest = ⊤; calm = CalmStart plans (seen_in s) })
          (end.fault ≡ None) (past_in s) (past_in after)) first
          (subst
          (λ rs. AreInTurn plans rs (notes_of end) (record { honest = ⊤; calm = CalmStart plans (seen_in link) })
          (end.fault ≡ None) (past_in link) (past_in after)) runs
          c.campaigns-end.ensures.in_turn);
      ended = subst (λ (s : Scene). AreEnded end.runs.items (length s.sent) s.ended after.ended) first
          (c.campaigns-end.ensures.ended tt);
      followed = λ is. subst (λ s. Follows s after) first (c.campaigns-end.ensures.followed is);
    }

pub campaigns-end-requires : goal.campaigns-end-requires
campaigns-end-requires c =
    let two : length c.in_ok-lists.lists.items ≡ 2 =
    sym (length-map c.in_ok-lists.lists.items (λ (list : Vec Run Global). list.items))
    ∙ ap length c.in_ok-lists.ensures.lists in
    let made : c.as_slice-2.result.now ≡ c.in_ok-lists-2.lists.items = c.as_slice-2.ensures.value in
    record {
      some = omega (arith, c.requires.two);
      as_many = ap length made ∙ c.in_ok-lists-2.ensures.as_many ∙ ap length c.as_slice.ensures.value ∙ two
          ∙ sym c.requires.two;
      prolong = c.requires.prolong;
      batches = subst (All (λ (list : Vec Run Global). MayBatch list.items)) (sym {A = List (Vec Run Global)} made)
          c.in_ok-lists-2.ensures.may;
    }

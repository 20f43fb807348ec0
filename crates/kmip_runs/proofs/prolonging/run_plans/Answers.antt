-- Plan by plan.
use Rattle.std.proofs.Common.{◌≡◌, ◌<◌, ◌+◌, ◌-◌, [], Some, Ok, length, map, suc, slice_get, option_map, refl, ap}
use Rattle.std.proofs.Common.{rules, subst, sym, ◌∙◌, inl, inr, arith}
use Rattle.std.specs.Prelude.{⊤}
use Rattle.std.specs.List.{All}
use Rattle.std.proofs.lemmas.List.{length-map}
use Rattle.std.proofs.lemmas.Option.{slice_get_read}
use Rattle.kmip_plan.specs.Plans.{IsLawful}
use Rattle.kmip_progress.specs.Suiting.{Suits}
use Rattle.kmip_protocol.specs.Past.{is_planned}
use Rattle.kmip_runs.specs.Campaigns.{last_plan}
use Rattle.kmip_runs.specs.PrivateCampaignsParts.{HasRunBroken, HasRunWhole}
use Rattle.kmip_runs.proofs.EndingLemmas.{join_if, join_none, join_then}
use Rattle.kmip_runs.proofs.PartLemmas.{first_is, last_is, last_prolongs}
use Rattle.kmip_runs.proofs.PlanLemmas.{Turning, if_next, list_at, lookup_is, plans_all, plans_left, run_broken}
use Rattle.kmip_runs.proofs.PlanLemmas.{turning_more, turning_none}
use Rattle.kmip_runs.proofs.RememberLemmas.{no_ok}
use Rattle.kmip_runs.proofs.prolonging.run_plans.Goals as goal

pub loop-place-init : goal.loop-place-init
loop-place-init g c =
    let plans = c.args.plans.now in
    let first = slice_get_read plans (length plans) 0 c.index-plans-0.result refl (omega (arith, c.requires.some))
    c.index-plans-0.is in
    let most = slice_get_read plans (length plans) (length plans - 1) c.index-plans-plans.result refl
    (omega (arith, c.requires.some)) c.index-plans-plans.is in
    let first_plan_is = first_is plans c.index-plans-0.result first in
    record {
      turning =
          turning_none plans (map (λ list. list.items) c.args.runs.now) c.the_laws_below_hold.ensures
          c.the_laws_below_hold.ensures
          (g.L.Link.seen c.args.link.now) c.args.end.now (last_plan plans) c.new-carried.result.items
          c.requires.no_end c.requires.none_saved c.new-carried.ensures.items c.requires.prolong
          (subst (λ ks. IsLawful ks) (sym (last_is plans (length plans - 1) c.index-plans-plans.result
          (omega (arith, c.requires.some)) most)) c.a_plan_is_lawful-2.ensures)
          (subst (λ ks. IsLawful ks) (sym first_plan_is) c.a_plan_is_lawful.ensures)
          (subst (λ ks. slice_get plans 0 ≡ Some ks) (sym first_plan_is) first);
      ended = λ honest. join_none [] c.args.end.now.runs.items ⊤ _ _ _ _ c.requires.no_end refl (λ is. refl);
      followed = g.met.L.Link.itself c.args.link.now;
    }

pub run_part-requires-clause-carried : goal.run_part-requires-clause-carried
run_part-requires-clause-carried g c =
    let plans = c.args.plans.now in
    let below : c.loop-place.place < length plans = search rules in
    let at = slice_get_read plans (length plans) c.loop-place.place c.index-plans-place.result refl below
    c.index-plans-place.is in
    subst (λ saved. All (Suits c.index-plans-place.result) saved) (sym c.as_slice.ensures.value)
    (c.loop-place.invariant.turning.carried_are c.index-plans-place.result at).1

pub run_part-requires-clause-prolongs : goal.run_part-requires-clause-prolongs
run_part-requires-clause-prolongs g c =
    let plans = c.args.plans.now in
    let below : c.loop-place.place < length plans = search rules in
    let at = slice_get_read plans (length plans) c.loop-place.place c.index-plans-place.result refl below
    c.index-plans-place.is in
    let further : c.loop-place.place + 1 ≡ suc c.loop-place.place = omega arith in
    let found = lookup_is (λ next. next.now) plans (c.loop-place.place + 1) c.get-next.result
    c.get-next.ensures.lookup.0 c.get-next.ensures.lookup.1 in
    let then : option_map (λ next. next.now) c.get-next.result ≡ slice_get plans (suc c.loop-place.place) = found
    ∙ ap (λ n. slice_get plans n) further in
    if_next (λ next. next.now) plans c.loop-place.place c.index-plans-place.result c.get-next.result
    c.requires.prolong at then

pub returns-in_err-carried : goal.returns-in_err-carried
returns-in_err-carried g c =
    let plans = c.args.plans.now in
    let runs = map (λ list. list.items) c.args.runs.now in
    let place = c.loop-place.place in
    let below : place < length plans = search rules in
    let within : place < length c.args.runs.now = omega (arith, below, c.requires.as_many) in
    let at = slice_get_read plans (length plans) place c.index-plans-place.result refl below c.index-plans-place.is in
    let list = slice_get_read c.args.runs.now (length c.args.runs.now) place c.index-runs-place.result refl within
    c.index-runs-place.is in
    let so = list_at (λ list. list.items) c.args.runs.now place c.index-runs-place.result c.as_slice-list.result.now
    list c.as_slice-list.ensures.value in
    let most = slice_get_read plans (length plans) (length plans - 1) c.index-plans-plans.result refl
    (omega (arith, c.requires.some)) c.index-plans-plans.is in
    let lawful = subst (λ ks. IsLawful ks) (sym
    (last_is plans (length plans - 1) c.index-plans-plans.result (omega (arith, c.requires.some)) most))
    c.a_plan_is_lawful-2.ensures in
    let none : c.from_residual.result ≡ Ok tt → ⊥ = λ is.
    no_ok c.from_residual.result tt c.from_residual.ensures.0 is in
    let further : place + 1 ≡ suc place = omega arith in
    let found = lookup_is (λ next. next.now) plans (place + 1) c.get-next.result c.get-next.ensures.lookup.0
    c.get-next.ensures.lookup.1 in
    let next_is = found ∙ ap (λ n. slice_get plans n) further in
    let r = c.the_laws_below_hold.ensures in
    let l = c.the_laws_below_hold.ensures in
    let start = g.L.Link.seen c.args.link.now in
    let now = g.L.Link.seen c.run_part.new.link in
    let keys = c.index-plans-place.result in
    let before = c.loop-place.invariant.turning in
    record {
      ran =
          elim c.in_err-carried.ensures.broken [
            | inl left ↦
                plans_left plans runs r l c.requires.prolong lawful start now place keys c.loop-place.end
                c.run_part.new.end c.loop-place.carried.items _ none at
                (subst (λ link. Turning plans runs start (g.L.Link.seen link) place c.loop-place.end
                c.loop-place.carried.items) (sym left.1) before) left.0
            | inr broken ↦
                let is = subst (λ saved. HasRunBroken keys (option_map (λ next. next.now) c.get-next.result) saved
                c.as_slice-list.result.now (g.L.Link.seen c.loop-place.link) now
                c.loop-place.end c.run_part.new.end) c.as_slice.ensures.value broken in
                run_broken plans runs r l c.requires.prolong lawful start (g.L.Link.seen c.loop-place.link) now place
                keys
                (option_map (λ next. next.now) c.get-next.result) c.as_slice-list.result.now c.loop-place.end
                c.run_part.new.end c.loop-place.carried.items _ none
                c.a_plan_is_lawful-in-loop-place.ensures at so next_is before is
          ];
      ended = λ far.
          let among = l.exchanges.names_of_prolonged (last_plan plans) keys lawful
          (last_prolongs l plans place keys c.requires.prolong at) in
          let near = ((g.L.Link.seen c.loop-place.link).fewer (is_planned (last_plan plans)) (is_planned keys) among).0
          (before.honest_still (is_planned (last_plan plans)) far) in
          join_then [] c.loop-place.end.runs.items c.run_part.new.end.runs.items ⊤ _ _ _ _ _ _ _ tt
          (c.loop-place.invariant.ended far)
          (join_if c.loop-place.end.runs.items c.run_part.new.end.runs.items _ _ _ _ _ _ (λ is. absurd (none is))
          (c.run_part.ensures.ended near));
      lawful = lawful;
      followed = λ is. absurd (none is);
    }

pub loop-place-preserved : goal.loop-place-preserved
loop-place-preserved g c =
    let plans = c.args.plans.now in
    let runs = map (λ list. list.items) c.args.runs.now in
    let place = c.loop-place.place in
    let below : place < length plans = search rules in
    let within : place < length c.args.runs.now = omega (arith, below, c.requires.as_many) in
    let at = slice_get_read plans (length plans) place c.index-plans-place.result refl below c.index-plans-place.is in
    let list = slice_get_read c.args.runs.now (length c.args.runs.now) place c.index-runs-place.result refl within
    c.index-runs-place.is in
    let so = list_at (λ list. list.items) c.args.runs.now place c.index-runs-place.result c.as_slice-list.result.now
    list c.as_slice-list.ensures.value in
    let most = slice_get_read plans (length plans) (length plans - 1) c.index-plans-plans.result refl
    (omega (arith, c.requires.some)) c.index-plans-plans.is in
    let lawful = subst (λ ks. IsLawful ks) (sym
    (last_is plans (length plans - 1) c.index-plans-plans.result (omega (arith, c.requires.some)) most))
    c.a_plan_is_lawful-2.ensures in
    let further : place + 1 ≡ suc place = omega arith in
    let found = lookup_is (λ next. next.now) plans (place + 1) c.get-next.result c.get-next.ensures.lookup.0
    c.get-next.ensures.lookup.1 in
    let among = c.the_laws_below_hold.ensures.exchanges.names_of_prolonged (last_plan plans)
    c.index-plans-place.result lawful (last_prolongs c.the_laws_below_hold.ensures plans place
    c.index-plans-place.result c.requires.prolong at) in
    record {
      turning =
          subst (λ n. Turning plans runs (g.L.Link.seen c.args.link.now) (g.L.Link.seen c.run_part.new.link) n
          c.run_part.new.end c.in_ok-carried.carried.items) (sym further)
          (turning_more plans runs c.the_laws_below_hold.ensures c.the_laws_below_hold.ensures c.requires.prolong
          lawful (g.L.Link.seen c.args.link.now) (g.L.Link.seen c.loop-place.link)
          (g.L.Link.seen c.run_part.new.link) place c.index-plans-place.result _ c.as_slice-list.result.now
          c.loop-place.end
          c.run_part.new.end c.loop-place.carried.items c.in_ok-carried.carried.items
          c.a_plan_is_lawful-in-loop-place.ensures at so
          (found ∙ ap (λ n. slice_get plans n) further) c.the_laws_below_hold.ensures.plan.no_shorter
          c.loop-place.invariant.turning
          (subst (λ saved. HasRunWhole c.index-plans-place.result (option_map (λ next. next.now) c.get-next.result)
          saved c.as_slice-list.result.now
          (record { link = g.L.Link.seen c.loop-place.link; end = c.loop-place.end })
          (record { link = g.L.Link.seen c.run_part.new.link; end = c.run_part.new.end })
          c.in_ok-carried.carried.items) c.as_slice.ensures.value c.in_ok-carried.ensures.ran));
      ended = λ far.
          let near = ((g.L.Link.seen c.loop-place.link).fewer (is_planned (last_plan plans))
          (is_planned c.index-plans-place.result) among).0
          (c.loop-place.invariant.turning.honest_still (is_planned (last_plan plans)) far) in
          join_then [] c.loop-place.end.runs.items c.run_part.new.end.runs.items ⊤ ⊤ _ _ _ _ _ _ tt
          (c.loop-place.invariant.ended far)
          (join_if c.loop-place.end.runs.items c.run_part.new.end.runs.items _ ⊤ _ _ _ _ (λ is. search rules)
          (c.run_part.ensures.ended near));
      followed = g.met.L.Link.twice c.args.link.now c.loop-place.link c.run_part.new.link
          c.loop-place.invariant.followed c.in_ok-carried.ensures.followed;
    }

pub returns : goal.returns
returns g c =
    let plans = c.args.plans.now in
    let runs = map (λ list. list.items) c.args.runs.now in
    let most = slice_get_read plans (length plans) (length plans - 1) c.index-plans-plans.result refl
    (omega (arith, c.requires.some)) c.index-plans-plans.is in
    let lawful = subst (λ ks. IsLawful ks) (sym
    (last_is plans (length plans - 1) c.index-plans-plans.result (omega (arith, c.requires.some)) most))
    c.a_plan_is_lawful-2.ensures in
    let all : c.loop-place.place ≡ length plans = omega (arith, c.loop-place-test.false, c.loop-place.auto.place-end) in
    record {
      ran =
          plans_all plans runs c.the_laws_below_hold.ensures c.the_laws_below_hold.ensures c.requires.prolong lawful
          (g.L.Link.seen c.args.link.now) (g.L.Link.seen c.loop-place.link) c.loop-place.place c.loop-place.end
          c.loop-place.carried.items _ (search rules) all
          (length-map c.args.runs.now (λ list. list.items) ∙ c.requires.as_many) c.loop-place.invariant.turning;
      ended = λ far. join_if [] c.loop-place.end.runs.items ⊤ _ _ _ _ _ (λ is. tt) (c.loop-place.invariant.ended far);
      lawful = lawful;
      followed = λ is. c.loop-place.invariant.followed;
    }

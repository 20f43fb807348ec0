-- Exchange by exchange.
use Rattle.std.proofs.Common.{◌+◌, ◌<◌, ◌≡◌, ◌∙◌, Ok, ap, length, sym, subst, refl, rules, arith}
use Rattle.kmip_protocol.specs.Past.{is_planned}
use Rattle.kmip_runs.specs.Losing.{left_for}
use Rattle.kmip_runs.specs.Saved.{HasMemory}
use Rattle.kmip_runs.specs.Turning.{IsTurned, stop_in}
use Rattle.kmip_runs.specs.declared.stop.Stop.TheVariants as stops
use Rattle.kmip_runs.proofs.CarryLemmas.{carried_itself, carried_more, carried_stop, carried_then, carried_unbegun}
use Rattle.kmip_runs.proofs.RefusalLemmas.{rises_from}
use Rattle.kmip_runs.proofs.CarryLosingLemmas.{limit_in_memory, paid_none}
use Rattle.kmip_runs.proofs.PatienceLemmas.{still_patient}
use Rattle.kmip_runs.proofs.TurnedLemmas.{turned_not_yet, turned_so, turned_then}
use Rattle.kmip_runs.proofs.carrying.exchange_in_turn.Goals as goal
use Rattle.kmip_runs.proofs.carrying.exchange_in_turn.Goals.{else-made-limit-via-then-made-limit+else-not-go_on}
use Rattle.kmip_runs.proofs.carrying.exchange_in_turn.Goals.{else-made-limit-via-else-made-limit}

pub loop-made-init : goal.loop-made-init
loop-made-init g c = record {
  carried =
      carried_itself c.the_laws_below_hold.ensures
      (record {
        client = c.args.client.now;
        link = g.L.Link.seen c.args.link.now;
        keeper = g.K.Keeper.kept
            c.args.keeper.now;
      });
  text = search rules;
  as_many = search rules;
  patient = refl;
  asked = omega arith;
  turned = turned_not_yet _ c.args.client.now (g.L.Link.seen c.args.link.now).past;
  counted = omega arith;
  ended = λ honest. refl;
  followed = g.met.L.Link.itself c.args.link.now;
  paid = λ good honest. paid_none (left_for c.args.client.now (g.L.Link.seen c.args.link.now).past)
      (g.L.Link.seen c.args.link.now).disturbances;
}

pub returns-then-not-is_at_limit-clause-made : goal.returns-then-not-is_at_limit-clause-made
returns-then-not-is_at_limit-clause-made g c =
    let step = c.exchange_once-carried in
    let before = c.loop-made.invariant in
    let made = step.ensures.made.exchanges in
    record {
      exchanges = record {
        carried =
            carried_then c.the_laws_below_hold.ensures
            (record {
              client = c.args.client.now;
              link = g.L.Link.seen c.args.link.now;
              keeper = g.K.Keeper.kept
                  c.args.keeper.now;
            })
            (record {
              client = c.loop-made.client;
              link = g.L.Link.seen c.loop-made.link;
              keeper = g.K.Keeper.kept
                  c.loop-made.keeper;
            })
            (record {
              client = step.new.client;
              link = g.L.Link.seen step.new.link;
              keeper = g.K.Keeper.kept
                  step.new.keeper;
            })
            step.result.0 c.loop-made.made step.result.1 c.a_client_has_a_lawful_plan.ensures before.carried
            made.carried;
        turned =
            turned_then _ _ stops.Limit _ c.loop-made.made step.result.1 c.args.client.now c.loop-made.client
            step.new.client (g.L.Link.seen c.args.link.now).past (g.L.Link.seen c.loop-made.link).past
            (g.L.Link.seen step.new.link).past (λ is. absurd cc) before.carried.went.keeps.keys_stay
            (λ honest. subst (λ ks. (g.L.Link.seen c.loop-made.link).honest (is_planned ks))
            (sym before.carried.went.keeps.keys_stay) (before.carried.went.learns honest).0) before.turned
            made.turned;
        counted = search rules;
        output = λ is. rises_from _ _ _ before.counted (made.output is);
        stops_for_its_reason = search rules;
        losing = λ good honest memory.
            let first = before.paid good honest in
            let second = made.losing (before.carried.went.good good)
            (subst (λ ks. (g.L.Link.seen c.loop-made.link).honest (is_planned ks))
            (sym before.carried.went.keeps.keys_stay) (before.carried.went.learns honest).0) memory in
            omega (arith, first, second);
      };
      limit = search rules;
      given_up = search rules;
      within = search rules;
      asked =
          let told = c.tell.ensures.unasked in
          let one = step.ensures.made.within in
          let below : c.loop-made.made < c.args.limit = search rules in
          omega (arith, told, one, below, before.asked);
      ended = λ honest.
          step.ensures.made.ended (is_planned c.args.client.now.keys) (before.carried.went.learns honest).0
          ∙ before.ended honest;
    }

pub loop-made-preserved : goal.loop-made-preserved
loop-made-preserved g c =
    let step = c.exchange_once-carried in
    let made = step.ensures.made.exchanges in
    let tired = g.P.Patience.has_given_up in
    let limit : step.result.0 ≡ Ok stops.Limit = search rules in
    record {
      carried =
          carried_more c.the_laws_below_hold.ensures
          (record {
            client = c.args.client.now;
            link = g.L.Link.seen c.args.link.now;
            keeper = g.K.Keeper.kept
                c.args.keeper.now;
          })
          (record {
            client = c.loop-made.client;
            link = g.L.Link.seen c.loop-made.link;
            keeper = g.K.Keeper.kept
                c.loop-made.keeper;
          })
          (record {
            client = step.new.client;
            link = g.L.Link.seen step.new.link;
            keeper = g.K.Keeper.kept
                step.new.keeper;
          })
          step.result.0 c.loop-made.made step.result.1 c.a_client_has_a_lawful_plan.ensures
          c.loop-made.invariant.carried made.carried limit (step.ensures.made.limit limit);
      text = step.ensures.text limit;
      as_many = c.tell.ensures.as_many ∙ c.loop-made.invariant.as_many
          ∙ ap length (sym made.carried.went.keeps.keys_stay);
      patient =
          elim c.else-made-limit.branch [
            | else-made-limit-via-then-made-limit+else-not-go_on w ↦
                let still = still_patient (tired c.tell.new.patience) (tired w.go_on.new.self) w.go_on.result
                w.if-not-go_on.false w.go_on.ensures.says w.go_on.ensures.for_good in
                ap tired w.patience-is ∙ still ∙ c.tell.ensures.stays ∙ c.loop-made.invariant.patient
            | else-made-limit-via-else-made-limit w ↦ ap tired w.patience-is ∙ c.tell.ensures.stays
                ∙ c.loop-made.invariant.patient
          ];
      asked =
          let told = c.tell.ensures.unasked in
          let below : c.loop-made.made < c.args.limit = search rules in
          elim c.else-made-limit.branch [
            | else-made-limit-via-then-made-limit+else-not-go_on w ↦
                let same = ap (g.P.Patience.asked) w.patience-is in
                omega (arith, same, told, below, c.loop-made.invariant.asked, w.go_on.ensures.asked)
            | else-made-limit-via-else-made-limit w ↦
                let same = ap (g.P.Patience.asked) w.patience-is in
                let last = w.if-made-limit.false in
                omega (arith, same, told, below, last, c.loop-made.invariant.asked)
          ];
      turned =
          subst (λ r. IsTurned ((g.L.Link.seen c.args.link.now).honest (is_planned c.args.client.now.keys))
          (stop_in r) (c.loop-made.made + 1) c.args.client.now step.new.client
          (g.L.Link.seen c.args.link.now).past (g.L.Link.seen step.new.link).past) limit
          (subst (λ n. IsTurned ((g.L.Link.seen c.args.link.now).honest (is_planned c.args.client.now.keys))
          (stop_in step.result.0) (c.loop-made.made + n) c.args.client.now step.new.client
          (g.L.Link.seen c.args.link.now).past (g.L.Link.seen step.new.link).past) (step.ensures.made.limit limit)
          (turned_then _ _ stops.Limit _ c.loop-made.made step.result.1 c.args.client.now c.loop-made.client
          step.new.client (g.L.Link.seen c.args.link.now).past (g.L.Link.seen c.loop-made.link).past
          (g.L.Link.seen step.new.link).past (λ is. absurd cc) c.loop-made.invariant.carried.went.keeps.keys_stay
          (λ honest. subst (λ ks. (g.L.Link.seen c.loop-made.link).honest (is_planned ks))
          (sym c.loop-made.invariant.carried.went.keeps.keys_stay)
          (c.loop-made.invariant.carried.went.learns honest).0) c.loop-made.invariant.turned made.turned));
      counted = omega (arith, c.loop-made.invariant.counted, made.counted);
      ended = λ honest.
          let still = (c.loop-made.invariant.carried.went.learns honest).0 in
          step.ensures.made.ended (is_planned c.args.client.now.keys) still ∙ c.loop-made.invariant.ended honest;
      followed =
          g.met.L.Link.twice c.args.link.now c.loop-made.link step.new.link c.loop-made.invariant.followed
          (step.ensures.followed (subst HasMemory (sym limit) (λ is. absurd cc, λ is. absurd cc)));
      paid = λ good honest.
          let first = c.loop-made.invariant.paid good honest in
          let second = made.losing (c.loop-made.invariant.carried.went.good good)
          (subst (λ ks. (g.L.Link.seen c.loop-made.link).honest (is_planned ks))
          (sym c.loop-made.invariant.carried.went.keeps.keys_stay)
          (c.loop-made.invariant.carried.went.learns honest).0) (limit_in_memory step.result.0 limit) in
          let one = step.ensures.made.limit limit in
          omega (arith, first, second, one);
    }

pub returns-in_default-clause-made : goal.returns-in_default-clause-made
returns-in_default-clause-made g c = record {
  exchanges = record {
    carried = carried_unbegun c.the_laws_below_hold.ensures
        (record {
          client = c.args.client.now;
          link = g.L.Link.seen c.args.link.now;
          keeper = g.K.Keeper.kept
              c.args.keeper.now;
        });
    turned = turned_so _ stops.Limit stops.NoMemory 0 c.args.client.now c.args.client.now
        (g.L.Link.seen c.args.link.now).past (g.L.Link.seen c.args.link.now).past (λ is. absurd cc)
        (turned_not_yet _ c.args.client.now (g.L.Link.seen c.args.link.now).past);
    counted = search rules;
    output = search rules;
    stops_for_its_reason = search rules;
    losing = search rules;
  };
  limit = search rules;
  given_up = search rules;
  within = search rules;
  asked = omega arith;
  ended = search rules;
}

pub returns-then-not-go_on-clause-made : goal.returns-then-not-go_on-clause-made
returns-then-not-go_on-clause-made g c =
    let step = c.exchange_once-carried in
    let made = step.ensures.made.exchanges in
    let limit : step.result.0 ≡ Ok stops.Limit = search rules in
    record {
      exchanges = record {
        carried =
            carried_more c.the_laws_below_hold.ensures
            (record {
              client = c.args.client.now;
              link = g.L.Link.seen c.args.link.now;
              keeper = g.K.Keeper.kept
                  c.args.keeper.now;
            })
            (record {
              client = c.loop-made.client;
              link = g.L.Link.seen c.loop-made.link;
              keeper = g.K.Keeper.kept
                  c.loop-made.keeper;
            })
            (record {
              client = step.new.client;
              link = g.L.Link.seen step.new.link;
              keeper = g.K.Keeper.kept
                  step.new.keeper;
            })
            step.result.0 c.loop-made.made step.result.1 c.a_client_has_a_lawful_plan.ensures
            c.loop-made.invariant.carried made.carried limit (step.ensures.made.limit limit);
        turned =
            subst (λ r. IsTurned ((g.L.Link.seen c.args.link.now).honest (is_planned c.args.client.now.keys))
            (stop_in r) (c.loop-made.made + 1) c.args.client.now step.new.client
            (g.L.Link.seen c.args.link.now).past (g.L.Link.seen step.new.link).past) limit
            (subst (λ n. IsTurned ((g.L.Link.seen c.args.link.now).honest (is_planned c.args.client.now.keys))
            (stop_in step.result.0) (c.loop-made.made + n) c.args.client.now step.new.client
            (g.L.Link.seen c.args.link.now).past (g.L.Link.seen step.new.link).past) (step.ensures.made.limit limit)
            (turned_then _ _ stops.Limit _ c.loop-made.made step.result.1 c.args.client.now c.loop-made.client
            step.new.client (g.L.Link.seen c.args.link.now).past (g.L.Link.seen c.loop-made.link).past
            (g.L.Link.seen step.new.link).past (λ is. absurd cc) c.loop-made.invariant.carried.went.keeps.keys_stay
            (λ honest. subst (λ ks. (g.L.Link.seen c.loop-made.link).honest (is_planned ks))
            (sym c.loop-made.invariant.carried.went.keeps.keys_stay)
            (c.loop-made.invariant.carried.went.learns honest).0) c.loop-made.invariant.turned made.turned));
        counted = search rules;
        output = search rules;
        stops_for_its_reason = search rules;
        losing = λ good honest memory.
            let first = c.loop-made.invariant.paid good honest in
            let second = made.losing (c.loop-made.invariant.carried.went.good good)
            (subst (λ ks. (g.L.Link.seen c.loop-made.link).honest (is_planned ks))
            (sym c.loop-made.invariant.carried.went.keeps.keys_stay)
            (c.loop-made.invariant.carried.went.learns honest).0) (limit_in_memory step.result.0 limit) in
            let one = step.ensures.made.limit limit in
            omega (arith, first, second, one);
      };
      limit = search rules;
      given_up = search rules;
      within = search rules;
      asked =
          let told = c.tell.ensures.unasked in
          let below : c.loop-made.made < c.args.limit = search rules in
          omega (arith, told, below, c.loop-made.invariant.asked, c.go_on.ensures.asked);
      ended = λ honest.
          step.ensures.made.ended (is_planned c.args.client.now.keys)
          (c.loop-made.invariant.carried.went.learns honest).0 ∙ c.loop-made.invariant.ended honest;
    }

pub returns-clause-made : goal.returns-clause-made
returns-clause-made g c =
    let made : c.loop-made.made ≡ c.args.limit = omega (arith, c.loop-made-test.false, c.loop-made.auto.made-end) in
    record {
      exchanges = record {
        carried =
            carried_stop c.the_laws_below_hold.ensures
            (record {
              client = c.args.client.now;
              link = g.L.Link.seen c.args.link.now;
              keeper = g.K.Keeper.kept
                  c.args.keeper.now;
            })
            (record {
              client = c.loop-made.client;
              link = g.L.Link.seen c.loop-made.link;
              keeper = g.K.Keeper.kept
                  c.loop-made.keeper;
            })
            c.stop_of.result c.loop-made.made c.args.limit c.a_client_has_a_lawful_plan.ensures
            c.stop_of.ensures.in_memory made c.loop-made.invariant.carried;
        turned =
            subst (λ n. IsTurned ((g.L.Link.seen c.args.link.now).honest (is_planned c.args.client.now.keys))
            c.stop_of.result n c.args.client.now c.loop-made.client (g.L.Link.seen c.args.link.now).past
            (g.L.Link.seen c.loop-made.link).past) made
            (turned_so _ stops.Limit c.stop_of.result c.loop-made.made c.args.client.now c.loop-made.client
            (g.L.Link.seen c.args.link.now).past (g.L.Link.seen c.loop-made.link).past (λ is. absurd cc)
            c.loop-made.invariant.turned);
        counted = search rules;
        output = search rules;
        stops_for_its_reason = search rules;
        losing = λ good honest memory.
            let paid = c.loop-made.invariant.paid good honest in
            omega (arith, made, paid);
      };
      limit = search rules;
      given_up = search rules;
      within = search rules;
      asked = omega (arith, made, c.loop-made.invariant.asked);
      ended = search rules;
    }

pub returns-then-not-is_at_limit-clause-followed : goal.returns-then-not-is_at_limit-clause-followed
returns-then-not-is_at_limit-clause-followed g c = λ memory.
    let step = c.exchange_once-carried in
    g.met.L.Link.twice c.args.link.now c.loop-made.link step.new.link c.loop-made.invariant.followed
    (step.ensures.followed memory)

pub returns-then-not-go_on-clause-followed : goal.returns-then-not-go_on-clause-followed
returns-then-not-go_on-clause-followed g c = λ memory.
    let step = c.exchange_once-carried in
    let limit : step.result.0 ≡ Ok stops.Limit = search rules in
    g.met.L.Link.twice c.args.link.now c.loop-made.link step.new.link c.loop-made.invariant.followed
    (step.ensures.followed (subst HasMemory (sym limit) (λ is. absurd cc, λ is. absurd cc)))

pub returns-clause-followed : goal.returns-clause-followed
returns-clause-followed g c = λ memory. c.loop-made.invariant.followed

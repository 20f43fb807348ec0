-- One exchange, saved or not.
use Rattle.std.proofs.Common.{Ok, Err, subst, sym, rules}
use Rattle.kmip_runs.specs.PrivateTurns.{turn_count}
use Rattle.kmip_protocol.specs.Past.{is_planned}
use Rattle.kmip_runs.specs.Private.{TakesTurn}
use Rattle.kmip_runs.specs.PrivateCarried.{Went}
use Rattle.kmip_runs.specs.declared.stop.Stop.TheVariants as stops
use Rattle.kmip_runs.proofs.CarryLemmas.{broke, carried_broken, carried_none, carried_not, carried_one, took}
use Rattle.kmip_runs.proofs.TurnedLemmas.{one_broken, one_rest, one_turn}
use Rattle.kmip_runs.proofs.WentLemmas.{stop_is}
use Rattle.kmip_runs.proofs.carrying.exchange_once.Goals as goal

pub returns-in-Ok-None-clause-made : goal.returns-in-Ok-None-clause-made
returns-in-Ok-None-clause-made g c =
    let e = c.in-Ok-None.ensures in
    let client = c.args.client.now in
    let next = c.turn.new.client in
    let x = g.L.Link.seen c.args.link.now in
    let y = g.L.Link.seen c.turn.new.link in
    let i = g.K.Keeper.kept c.args.keeper.now in
    let stop = c.stop_of.result in
    record {
      exchanges = record {
        carried =
            carried_none (record { client = client; link = x; keeper = i }) next y stop
            (subst (λ asked. Went (record { client = client; link = x; keeper = i })
            (record { client = next; link = y; keeper = i }) (Ok stop) (turn_count asked)) c.in-Ok-None.field-0-is
            (took (record { client = client; link = x; keeper = i }) (record { client = next; link = y; keeper = i })
            (Ok stop) c.in-Ok-None.field-0 _
            (λ is. c.stop_of.ensures.in_memory (stop_is stop stops.NoMemory is)) e));
        turned = one_rest _ stop client next x.past y.past c.stop_of.ensures.in_memory
            (subst (λ asked. TakesTurn (x.honest (is_planned client.keys)) asked client next x.past y.past)
            c.in-Ok-None.field-0-is e.turned);
        counted = search rules;
        output = search rules;
        stops_for_its_reason = search rules;
        losing = search rules;
      };
      limit = search rules;
      within = search rules;
      ended = search rules;
    }

pub returns-in-Err-clause-made : goal.returns-in-Err-clause-made
returns-in-Err-clause-made g c =
    let e = c.in-Err.ensures in
    let client = c.args.client.now in
    let next = c.turn.new.client in
    let x = g.L.Link.seen c.args.link.now in
    let y = g.L.Link.seen c.turn.new.link in
    let i = g.K.Keeper.kept c.args.keeper.now in
    let fault = c.in-Err.fault in
    record {
      exchanges = record {
        carried =
            carried_broken (record { client = client; link = x; keeper = i }) next y fault _ (search rules)
            (broke (record { client = client; link = x; keeper = i }) (record { client = next; link = y; keeper = i })
            fault _ e);
        turned = one_broken _ _ client next x.past y.past fault (search rules) e.gives_up;
        counted = search rules;
        output = search rules;
        stops_for_its_reason = search rules;
        losing = search rules;
      };
      limit = search rules;
      within = search rules;
      ended = search rules;
    }

pub save_progress-requires : goal.save_progress-requires
save_progress-requires g c =
    let keeps = c.in-Ok-Some.ensures.tries.keeps in
    record { before = c.args.client.now; was = c.requires; same_keys = sym keeps.keys_stay; kept = keeps.kept }

pub returns-in-Ok-clause-made : goal.returns-in-Ok-clause-made
returns-in-Ok-clause-made g c =
    let e = c.in-Ok-Some.ensures in
    let client = c.args.client.now in
    let next = c.turn.new.client in
    let x = g.L.Link.seen c.args.link.now in
    let y = g.L.Link.seen c.turn.new.link in
    let i = g.K.Keeper.kept c.args.keeper.now in
    let j = g.K.Keeper.kept c.save_progress.new.keeper in
    let stop = c.stop_of-in-Ok.result in
    record {
      exchanges = record {
        carried =
            carried_one c.the_laws_below_hold.ensures (record { client = client; link = x; keeper = i })
            (record { client = next; link = y; keeper = j }) stop tt c.stop_of-in-Ok.ensures.in_memory
            (λ remembers. let so = c.in-Ok.ensures.remembered remembers in (so.0, so.1))
            c.in-Ok.ensures.whole
            (subst (λ asked. Went (record { client = client; link = x; keeper = i })
            (record { client = next; link = y; keeper = j }) (Ok stop) (turn_count asked)) c.in-Ok-Some.field-0-is
            (took (record { client = client; link = x; keeper = i }) (record { client = next; link = y; keeper = j })
            (Ok stop) c.in-Ok-Some.field-0 _
            (λ is. c.stop_of-in-Ok.ensures.in_memory (stop_is stop stops.NoMemory is)) e));
        turned = one_turn _ stop client next x.past y.past c.stop_of-in-Ok.ensures.in_memory
            (subst (λ asked. TakesTurn (x.honest (is_planned client.keys)) asked client next x.past y.past)
            c.in-Ok-Some.field-0-is e.turned);
        counted = search rules;
        output = search rules;
        stops_for_its_reason = search rules;
        losing = search rules;
      };
      limit = search rules;
      within = search rules;
      ended = search rules;
    }

pub returns-in-Err-save_progress-clause-made : goal.returns-in-Err-save_progress-clause-made
returns-in-Err-save_progress-clause-made g c =
    let e = c.in-Ok-Some.ensures in
    let client = c.args.client.now in
    let next = c.turn.new.client in
    let x = g.L.Link.seen c.args.link.now in
    let y = g.L.Link.seen c.turn.new.link in
    let i = g.K.Keeper.kept c.args.keeper.now in
    let j = g.K.Keeper.kept c.save_progress.new.keeper in
    let fault = c.in-Err-save_progress.fault in
    record {
      exchanges = record {
        carried =
            carried_not (record { client = client; link = x; keeper = i })
            (record { client = next; link = y; keeper = j }) fault
            (λ remembers. let so = c.in-Err-save_progress.ensures.remembered remembers in (so.0, so.2))
            c.in-Err-save_progress.ensures.whole
            (subst (λ asked. Went (record { client = client; link = x; keeper = i })
            (record { client = next; link = y; keeper = j }) (Err fault) (turn_count asked)) c.in-Ok-Some.field-0-is
            (took (record { client = client; link = x; keeper = i }) (record { client = next; link = y; keeper = j })
            (Err fault) c.in-Ok-Some.field-0 _ (λ is. absurd cc) e));
        turned = one_turn _ stops.Limit client next x.past y.past (λ is. absurd cc)
            (subst (λ asked. TakesTurn (x.honest (is_planned client.keys)) asked client next x.past y.past)
            c.in-Ok-Some.field-0-is e.turned);
        counted = search rules;
        output = search rules;
        stops_for_its_reason = search rules;
        losing = search rules;
      };
      limit = search rules;
      within = search rules;
      ended = search rules;
    }

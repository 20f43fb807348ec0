-- All of it, clause by clause: what the exchanges promise, and what the end of the run leaves of it.
use Rattle.std.proofs.Common.{arith, subst, sym, rules}
use Rattle.kmip_client.specs.Held.{Held}
use Rattle.kmip_plan.specs.Plans.{IsLawful}
use Rattle.kmip_protocol.specs.Past.{is_planned}
use Rattle.kmip_protocol.specs.Sound.{Sound}
use Rattle.kmip_runs.specs.Losing.{ArePaid, left_for}
use Rattle.kmip_runs.specs.Saved.{IsInMemory, Situation}
use Rattle.kmip_runs.proofs.CampaignLemmas.{known_is_safe}
use Rattle.kmip_runs.proofs.CarryLemmas.{carried_closed, carried_kept, good_end, left_last, limit_last, memory_before}
use Rattle.kmip_runs.proofs.CarryLemmas.{settled_end, stands_last, told_before, unless_given_up}
use Rattle.kmip_runs.proofs.CarryEndingLemmas.{ended_once, ended_whole, one_of_both}
use Rattle.kmip_runs.proofs.CarryLosingLemmas.{outlasted, paid_closed}
use Rattle.kmip_runs.proofs.KnownLemmas.{grown_justified}
use Rattle.kmip_runs.proofs.LastingLemmas.{file_lasts}
use Rattle.kmip_runs.proofs.RefusalLemmas.{output_before, risen_at_fault, risen_still}
use Rattle.kmip_runs.proofs.TurnedLemmas.{turned_last}
use Rattle.kmip_runs.proofs.carrying.carry_out.Goals as goal

pub returns : goal.returns
returns g c =
    let laws = c.the_laws_below_hold.ensures in
    let lawful = c.a_client_has_a_lawful_plan.ensures in
    let done = c.exchange_in_turn-carried in
    let close = c.close_run-closed in
    let end = c.after_close.ensures in
    let last = c.after_close.result in
    let client = c.args.client.now in
    let next = done.new.client in
    let old = g.L.Link.seen c.args.link.now in
    let mid = g.L.Link.seen done.new.link in
    let new = g.L.Link.seen close.new.link in
    let names = is_planned client.keys in
    let kept = g.K.Keeper.kept in
    let made = done.ensures.made.exchanges in
    let first = made.carried in
    let before : Situation = record { client = client; link = old; keeper = kept c.args.keeper.now } in
    let between : Situation = record { client = next; link = mid; keeper = kept done.new.keeper } in
    let shut = c.close in
    let unshut : Situation = record between { link = new } in
    let after : Situation = record unshut { keeper = kept shut.new.self } in
    let limit = limit_last close.result done.result.0 last end.whole end.stop end.fault in
    let stands = stands_last next close.result done.result.0 last end.whole end.stop end.fault
    made.stops_for_its_reason in
    let ended =
    carried_closed laws before between new done.result.0 last close.result done.result.1 lawful
    (λ names honest. (close.ensures.honestly names honest).honest) close.ensures.amid close.ensures.calm end.whole
    end.stop end.fault first in
    let carried = carried_kept before unshut (kept shut.new.self) last shut.result done.result.1
    shut.ensures.remembered shut.ensures.lasts ended in
    record {
      well = λ good.
          let paid : old.honest names → IsInMemory last
          → ArePaid done.result.1 (left_for client old.past) (left_for next new.past) old.disturbances
          new.disturbances =
          λ honest memory.
          paid_closed laws next mid new done.result.1 (left_for client old.past) old.disturbances
          (subst IsLawful (sym first.went.keeps.keys_stay) lawful) (first.went.good good)
          (subst (λ ks. mid.honest (is_planned ks)) (sym first.went.keeps.keys_stay) (first.went.learns honest).0)
          (λ names honest. (close.ensures.honestly names honest).honest)
          (λ names honest. (close.ensures.honestly names honest).undisturbed)
          (made.losing good honest (memory_before close.result done.result.0 last end.whole end.stop end.fault
          memory)) in
          record {
            good = carried.went.good good;
            onward = carried.went.onward good;
            losing = paid;
            outlasts = λ honest patient whole enough.
                outlasted laws client next old new last done.result.1 c.args.limit lawful good
                (carried.went.good good) (paid honest) stands
                (λ is. unless_given_up _ _ _ _ done.ensures.made.limit patient (limit is)) whole enough;
            justified = λ honest own.
                grown_justified laws.exchanges.justified client.keys old.past new.past
                (carried.went.takes_nothing_back honest)
                (subst (λ ks. Sound ks new.past) carried.went.keeps.keys_stay (carried.went.good good).sound) own;
            no_conflict = good_end laws before after last done.result.1 carried.went stands good;
            safe =
                let ended = carried.went.good good in
                known_is_safe c.the_laws_below_hold.ensures client.keys new.past next.knowns lawful
                (subst (λ ks. Sound ks new.past) carried.went.keeps.keys_stay ended.sound)
                (subst (λ ks. Held new.past.objects ks next.knowns) carried.went.keeps.keys_stay ended.held);
          };
      honestly = λ honest.
          let known = first.went.learns honest in
          let closed = close.ensures.honestly names known.0 in
          record {
            learns = carried.went.learns honest;
            broken = carried.went.broken honest;
            takes_nothing_back = carried.went.takes_nothing_back honest;
            ended =
                ended_whole client.keys client.batch old.past mid.past client.knowns next.knowns close.result
                done.result.0 last done.result.1
                old.ended mid.ended new.ended end.whole end.stop end.fault known.1 (done.ensures.made.ended honest)
                closed.ended;
            once =
                ended_once mid.past new.past old.ended mid.ended new.ended
                (laws.exchanges.requests_stay names mid.past new.past closed.honest.1).sent
                (done.ensures.made.ended honest) (one_of_both close.result closed.ended closed.unended);
          };
      forgets_nothing = carried.went.keeps;
      moments = carried.kept;
      lasts = λ lawful written.
          let left = ended.kept.any_moment lawful in
          file_lasts between.keeper.disk after.keeper.disk shut.result (left.still written)
          (risen_at_fault shut.result before.keeper.refusals between.keeper.refusals after.keeper.refusals
          made.counted shut.ensures.output)
          (shut.ensures.lasts left.lawful);
      counted = omega (arith, made.counted, shut.ensures.counted);
      output = λ is.
          risen_still before.keeper.refusals between.keeper.refusals after.keeper.refusals made.counted
          shut.ensures.counted
          (made.output (output_before close.result done.result.0 last end.whole end.stop end.fault is));
      stops_for_its_reason = stands;
      limit = λ is. done.ensures.made.limit (limit is);
      given_up = λ fresh gave.
          let left = done.ensures.made.given_up fresh gave in
          (left_last close.result done.result.0 last end.whole end.stop end.fault left.0, left.1);
      within = search rules;
      asked = done.ensures.made.asked;
      turned = record {
        until = mid.past;
        turned = turned_last (old.honest names) close.result done.result.0 last done.result.1 client next old.past
            mid.past end.whole end.stop end.fault made.turned;
        closed = λ honest. (close.ensures.honestly names (first.went.learns honest).0).honest.1;
      };
      followed = λ memory.
          let told = told_before close.result done.result.0 last end.whole end.stop end.fault memory in
          g.met.L.Link.twice c.args.link.now done.new.link close.new.link (done.ensures.followed told.0)
          (told.1 close.ensures.followed);
      calmly = λ settling. record {
        calm = carried.went.near settling;
        settles = λ enough patient whole.
            settled_end laws before after last done.result.1 c.args.limit lawful carried.went stands
            (λ is. unless_given_up _ _ _ _ done.ensures.made.limit patient (limit is)) settling enough whole;
      };
    }

-- Turn by turn.
use Rattle.std.proofs.Common.{◌≡◌, ◌≤◌, ◌<◌, ◌+◌, ℕ, ◌∙◌, refl, rules, subst, sym, arith}
use Rattle.std.specs.Prelude.{⊤}
use Rattle.kmip_client.specs.Clients.{ClientState}
use Rattle.kmip_runs.specs.PrivateTurns.{turn_count}
use Rattle.kmip_protocol.specs.Past.{is_planned}
use Rattle.kmip_protocol.specs.Seen.{Seen}
use Rattle.kmip_runs.specs.Driving.{Keeps, Learnt, LearntUntil, Nearer, TakesNothingBack, WentOn}
use Rattle.kmip_runs.specs.Losing.{ArePaid, left_for}
use Rattle.kmip_runs.specs.Turning.{IsTurned}
use Rattle.kmip_runs.specs.Private.{TakesTurn, exchanges_made}
use Rattle.kmip_runs.specs.declared.stop.Stop.TheVariants as stops
use Rattle.kmip_runs.specs.declared.turn_fault.TurnFault.{TurnFault}
use Rattle.kmip_runs.specs.declared.turn_fault.TurnFault.TheVariants.{Unmade, Unheard}
use Rattle.kmip_runs.proofs.LosingLemmas.{no_fewer_then, paid_end, paid_limit, paid_none, paid_then}
use Rattle.kmip_runs.proofs.CompleteLemmas.{completed, untouched_settles}
use Rattle.kmip_runs.proofs.DriveLemmas.{asks_one, broken_end, driven_none, driven_then, few_made, further_if}
use Rattle.kmip_runs.proofs.DriveLemmas.{further_last, good_no_conflict, known_end, settled_no_limit}
use Rattle.kmip_runs.proofs.KnownLemmas.{grown_then, learnt_long, until_long}
use Rattle.kmip_runs.proofs.SettleLemmas.{finished_stop, nearer_end, nearer_limit, nearer_then}
use Rattle.kmip_runs.proofs.GoodLemmas.{keeps_then, went_then}
use Rattle.kmip_runs.proofs.TurnLemmas.{turned_broken, turned_limit, turned_more, turned_none, turned_rest}
use Rattle.kmip_runs.proofs.driving.drive.Goals as goal

-- after the loop as many exchanges were made as may be; a turn that asks nothing adds none
all_made : (made limit : ℕ) → limit ≤ made → made ≤ limit → made ≡ limit
all_made made limit least most = omega (arith, least, most)

one_at_most : (fault : TurnFault) → exchanges_made fault ≤ 1
one_at_most Unmade = omega arith
one_at_most Unheard = omega arith

-- a link that was honest for the plan's names still is
still_honest : (x y : Seen) (a b : ClientState) → Keeps a b
    → (x.honest (is_planned a.keys) → y.honest (is_planned a.keys))
    → x.honest (is_planned a.keys) → y.honest (is_planned b.keys)
still_honest x y a b keeps still holds = subst (λ ks. y.honest (is_planned ks)) (sym keeps.keys_stay) (still holds)

and_none : (made : ℕ) → made + 0 ≡ made
and_none made = omega arith

pub loop-made-init : goal.loop-made-init
loop-made-init g c = record {
  driven = driven_none c.the_laws_below_hold.ensures c.args.client.now (g.L.Link.seen c.args.link.now);
  counts = λ names honest. (omega arith, omega arith, omega arith);
  ended = λ names honest. refl;
  paid = λ good honest. paid_none (left_for c.args.client.now (g.L.Link.seen c.args.link.now).past)
      (g.L.Link.seen c.args.link.now).disturbances;
  turned = turned_none _ c.args.client.now (g.L.Link.seen c.args.link.now).past;
  followed = g.met.L.Link.itself c.args.link.now;
}

pub returns-in-Ok-None : goal.returns-in-Ok-None
returns-in-Ok-None g c = record {
  well = λ good. record {
    good = (c.turn.ensures.well (c.loop-made.invariant.driven.good good)).good;
    onward =
        went_then c.the_laws_below_hold.ensures c.args.client.now.keys (g.L.Link.seen c.args.link.now).past
        (g.L.Link.seen c.loop-made.link).past (g.L.Link.seen c.turn.new.link).past
        (c.loop-made.invariant.driven.onward good)
        (subst (λ ks. WentOn ks (g.L.Link.seen c.loop-made.link).past (g.L.Link.seen c.turn.new.link).past)
        c.loop-made.invariant.driven.keeps.keys_stay
        (c.turn.ensures.well (c.loop-made.invariant.driven.good good)).onward);
    -- a last turn that asked nothing
    losing = λ honest memory.
        let last =
        subst (λ asked. ArePaid (turn_count asked) (left_for c.loop-made.client (g.L.Link.seen c.loop-made.link).past)
        (left_for c.turn.new.client (g.L.Link.seen c.turn.new.link).past)
        (g.L.Link.seen c.loop-made.link).disturbances (g.L.Link.seen c.turn.new.link).disturbances)
        c.in-Ok-None.field-0-is
        (c.in-Ok-None.ensures.tries.paid (c.loop-made.invariant.driven.good good)
        (still_honest (g.L.Link.seen c.args.link.now) (g.L.Link.seen c.loop-made.link) c.args.client.now
        c.loop-made.client c.loop-made.invariant.driven.keeps
        (c.loop-made.invariant.driven.honest_still (is_planned c.args.client.now.keys)) honest)) in
        let first = c.loop-made.invariant.paid good honest in
        omega (arith, first, last);
    outlasts = λ honest memory enough.
        let still = (c.turn.ensures.well (c.loop-made.invariant.driven.good good)).good in
        finished_stop c.turn.new.client.keys c.turn.new.client.knowns c.stop_of.result
        (paid_end c.the_laws_below_hold.ensures c.turn.new.client (g.L.Link.seen c.turn.new.link) still
        (c.in-Ok-None.ensures.settled c.in-Ok-None.field-0-is))
        c.stop_of.ensures.in_memory c.stop_of.ensures.stops_for_its_reason;
    no_conflict =
        good_no_conflict c.the_laws_below_hold.ensures c.turn.new.client (g.L.Link.seen c.turn.new.link)
        c.stop_of.result (c.turn.ensures.well (c.loop-made.invariant.driven.good good)).good
        c.stop_of.ensures.stops_for_its_reason;
    further = (further_last c.the_laws_below_hold.ensures c.args.client.now c.loop-made.client c.turn.new.client
        (g.L.Link.seen c.args.link.now) (g.L.Link.seen c.loop-made.link) (g.L.Link.seen c.turn.new.link)
        c.loop-made.made _ c.loop-made.invariant.driven
        (λ good. further_if c.loop-made.client.keys (g.L.Link.seen c.loop-made.link) (g.L.Link.seen c.turn.new.link) _
        _ (λ is. search rules) (c.turn.ensures.well good).further)) good;
  };
  honestly = λ honest. record {
    learns =
        let ended =
        known_end c.the_laws_below_hold.ensures c.args.client.now c.loop-made.client c.turn.new.client
        (g.L.Link.seen c.args.link.now) (g.L.Link.seen c.loop-made.link)
        (g.L.Link.seen c.turn.new.link) c.loop-made.made c.loop-made.invariant.driven
        (λ holds.
        let step = c.in-Ok-None.ensures.honestly holds in (
          step.stays_honest,
          subst
              (λ asked. Learnt c.loop-made.client.keys c.loop-made.client.batch (g.L.Link.seen c.loop-made.link).past
              (g.L.Link.seen c.turn.new.link).past c.loop-made.client.knowns c.turn.new.client.knowns
              (turn_count asked))
              c.in-Ok-None.field-0-is step.learnt,
        )) honest in
        (ended.0, λ memory. ended.1);
    broken = λ is. absurd (c.stop_of.ensures.in_memory is);
    few =
        let ended =
        known_end c.the_laws_below_hold.ensures c.args.client.now c.loop-made.client c.turn.new.client
        (g.L.Link.seen c.args.link.now) (g.L.Link.seen c.loop-made.link)
        (g.L.Link.seen c.turn.new.link) c.loop-made.made c.loop-made.invariant.driven
        (λ holds.
        let step = c.in-Ok-None.ensures.honestly holds in (
          step.stays_honest,
          subst
              (λ asked. Learnt c.loop-made.client.keys c.loop-made.client.batch (g.L.Link.seen c.loop-made.link).past
              (g.L.Link.seen c.turn.new.link).past c.loop-made.client.knowns c.turn.new.client.knowns
              (turn_count asked))
              c.in-Ok-None.field-0-is step.learnt,
        )) honest in
        let long = learnt_long c.args.client.now.keys c.args.client.now.batch (g.L.Link.seen c.args.link.now).past
        (g.L.Link.seen c.turn.new.link).past c.args.client.now.knowns c.turn.new.client.knowns c.loop-made.made
        ended.1 in
        let below : c.loop-made.made < c.args.limit = search rules in
        omega (arith, long, below);
    takes_nothing_back =
        grown_then (g.L.Link.seen c.args.link.now).past (g.L.Link.seen c.loop-made.link).past
        (g.L.Link.seen c.turn.new.link).past (c.loop-made.invariant.driven.takes_nothing_back honest)
        (subst (λ ks. TakesNothingBack ks (g.L.Link.seen c.loop-made.link).past (g.L.Link.seen c.turn.new.link).past)
        c.loop-made.invariant.driven.keeps.keys_stay
        (c.turn.ensures.honestly (subst (λ ks. (g.L.Link.seen c.loop-made.link).honest (is_planned ks))
        (sym c.loop-made.invariant.driven.keeps.keys_stay)
        (c.loop-made.invariant.driven.learns honest).0)).takes_nothing_back);
  };
  turned =
      turned_rest _ _ c.stop_of.result c.loop-made.made c.args.client.now c.loop-made.client c.turn.new.client
      (g.L.Link.seen c.args.link.now).past (g.L.Link.seen c.loop-made.link).past
      (g.L.Link.seen c.turn.new.link).past
      (still_honest (g.L.Link.seen c.args.link.now) (g.L.Link.seen c.loop-made.link) c.args.client.now
      c.loop-made.client c.loop-made.invariant.driven.keeps
      (c.loop-made.invariant.driven.honest_still (is_planned c.args.client.now.keys)))
      c.stop_of.ensures.in_memory c.loop-made.invariant.turned
      (subst
      (λ asked. TakesTurn ((g.L.Link.seen c.loop-made.link).honest (is_planned c.loop-made.client.keys)) asked
      c.loop-made.client c.turn.new.client (g.L.Link.seen c.loop-made.link).past
      (g.L.Link.seen c.turn.new.link).past)
      c.in-Ok-None.field-0-is c.in-Ok-None.ensures.turned);
  forgets_nothing =
      keeps_then c.args.client.now c.loop-made.client c.turn.new.client c.loop-made.invariant.driven.keeps
      c.turn.ensures.tries.keeps;
  stops_for_its_reason = search rules;
  limit = λ is.
      absurd (settled_no_limit c.the_laws_below_hold.ensures c.turn.new.client c.stop_of.result
      (c.in-Ok-None.ensures.settled c.in-Ok-None.field-0-is) c.stop_of.ensures.stops_for_its_reason is);
  within = search rules;
  calmly = λ settling. record {
    settles = λ enough memory.
        let l = c.the_laws_below_hold.ensures in
        let client = c.args.client.now in
        let first = c.loop-made.invariant.driven.near settling in
        let last =
        subst (λ asked. Nearer c.loop-made.client c.turn.new.client (g.L.Link.seen c.loop-made.link)
        (g.L.Link.seen c.turn.new.link) (turn_count asked)) c.in-Ok-None.field-0-is
        (c.in-Ok-None.ensures.tries.nearer first.settling) in
        let end =
        nearer_end l client c.loop-made.client c.turn.new.client (g.L.Link.seen c.args.link.now)
        (g.L.Link.seen c.loop-made.link) (g.L.Link.seen c.turn.new.link) c.loop-made.made
        (asks_one client c.loop-made.client c.loop-made.invariant.driven.keeps) first last
        (c.in-Ok-None.ensures.settled c.in-Ok-None.field-0-is) in
        let few = l.settling.bounded (g.L.Link.seen c.args.link.now).past.room client.keys
        (g.L.Link.seen c.args.link.now).past.objects client.knowns c.a_client_has_a_lawful_plan.ensures
        settling.ready in (
          finished_stop c.turn.new.client.keys c.turn.new.client.knowns c.stop_of.result end.3
              c.stop_of.ensures.in_memory c.stop_of.ensures.stops_for_its_reason,
          end.1,
          end.2,
          omega (arith, end.1, few),
        );
    calm = λ memory.
        let client = c.args.client.now in
        let first = c.loop-made.invariant.driven.near settling in
        let last =
        subst (λ asked. Nearer c.loop-made.client c.turn.new.client (g.L.Link.seen c.loop-made.link)
        (g.L.Link.seen c.turn.new.link) (turn_count asked)) c.in-Ok-None.field-0-is
        (c.in-Ok-None.ensures.tries.nearer first.settling) in
        subst (λ n. Nearer client c.turn.new.client (g.L.Link.seen c.args.link.now) (g.L.Link.seen c.turn.new.link) n)
        (and_none c.loop-made.made)
        (nearer_then client c.loop-made.client c.turn.new.client (g.L.Link.seen c.args.link.now)
        (g.L.Link.seen c.loop-made.link) (g.L.Link.seen c.turn.new.link) c.loop-made.made 0
        (asks_one client c.loop-made.client c.loop-made.invariant.driven.keeps) first last);
  };
  finishes = λ start enough memory.
      let l = c.the_laws_below_hold.ensures in
      let client = c.args.client.now in
      let settling = (untouched_settles l client (g.L.Link.seen c.args.link.now) c.a_client_has_a_lawful_plan.ensures
      start).0 in
      let first = c.loop-made.invariant.driven.near settling in
      let last =
      subst (λ asked. Nearer c.loop-made.client c.turn.new.client (g.L.Link.seen c.loop-made.link)
      (g.L.Link.seen c.turn.new.link) (turn_count asked)) c.in-Ok-None.field-0-is
      (c.in-Ok-None.ensures.tries.nearer first.settling) in
      let end =
      nearer_end l client c.loop-made.client c.turn.new.client (g.L.Link.seen c.args.link.now)
      (g.L.Link.seen c.loop-made.link) (g.L.Link.seen c.turn.new.link) c.loop-made.made
      (asks_one client c.loop-made.client c.loop-made.invariant.driven.keeps) first last
      (c.in-Ok-None.ensures.settled c.in-Ok-None.field-0-is) in
      let done =
      completed l client c.turn.new.client (g.L.Link.seen c.args.link.now) (g.L.Link.seen c.turn.new.link)
      c.loop-made.made c.a_client_has_a_lawful_plan.ensures start end.0
      (c.turn.ensures.tries.keeps.keys_stay ∙ c.loop-made.invariant.driven.keeps.keys_stay) end.1 end.2 end.3 in (
        finished_stop c.turn.new.client.keys c.turn.new.client.knowns c.stop_of.result end.3
            c.stop_of.ensures.in_memory c.stop_of.ensures.stops_for_its_reason,
        done.0,
        done.1,
        done.2,
      );
  honest = λ names honest. c.turn.ensures.tries.honest names (c.loop-made.invariant.driven.honest_still names honest);
  counts = λ names honest. no_fewer_then (g.L.Link.seen c.args.link.now).disturbances
      (g.L.Link.seen c.loop-made.link).disturbances (g.L.Link.seen c.turn.new.link).disturbances
      (c.loop-made.invariant.counts names honest)
      (c.turn.ensures.tries.counts names (c.loop-made.invariant.driven.honest_still names honest));
  ended = λ names honest.
      c.turn.ensures.tries.ended names (c.loop-made.invariant.driven.honest_still names honest)
      ∙ c.loop-made.invariant.ended names honest;
  followed = λ memory.
      g.met.L.Link.twice c.args.link.now c.loop-made.link c.turn.new.link c.loop-made.invariant.followed
      c.in-Ok-None.ensures.tries.followed;
}

pub returns-in-Err : goal.returns-in-Err
returns-in-Err g c = record {
  well = λ good. record {
    good = (c.turn.ensures.well (c.loop-made.invariant.driven.good good)).good;
    onward =
        went_then c.the_laws_below_hold.ensures c.args.client.now.keys (g.L.Link.seen c.args.link.now).past
        (g.L.Link.seen c.loop-made.link).past (g.L.Link.seen c.turn.new.link).past
        (c.loop-made.invariant.driven.onward good)
        (subst (λ ks. WentOn ks (g.L.Link.seen c.loop-made.link).past (g.L.Link.seen c.turn.new.link).past)
        c.loop-made.invariant.driven.keeps.keys_stay
        (c.turn.ensures.well (c.loop-made.invariant.driven.good good)).onward);
    losing = λ honest memory. absurd (memory refl);
    outlasts = λ honest memory enough. absurd (memory refl);
    no_conflict = search rules;
    further = (further_last c.the_laws_below_hold.ensures c.args.client.now c.loop-made.client c.turn.new.client
        (g.L.Link.seen c.args.link.now) (g.L.Link.seen c.loop-made.link) (g.L.Link.seen c.turn.new.link)
        c.loop-made.made _ c.loop-made.invariant.driven
        (λ good. further_if c.loop-made.client.keys (g.L.Link.seen c.loop-made.link) (g.L.Link.seen c.turn.new.link) _
        _ (λ is. absurd (is refl)) (c.turn.ensures.well good).further)) good;
  };
  honestly = λ honest. record {
    learns = (
      c.turn.ensures.tries.honest _ (c.loop-made.invariant.driven.honest_still _ honest),
      λ memory.
          absurd (memory refl),
    );
    broken = λ is.
        subst
        (λ n. LearntUntil c.args.client.now.keys c.args.client.now.batch (g.L.Link.seen c.args.link.now).past
        (g.L.Link.seen c.turn.new.link).past c.args.client.now.knowns
        c.turn.new.client.knowns (c.loop-made.made + n))
        (sym c.exchanges.ensures)
        (broken_end c.args.client.now c.loop-made.client c.turn.new.client (g.L.Link.seen c.args.link.now)
        (g.L.Link.seen c.loop-made.link) (g.L.Link.seen c.turn.new.link)
        c.loop-made.made c.in-Err.fault c.loop-made.invariant.driven
        (λ holds. (c.in-Err.ensures.honestly holds).broken) honest);
    few =
        let off =
        broken_end c.args.client.now c.loop-made.client c.turn.new.client (g.L.Link.seen c.args.link.now)
        (g.L.Link.seen c.loop-made.link) (g.L.Link.seen c.turn.new.link)
        c.loop-made.made c.in-Err.fault c.loop-made.invariant.driven
        (λ holds. (c.in-Err.ensures.honestly holds).broken) honest in
        let long =
        until_long c.args.client.now.keys c.args.client.now.batch (g.L.Link.seen c.args.link.now).past
        (g.L.Link.seen c.turn.new.link).past c.args.client.now.knowns c.turn.new.client.knowns
        (c.loop-made.made + exchanges_made c.in-Err.fault) off in
        let one = one_at_most c.in-Err.fault in
        let below : c.loop-made.made < c.args.limit = search rules in
        omega (arith, long, one, below);
    takes_nothing_back =
        grown_then (g.L.Link.seen c.args.link.now).past (g.L.Link.seen c.loop-made.link).past
        (g.L.Link.seen c.turn.new.link).past (c.loop-made.invariant.driven.takes_nothing_back honest)
        (subst (λ ks. TakesNothingBack ks (g.L.Link.seen c.loop-made.link).past (g.L.Link.seen c.turn.new.link).past)
        c.loop-made.invariant.driven.keeps.keys_stay
        (c.turn.ensures.honestly (subst (λ ks. (g.L.Link.seen c.loop-made.link).honest (is_planned ks))
        (sym c.loop-made.invariant.driven.keeps.keys_stay)
        (c.loop-made.invariant.driven.learns honest).0)).takes_nothing_back);
  };
  turned =
      subst
      (λ n. IsTurned ((g.L.Link.seen c.args.link.now).honest (is_planned c.args.client.now.keys)) stops.NoMemory
      (c.loop-made.made + n) c.args.client.now c.turn.new.client (g.L.Link.seen c.args.link.now).past
      (g.L.Link.seen c.turn.new.link).past)
      (sym c.exchanges.ensures)
      (turned_broken _ _ c.loop-made.made c.args.client.now c.loop-made.client c.turn.new.client
      (g.L.Link.seen c.args.link.now).past (g.L.Link.seen c.loop-made.link).past
      (g.L.Link.seen c.turn.new.link).past c.in-Err.fault
      (still_honest (g.L.Link.seen c.args.link.now) (g.L.Link.seen c.loop-made.link) c.args.client.now
      c.loop-made.client c.loop-made.invariant.driven.keeps
      (c.loop-made.invariant.driven.honest_still (is_planned c.args.client.now.keys)))
      c.loop-made.invariant.turned c.in-Err.ensures.gives_up);
  forgets_nothing = keeps_then c.args.client.now c.loop-made.client c.turn.new.client
      c.loop-made.invariant.driven.keeps c.turn.ensures.tries.keeps;
  stops_for_its_reason = search rules;
  limit = search rules;
  within = search rules;
  calmly = λ settling. record {
    settles = λ enough memory. absurd (memory refl);
    calm = λ memory. absurd (memory refl);
  };
  finishes = λ start enough memory. absurd (memory refl);
  honest = λ names honest. c.turn.ensures.tries.honest names (c.loop-made.invariant.driven.honest_still names honest);
  counts = λ names honest. no_fewer_then (g.L.Link.seen c.args.link.now).disturbances
      (g.L.Link.seen c.loop-made.link).disturbances (g.L.Link.seen c.turn.new.link).disturbances
      (c.loop-made.invariant.counts names honest)
      (c.turn.ensures.tries.counts names (c.loop-made.invariant.driven.honest_still names honest));
  ended = λ names honest.
      c.turn.ensures.tries.ended names (c.loop-made.invariant.driven.honest_still names honest)
      ∙ c.loop-made.invariant.ended names honest;
  followed = λ memory. absurd (memory refl);
}

pub loop-made-preserved : goal.loop-made-preserved
loop-made-preserved g c =
    record {
      driven = driven_then c.the_laws_below_hold.ensures c.args.client.now c.loop-made.client c.turn.new.client
          (g.L.Link.seen c.args.link.now) (g.L.Link.seen c.loop-made.link)
          (g.L.Link.seen c.turn.new.link) c.loop-made.made 1 c.loop-made.invariant.driven
          (record {
            good = λ good. (c.in-Ok-Some.ensures.well good).good;
            onward = λ good. (c.in-Ok-Some.ensures.well good).onward;
            learns = λ honest.
                let step = c.in-Ok-Some.ensures.honestly honest in (
                  step.stays_honest,
                  subst
                      (λ asked. Learnt c.loop-made.client.keys c.loop-made.client.batch
                      (g.L.Link.seen c.loop-made.link).past (g.L.Link.seen c.turn.new.link).past
                      c.loop-made.client.knowns c.turn.new.client.knowns (turn_count asked))
                      c.in-Ok-Some.field-0-is step.learnt,
                );
            takes_nothing_back = λ honest. (c.turn.ensures.honestly honest).takes_nothing_back;
            keeps = c.turn.ensures.tries.keeps;
            near = λ settling.
                subst
                (λ asked. Nearer c.loop-made.client c.turn.new.client (g.L.Link.seen c.loop-made.link)
                (g.L.Link.seen c.turn.new.link) (turn_count asked))
                c.in-Ok-Some.field-0-is (c.in-Ok-Some.ensures.tries.nearer settling);
            honest_still = c.turn.ensures.tries.honest;
            further = λ good.
                further_if c.loop-made.client.keys (g.L.Link.seen c.loop-made.link) (g.L.Link.seen c.turn.new.link) _
                ⊤ (λ is. search rules) (c.turn.ensures.well good).further;
          });
      counts = λ names honest. no_fewer_then (g.L.Link.seen c.args.link.now).disturbances
          (g.L.Link.seen c.loop-made.link).disturbances (g.L.Link.seen c.turn.new.link).disturbances
          (c.loop-made.invariant.counts names honest)
          (c.turn.ensures.tries.counts names (c.loop-made.invariant.driven.honest_still names honest));
      ended = λ names honest.
          c.turn.ensures.tries.ended names (c.loop-made.invariant.driven.honest_still names honest)
          ∙ c.loop-made.invariant.ended names honest;
      paid = λ good honest.
          paid_then c.loop-made.made 1 _ _ _ _ _ _ (c.loop-made.invariant.paid good honest)
          (subst (λ asked. ArePaid (turn_count asked)
          (left_for c.loop-made.client (g.L.Link.seen c.loop-made.link).past)
          (left_for c.turn.new.client (g.L.Link.seen c.turn.new.link).past)
          (g.L.Link.seen c.loop-made.link).disturbances (g.L.Link.seen c.turn.new.link).disturbances)
          c.in-Ok-Some.field-0-is
          (c.in-Ok-Some.ensures.tries.paid (c.loop-made.invariant.driven.good good)
          (still_honest (g.L.Link.seen c.args.link.now) (g.L.Link.seen c.loop-made.link) c.args.client.now
          c.loop-made.client c.loop-made.invariant.driven.keeps
          (c.loop-made.invariant.driven.honest_still (is_planned c.args.client.now.keys)) honest)));
      turned =
          turned_more _ _ c.loop-made.made c.args.client.now c.loop-made.client c.turn.new.client
          (g.L.Link.seen c.args.link.now).past (g.L.Link.seen c.loop-made.link).past
          (g.L.Link.seen c.turn.new.link).past
          (still_honest (g.L.Link.seen c.args.link.now) (g.L.Link.seen c.loop-made.link) c.args.client.now
          c.loop-made.client c.loop-made.invariant.driven.keeps
          (c.loop-made.invariant.driven.honest_still (is_planned c.args.client.now.keys)))
          c.loop-made.invariant.turned
          (subst
          (λ asked. TakesTurn ((g.L.Link.seen c.loop-made.link).honest (is_planned c.loop-made.client.keys)) asked
          c.loop-made.client c.turn.new.client (g.L.Link.seen c.loop-made.link).past
          (g.L.Link.seen c.turn.new.link).past)
          c.in-Ok-Some.field-0-is c.in-Ok-Some.ensures.turned);
      followed = g.met.L.Link.twice c.args.link.now c.loop-made.link c.turn.new.link c.loop-made.invariant.followed
          c.in-Ok-Some.ensures.tries.followed;
    }

pub returns : goal.returns
returns g c = record {
  well = λ good. record {
    good = c.loop-made.invariant.driven.good good;
    onward = c.loop-made.invariant.driven.onward good;
    losing = λ honest memory.
        let made = all_made c.loop-made.made c.args.limit c.loop-made-test.false c.loop-made.auto.made-end in
        let paid = c.loop-made.invariant.paid good honest in
        omega (arith, made, paid);
    outlasts = λ honest memory enough.
        let made = all_made c.loop-made.made c.args.limit c.loop-made-test.false c.loop-made.auto.made-end in
        let paid =
        subst (λ n. ArePaid n (left_for c.args.client.now (g.L.Link.seen c.args.link.now).past)
        (left_for c.loop-made.client (g.L.Link.seen c.loop-made.link).past)
        (g.L.Link.seen c.args.link.now).disturbances
        (g.L.Link.seen c.loop-made.link).disturbances) made (c.loop-made.invariant.paid good honest) in
        finished_stop c.loop-made.client.keys c.loop-made.client.knowns c.stop_of-2.result
        (paid_limit c.the_laws_below_hold.ensures c.args.client.now c.loop-made.client (g.L.Link.seen c.args.link.now)
        (g.L.Link.seen c.loop-made.link) c.args.limit
        c.a_client_has_a_lawful_plan.ensures good (c.loop-made.invariant.driven.good good) paid enough)
        c.stop_of-2.ensures.in_memory c.stop_of-2.ensures.stops_for_its_reason;
    no_conflict =
        good_no_conflict c.the_laws_below_hold.ensures c.loop-made.client (g.L.Link.seen c.loop-made.link)
        c.stop_of-2.result (c.loop-made.invariant.driven.good good) c.stop_of-2.ensures.stops_for_its_reason;
    further =
        further_if c.args.client.now.keys (g.L.Link.seen c.args.link.now) (g.L.Link.seen c.loop-made.link) ⊤ _
        (λ is. tt) (c.loop-made.invariant.driven.further good);
  };
  honestly = λ honest. record {
    learns =
        let made = all_made c.loop-made.made c.args.limit c.loop-made-test.false c.loop-made.auto.made-end in
        let known = c.loop-made.invariant.driven.learns honest in (
          known.0,
          λ memory.
              subst (λ n. Learnt c.args.client.now.keys c.args.client.now.batch (g.L.Link.seen c.args.link.now).past
              (g.L.Link.seen c.loop-made.link).past c.args.client.now.knowns c.loop-made.client.knowns n) made
              known.1,
        );
    broken = λ is. absurd (c.stop_of-2.ensures.in_memory is);
    few =
        let most : c.loop-made.made ≤ c.args.limit = search rules in
        few_made c.args.client.now c.loop-made.client (g.L.Link.seen c.args.link.now) (g.L.Link.seen c.loop-made.link)
        c.loop-made.made c.args.limit
        c.loop-made.invariant.driven most honest;
    takes_nothing_back = c.loop-made.invariant.driven.takes_nothing_back honest;
  };
  turned =
      turned_limit _ c.stop_of-2.result c.loop-made.made c.args.limit c.args.client.now c.loop-made.client
      (g.L.Link.seen c.args.link.now).past (g.L.Link.seen c.loop-made.link).past
      (all_made c.loop-made.made c.args.limit c.loop-made-test.false c.loop-made.auto.made-end)
      c.stop_of-2.ensures.in_memory c.loop-made.invariant.turned;
  forgets_nothing = c.loop-made.invariant.driven.keeps;
  stops_for_its_reason = search rules;
  limit = search rules;
  within = search rules;
  calmly = λ settling. record {
    settles = λ enough memory.
        let l = c.the_laws_below_hold.ensures in
        let client = c.args.client.now in
        let made = all_made c.loop-made.made c.args.limit c.loop-made-test.false c.loop-made.auto.made-end in
        let near =
        subst (λ n. Nearer client c.loop-made.client (g.L.Link.seen c.args.link.now) (g.L.Link.seen c.loop-made.link)
        n) made (c.loop-made.invariant.driven.near settling) in
        let end =
        nearer_limit l client c.loop-made.client (g.L.Link.seen c.args.link.now) (g.L.Link.seen c.loop-made.link)
        c.args.limit c.a_client_has_a_lawful_plan.ensures settling enough near in
        let few = l.settling.bounded (g.L.Link.seen c.args.link.now).past.room client.keys
        (g.L.Link.seen c.args.link.now).past.objects client.knowns c.a_client_has_a_lawful_plan.ensures
        settling.ready in (
          finished_stop c.loop-made.client.keys c.loop-made.client.knowns c.stop_of-2.result end.1
              c.stop_of-2.ensures.in_memory c.stop_of-2.ensures.stops_for_its_reason,
          omega (arith, end.0),
          λ one. end.0,
          omega (arith, end.0, few),
        );
    calm = λ memory.
        let made = all_made c.loop-made.made c.args.limit c.loop-made-test.false c.loop-made.auto.made-end in
        subst (λ n. Nearer c.args.client.now c.loop-made.client (g.L.Link.seen c.args.link.now)
        (g.L.Link.seen c.loop-made.link) n) made
        (c.loop-made.invariant.driven.near settling);
  };
  finishes = λ start enough memory.
      let l = c.the_laws_below_hold.ensures in
      let client = c.args.client.now in
      let settling = (untouched_settles l client (g.L.Link.seen c.args.link.now) c.a_client_has_a_lawful_plan.ensures
      start).0 in
      let made = all_made c.loop-made.made c.args.limit c.loop-made-test.false c.loop-made.auto.made-end in
      let near =
      subst (λ n. Nearer client c.loop-made.client (g.L.Link.seen c.args.link.now) (g.L.Link.seen c.loop-made.link) n)
      made (c.loop-made.invariant.driven.near settling) in
      let end =
      nearer_limit l client c.loop-made.client (g.L.Link.seen c.args.link.now) (g.L.Link.seen c.loop-made.link)
      c.args.limit c.a_client_has_a_lawful_plan.ensures settling enough near in
      let done =
      completed l client c.loop-made.client (g.L.Link.seen c.args.link.now) (g.L.Link.seen c.loop-made.link)
      c.args.limit c.a_client_has_a_lawful_plan.ensures start near.settling
      c.loop-made.invariant.driven.keeps.keys_stay (omega (arith, end.0)) (λ one. end.0) end.1 in (
        finished_stop c.loop-made.client.keys c.loop-made.client.knowns c.stop_of-2.result end.1
            c.stop_of-2.ensures.in_memory c.stop_of-2.ensures.stops_for_its_reason,
        done.0,
        done.1,
        done.2,
      );
  honest = c.loop-made.invariant.driven.honest_still;
  counts = c.loop-made.invariant.counts;
  ended = λ names honest. c.loop-made.invariant.ended names honest;
  followed = λ memory. c.loop-made.invariant.followed;
}

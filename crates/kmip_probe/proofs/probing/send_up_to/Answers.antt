-- Each turn is one exchange without a reply.
use Rattle.std.proofs.Common.{◌≡◌, refl, sym, subst, arith}
use Rattle.kmip_probe.specs.Private.{HasLost}
use Rattle.kmip_probe.proofs.PuttingLemmas.{few_by, lost_few, lost_more, no_calm_loss, none_lost, none_put, put_over}
use Rattle.kmip_probe.proofs.probing.send_up_to.Goals as goal

pub loop-turn-init : goal.loop-turn-init
loop-turn-init g c = record {
  honestly = λ names honest. (honest, none_lost c.args.message.now (g.L.Link.seen c.args.link.now).past);
  calmly = λ names calm. (calm, refl, refl);
}

pub returns-in-Ok-Some-clause-put : goal.returns-in-Ok-Some-clause-put
returns-in-Ok-Some-clause-put g c = λ names honest.
    let (before, lost) = c.loop-turn.invariant.honestly names honest in
    let (still, exchanged) = (c.exchange-answered.ensures.honestly names before).honest in
    let is = rw c.in-Ok-Some.field-0-is at c.in-Ok-Some.ensures in (
      still,
      put_over c.the_laws_of_exchanges_hold.ensures.requests_stay names (g.L.Link.seen c.args.link.now).past
          (g.L.Link.seen c.loop-turn.link).past (g.L.Link.seen c.exchange-answered.new.self).past c.args.message.now
          c.in-Ok-Some.reply.items c.loop-turn._turn c.args.most _ lost exchanged (sym is)
          (omega (arith, c.loop-turn-test.true)),
    )

pub returns-in-Ok-Some-clause-few : goal.returns-in-Ok-Some-clause-few
returns-in-Ok-Some-clause-few g c = λ names honest.
    let (before, lost) = c.loop-turn.invariant.honestly names honest in
    let once = few_by c.the_laws_of_exchanges_hold.ensures.requests_stay names (g.L.Link.seen c.loop-turn.link).past
    (g.L.Link.seen c.exchange-answered.new.self).past c.args.message.now _
    (c.exchange-answered.ensures.honestly names before).honest.1 in
    omega (arith, once, lost_few _ _ _ _ lost, c.loop-turn-test.true)

pub loop-turn-preserved : goal.loop-turn-preserved
loop-turn-preserved g c =
    let is = rw c.in-Ok-None.field-0-is at c.in-Ok-None.ensures in
    record {
      honestly = λ names honest.
          let (before, lost) = c.loop-turn.invariant.honestly names honest in
          let (still, exchanged) = (c.exchange-answered.ensures.honestly names before).honest in (
            still,
            lost_more c.the_laws_of_exchanges_hold.ensures.requests_stay names (g.L.Link.seen c.args.link.now).past
                (g.L.Link.seen c.loop-turn.link).past (g.L.Link.seen c.exchange-answered.new.self).past
                c.args.message.now
                c.loop-turn._turn _ lost exchanged (sym is),
          );
      calmly = λ names calm.
          let before = (c.loop-turn.invariant.calmly names calm).0 in
          absurd (no_calm_loss names (g.L.Link.seen c.loop-turn.link).past
          (g.L.Link.seen c.exchange-answered.new.self).past c.args.message.now _
          (c.exchange-answered.ensures.calmly names before).calm.1 (sym is));
    }

pub returns-clause-put : goal.returns-clause-put
returns-clause-put g c = λ names honest.
    let (still, lost) = c.loop-turn.invariant.honestly names honest in
    let all : c.loop-turn._turn ≡ c.args.most = omega (arith, c.loop-turn-test.false, c.loop-turn.auto._turn-end) in (
      still,
      none_put (g.L.Link.seen c.args.link.now).past (g.L.Link.seen c.loop-turn.link).past c.args.message.now
          c.args.most c.requires
          (subst (λ n. HasLost c.args.message.now n (g.L.Link.seen c.args.link.now).past
          (g.L.Link.seen c.loop-turn.link).past) all lost),
    )

-- Each try sends one message more; over a calm link the first one is enough.
use Rattle.std.proofs.Common.{◌≡◌, ◌+◌, true, false, sym, subst, ap, ◌∙◌, arith}
use Rattle.std.specs.List.{AllZip, list_any}
use Rattle.std.proofs.lemmas.List.Elements.{All-contains_itself}
use Rattle.std.proofs.lemmas.Result.{err_from_is_err_and}
use Rattle.kmip_look.specs.PrivateAsking.{is_asked}
use Rattle.kmip_look.specs.declared.looking.TheConstants.{MOST_TRIES}
use Rattle.kmip_look.proofs.PastLemmas.{goes_nowhere, goes_on, sends_none, sends_on, sends_within, tried_all, tried_idle, tried_more, tried_none, tried_stopped}
use Rattle.kmip_look.specs.PrivateTrying.{IsTriedAt}
use Rattle.kmip_look.proofs.SoundLemmas.{keeps_still, keeps_twice}
use Rattle.kmip_look.proofs.TriedLemmas.{idle_tried, not_false}
use Rattle.kmip_look.proofs.looking.ask_part.Goals as goal

pub loop-tried-init : goal.loop-tried-init
loop-tried-init g c = record {
  shaped = c.requires.shaped;
  honest = λ names honest. (
    honest,
    λ plan planned. sends_none plan c.args.mark.now 0 (g.L.Link.seen c.args.link.now).past,
    goes_nowhere names c.args.mark.now c.args.keys.now c.args.lookeds.now.items (g.L.Link.seen c.args.link.now).past,
  );
  calm = λ names calm. (calm, tried_none c.args.part c.args.keys.now c.args.lookeds.now.items (g.L.Link.seen c.args.link.now).past);
  sound = keeps_still c.args.mark.now (g.L.Link.seen c.args.link.now);
  tried = λ names honest start at. at;
}

pub ask_once-requires : goal.ask_once-requires
ask_once-requires g c = record {
  many = c.requires.many;
  short = c.requires.short;
  fit = c.requires.fit;
  shaped = c.loop-tried.invariant.shaped;
}

pub loop-tried-preserved : goal.loop-tried-preserved
loop-tried-preserved g c =
    let part = c.args.part in
    let tried = c.loop-tried.tried in
    let mark = c.args.mark.now in
    let keys = c.args.keys.now in
    let olds = c.args.lookeds.now.items in
    let nows = c.loop-tried.lookeds.items in
    let news = c.ask_once.new.lookeds.items in
    let start = (g.L.Link.seen c.args.link.now).past in
    let now = (g.L.Link.seen c.loop-tried.link).past in
    let new = (g.L.Link.seen c.ask_once.new.link).past in
    let any : list_any (is_asked part) nows ≡ true =
    ap (list_any (is_asked part)) (sym c.as_slice.ensures.value) ∙ sym c.is_any_asked.ensures ∙ c.if-not-is_any_asked.false in
    let once = c.in_ok-ask_once.ensures in
    record {
      shaped = once.shaped;
      honest = λ names honest.
          let (before, sends, goes) = c.loop-tried.invariant.honest names honest in
          let more = once.honestly names before in (
            more.still,
            λ plan planned. sends_on plan mark tried 1 (tried + 1) start now new (omega arith) (sends plan planned) (more.few plan planned),
            goes_on names mark keys olds nows news start now new goes more.goes,
          );
      calm = λ names calm.
          let (before, so_far) = c.loop-tried.invariant.calm names calm in
          let more = once.calmly names before in
          let sends = (once.honestly names ((g.L.Link.seen c.loop-tried.link).calm_is_honest names before)).few in (
            more.still,
            tried_more part tried keys mark olds nows news start now new any so_far more.comes (sends keys (All-contains_itself keys)),
          );
      sound = keeps_twice c.args.mark.now (g.L.Link.seen c.args.link.now) (g.L.Link.seen c.loop-tried.link)
          (g.L.Link.seen c.ask_once.new.link) c.loop-tried.invariant.sound once.sound;
      tried = λ names honest first at. once.tried names (c.loop-tried.invariant.honest names honest).0 first tried (c.loop-tried.invariant.tried names honest first at);
    }

-- nothing is left to ask
pub returns-then-not-is_any_asked : goal.returns-then-not-is_any_asked
returns-then-not-is_any_asked g c =
    let part = c.args.part in
    let tried = c.loop-tried.tried in
    let mark = c.args.mark.now in
    let keys = c.args.keys.now in
    let olds = c.args.lookeds.now.items in
    let nows = c.loop-tried.lookeds.items in
    let start = (g.L.Link.seen c.args.link.now).past in
    let now = (g.L.Link.seen c.loop-tried.link).past in
    let idle : list_any (is_asked part) nows ≡ false =
    ap (list_any (is_asked part)) (sym c.as_slice.ensures.value) ∙ sym c.is_any_asked.ensures ∙ c.if-not-is_any_asked.true in
    record {
      shaped = c.loop-tried.invariant.shaped;
      honestly = λ names honest.
          let (before, sends, goes) = c.loop-tried.invariant.honest names honest in
          record {
            still = before;
            few = λ plan planned. sends_within plan mark tried MOST_TRIES start now (omega (arith, c.loop-tried-test.true)) (sends plan planned);
            goes = goes;
          };
      calmly = λ names calm.
          let (before, so_far) = c.loop-tried.invariant.calm names calm in
          record { still = before; comes = tried_idle part tried keys olds nows start now idle so_far };
      stops = λ no. absurd cc;
      sound = c.loop-tried.invariant.sound;
      tried = λ names honest goes first at. idle_tried part tried MOST_TRIES mark keys nows first now idle (c.loop-tried.invariant.tried names honest first at);
    }

-- memory ran out
pub returns-in_err-ask_once : goal.returns-in_err-ask_once
returns-in_err-ask_once g c =
    let tried = c.loop-tried.tried in
    let mark = c.args.mark.now in
    let start = (g.L.Link.seen c.args.link.now).past in
    let now = (g.L.Link.seen c.loop-tried.link).past in
    let new = (g.L.Link.seen c.ask_once.new.link).past in
    let fault = err_from_is_err_and c.from_residual.result c.from_residual.ensures.1 in
    rw fault.1 (record {
      shaped = tt;
      honestly = λ names honest.
          let (before, sends, goes) = c.loop-tried.invariant.honest names honest in
          let more = c.ask_once.ensures.honestly names before in
          record {
            still = more.still;
            few = λ plan planned.
                sends_on plan mark tried 1 MOST_TRIES start now new (omega (arith, c.loop-tried-test.true)) (sends plan planned) (more.few plan planned);
            goes = tt;
          };
      calmly = λ names calm.
          let (before, so_far) = c.loop-tried.invariant.calm names calm in
          record { still = (c.ask_once.ensures.calmly names before).still; comes = tt };
      stops = λ no. absurd cc;
      sound = keeps_twice c.args.mark.now (g.L.Link.seen c.args.link.now) (g.L.Link.seen c.loop-tried.link)
          (g.L.Link.seen c.ask_once.new.link) c.loop-tried.invariant.sound c.ask_once.ensures.sound;
      tried = λ names honest. tt;
    })

-- each try was made
pub returns : goal.returns
returns g c =
    let part = c.args.part in
    let tried = c.loop-tried.tried in
    let mark = c.args.mark.now in
    let keys = c.args.keys.now in
    let olds = c.args.lookeds.now.items in
    let nows = c.loop-tried.lookeds.items in
    let start = (g.L.Link.seen c.args.link.now).past in
    let now = (g.L.Link.seen c.loop-tried.link).past in
    record {
      shaped = c.loop-tried.invariant.shaped;
      honestly = λ names honest.
          let (before, sends, goes) = c.loop-tried.invariant.honest names honest in
          record {
            still = before;
            few = λ plan planned. sends_within plan mark tried MOST_TRIES start now (omega (arith, c.loop-tried.auto.tried-end)) (sends plan planned);
            goes = goes;
          };
      calmly = λ names calm.
          let (before, so_far) = c.loop-tried.invariant.calm names calm in
          record {
            still = before;
            comes = tried_all part tried keys olds nows start now (omega (arith, c.loop-tried-test.false)) so_far;
          };
      stops = λ no. absurd cc;
      sound = c.loop-tried.invariant.sound;
      tried = λ names honest goes first at.
          let all : tried ≡ MOST_TRIES = omega (arith, c.loop-tried-test.false, c.loop-tried.auto.tried-end) in
          subst (λ n. AllZip (IsTriedAt part n mark first now) keys nows) all (c.loop-tried.invariant.tried names honest first at);
    }

-- the pause said no
pub returns-then-not-again : goal.returns-then-not-again
returns-then-not-again g c =
    let part = c.args.part in
    let tried = c.loop-tried.tried in
    let mark = c.args.mark.now in
    let keys = c.args.keys.now in
    let olds = c.args.lookeds.now.items in
    let nows = c.loop-tried.lookeds.items in
    let start = (g.L.Link.seen c.args.link.now).past in
    let now = (g.L.Link.seen c.loop-tried.link).past in
    let any : list_any (is_asked part) nows ≡ true =
    ap (list_any (is_asked part)) (sym c.as_slice.ensures.value) ∙ sym c.is_any_asked.ensures ∙ c.if-not-is_any_asked.false in
    record {
      shaped = c.loop-tried.invariant.shaped;
      honestly = λ names honest.
          let (before, sends, goes) = c.loop-tried.invariant.honest names honest in
          record {
            still = before;
            few = λ plan planned. sends_within plan mark tried MOST_TRIES start now (omega (arith, c.loop-tried-test.true)) (sends plan planned);
            goes = goes;
          };
      calmly = λ names calm.
          let (before, so_far) = c.loop-tried.invariant.calm names calm in
          record { still = before; comes = tried_stopped part tried keys olds nows start now any (omega arith) so_far };
      stops = λ no. not_false (g.P.Pause.has_given_up c.again.new.self) (sym c.again.ensures ∙ c.if-not-again.true);
      sound = c.loop-tried.invariant.sound;
      tried = λ names honest goes. absurd cc;
    }

-- One part after the other.
use Rattle.std.proofs.Common.{Ok, ap, ◌∙◌, subst, arith}
use Rattle.std.proofs.lemmas.Result.{err_from_is_err_and}
use Rattle.kmip_look.specs.PrivateKeeping.{GoesThrough, one_part}
use Rattle.kmip_look.specs.declared.part.Part.TheVariants.{Find}
use Rattle.kmip_look.specs.declared.looking.TheConstants.{MOST_TRIES}
use Rattle.kmip_look.proofs.PastLemmas.{goes_on, if_ok, on_ok, sends_on, sends_within, through_both, through_first}
use Rattle.kmip_look.proofs.SoundLemmas.{keeps_twice}
use Rattle.kmip_look.proofs.looking.ask_group.Goals as goal

-- memory ran out in the first part
pub returns-in_err-goes_on : goal.returns-in_err-goes_on
returns-in_err-goes_on g c =
    let old = (g.L.Link.seen c.args.link.now).past in
    let new = (g.L.Link.seen c.ask_part.new.link).past in
    let fault = err_from_is_err_and c.from_residual.result c.from_residual.ensures.1 in
    rw fault.1 (record {
      shaped = tt;
      honestly = λ names honest.
          let first = c.ask_part.ensures.honestly names honest in
          record {
            still = first.still;
            few = λ plan planned. sends_within plan c.args.mark.now MOST_TRIES 8 old new (omega arith) (first.few plan planned);
            goes = tt;
          };
      calmly = λ names calm. record { still = (c.ask_part.ensures.calmly names calm).still; comes = tt };
      stops = λ no. absurd cc;
      sound = c.ask_part.ensures.sound;
      tried = λ names honest. tt;
    })

-- no more may be asked after the first part
pub returns-then-not-goes_on : goal.returns-then-not-goes_on
returns-then-not-goes_on g c =
    let keys = c.args.keys.now in
    let olds = c.args.lookeds.now.items in
    let news = c.ask_part.new.lookeds.items in
    let old = (g.L.Link.seen c.args.link.now).past in
    let new = (g.L.Link.seen c.ask_part.new.link).past in
    record {
      shaped = c.in_ok-goes_on.ensures.shaped;
      honestly = λ names honest.
          let first = c.in_ok-goes_on.ensures.honestly names honest in
          record {
            still = first.still;
            few = λ plan planned. sends_within plan c.args.mark.now MOST_TRIES 8 old new (omega arith) (first.few plan planned);
            goes = first.goes;
          };
      calmly = λ names calm.
          let first = c.in_ok-goes_on.ensures.calmly names calm in
          record {
            still = first.still;
            comes = through_first keys olds news old new
                (subst (λ b. GoesThrough (one_part Find) keys olds news b old new) c.if-not-goes_on.true first.comes);
          };
      stops = λ no. c.ask_part.ensures.stops (c.in_ok-goes_on.was ∙ ap Ok c.if-not-goes_on.true);
      sound = c.in_ok-goes_on.ensures.sound;
      tried = λ names honest goes. absurd cc;
    }

-- both parts
pub returns : goal.returns
returns g c =
    let keys = c.args.keys.now in
    let mark = c.args.mark.now in
    let olds = c.args.lookeds.now.items in
    let mids = c.ask_part.new.lookeds.items in
    let news = c.ask_part-2.new.lookeds.items in
    let old = (g.L.Link.seen c.args.link.now).past in
    let mid = (g.L.Link.seen c.ask_part.new.link).past in
    let new = (g.L.Link.seen c.ask_part-2.new.link).past in
    record {
      shaped = c.ask_part-2.ensures.shaped;
      honestly = λ names honest.
          let first = c.in_ok-goes_on.ensures.honestly names honest in
          let second = c.ask_part-2.ensures.honestly names first.still in
          record {
            still = second.still;
            few = λ plan planned.
                sends_on plan mark MOST_TRIES MOST_TRIES 8 old mid new (omega arith) (first.few plan planned) (second.few plan planned);
            goes = on_ok c.ask_part-2.result (λ on. goes_on names mark keys olds mids news old mid new first.goes on) second.goes;
          };
      calmly = λ names calm.
          let first = c.in_ok-goes_on.ensures.calmly names calm in
          let second = c.ask_part-2.ensures.calmly names first.still in
          record {
            still = second.still;
            comes = if_ok c.ask_part-2.result
                (λ may on. through_both keys olds mids news may old mid new
                (subst (λ b. GoesThrough (one_part Find) keys olds mids b old mid) c.if-not-goes_on.false first.comes) on)
                second.comes;
          };
      stops = c.ask_part-2.ensures.stops;
      sound = keeps_twice mark (g.L.Link.seen c.args.link.now) (g.L.Link.seen c.ask_part.new.link)
          (g.L.Link.seen c.ask_part-2.new.link) c.in_ok-goes_on.ensures.sound c.ask_part-2.ensures.sound;
      tried = λ names honest.
          let first = c.in_ok-goes_on.ensures.tried names honest in
          let second = c.ask_part-2.ensures.tried names (c.in_ok-goes_on.ensures.honestly names honest).still in
          if_ok c.ask_part-2.result (λ may on goes start at. on goes start (first c.if-not-goes_on.false start at)) second;
    }

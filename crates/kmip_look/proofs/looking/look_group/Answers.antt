-- A group is asked about where more may be asked, and else left.
use Rattle.std.proofs.Common.{Ok, ap, ◌∙◌}
use Rattle.std.proofs.lemmas.Result.{err_from_is_err_and}
use Rattle.kmip_look.proofs.GroupLemmas.{group_asked, group_calm, group_idle, group_left}
use Rattle.kmip_look.proofs.PastLemmas.{sends_none, shaped_many, unasked_at}
use Rattle.kmip_look.proofs.SoundLemmas.{keeps_still}
use Rattle.kmip_look.proofs.TriedLemmas.{untried}
use Rattle.kmip_look.proofs.looking.look_group.Goals as goal

pub ask_group-requires : goal.ask_group-requires
ask_group-requires g c = record {
  many = c.requires.many;
  short = c.requires.mark;
  fit = c.requires.fit;
  shaped = unasked_at c.args.keys.now c.in_ok-lookeds.lookeds.items c.in_ok-lookeds.ensures.as_many c.in_ok-lookeds.ensures.unasked;
}

pub returns-in_err-lookeds-clause-honestly : goal.returns-in_err-lookeds-clause-honestly
returns-in_err-lookeds-clause-honestly g c = λ names honest.
    let fault = err_from_is_err_and c.from_residual.result c.from_residual.ensures.1 in
    rw fault.1 (honest, λ plan planned. sends_none plan c.args.mark.now 8 (g.L.Link.seen c.args.link.now).past, tt)

pub returns-in_err-lookeds-clause-calmly : goal.returns-in_err-lookeds-clause-calmly
returns-in_err-lookeds-clause-calmly g c = λ names calm.
    let fault = err_from_is_err_and c.from_residual.result c.from_residual.ensures.1 in rw fault.1 (calm, tt)

pub returns-then-not-goes_on-clause-honestly : goal.returns-then-not-goes_on-clause-honestly
returns-then-not-goes_on-clause-honestly g c = λ names honest. (
  honest,
  λ plan planned. sends_none plan c.args.mark.now 8 (g.L.Link.seen c.args.link.now).past,
  group_left names c.args.mark.now c.args.keys.now c.in_ok-lookeds.lookeds.items (g.L.Link.seen c.args.link.now).past c.in_ok-lookeds.ensures.as_many
      c.in_ok-lookeds.ensures.unasked,
)

pub returns-then-not-goes_on-clause-calmly : goal.returns-then-not-goes_on-clause-calmly
returns-then-not-goes_on-clause-calmly g c = λ names calm.
    (calm, group_idle c.args.keys.now c.in_ok-lookeds.lookeds.items c.args.goes_on.now (g.L.Link.seen c.args.link.now).past c.if-not-goes_on.true)

pub returns-in_err-more-clause-honestly : goal.returns-in_err-more-clause-honestly
returns-in_err-more-clause-honestly g c = λ names honest.
    let all = c.ask_group.ensures.honestly names honest in
    let fault = err_from_is_err_and c.from_residual-in_err-more.result c.from_residual-in_err-more.ensures.1 in rw fault.1 (all.still, all.few, tt)

pub returns-in_err-more-clause-calmly : goal.returns-in_err-more-clause-calmly
returns-in_err-more-clause-calmly g c = λ names calm.
    let all = c.ask_group.ensures.calmly names calm in
    let fault = err_from_is_err_and c.from_residual-in_err-more.result c.from_residual-in_err-more.ensures.1 in rw fault.1 (all.still, tt)

pub returns-clause-as_many : goal.returns-clause-as_many
returns-clause-as_many g c = shaped_many c.args.keys.now c.ask_group.new.lookeds.items c.in_ok-more.ensures.shaped

pub returns-clause-honestly : goal.returns-clause-honestly
returns-clause-honestly g c = λ names honest.
    let all = c.in_ok-more.ensures.honestly names honest in (
      all.still,
      all.few,
      group_asked names c.args.mark.now c.args.keys.now c.in_ok-lookeds.lookeds.items c.ask_group.new.lookeds.items (g.L.Link.seen c.args.link.now).past
          (g.L.Link.seen c.ask_group.new.link).past c.in_ok-lookeds.ensures.as_many c.in_ok-lookeds.ensures.unasked all.goes,
    )

pub returns-clause-calmly : goal.returns-clause-calmly
returns-clause-calmly g c = λ names calm.
    let all = c.in_ok-more.ensures.calmly names calm in (
      all.still,
      group_calm c.args.keys.now c.in_ok-lookeds.lookeds.items c.ask_group.new.lookeds.items c.args.goes_on.now c.in_ok-more.more
          (g.L.Link.seen c.args.link.now).past (g.L.Link.seen c.ask_group.new.link).past c.in_ok-lookeds.ensures.as_many c.in_ok-lookeds.ensures.unasked all.comes,
    )

pub returns-clause-tried : goal.returns-clause-tried
returns-clause-tried g c = λ names honest goes.
    c.in_ok-more.ensures.tried names honest goes (g.L.Link.seen c.args.link.now).past
    (untried c.args.mark.now c.args.keys.now c.in_ok-lookeds.lookeds.items (g.L.Link.seen c.args.link.now).past c.in_ok-lookeds.ensures.as_many c.in_ok-lookeds.ensures.unasked)

pub returns-clause-stops : goal.returns-clause-stops
returns-clause-stops g c = λ before no. c.ask_group.ensures.stops (c.in_ok-more.was ∙ ap Ok no)

pub returns-in_err-lookeds-clause-sound : goal.returns-in_err-lookeds-clause-sound
returns-in_err-lookeds-clause-sound g c = keeps_still c.args.mark.now (g.L.Link.seen c.args.link.now)

pub returns-then-not-goes_on-clause-sound : goal.returns-then-not-goes_on-clause-sound
returns-then-not-goes_on-clause-sound g c = keeps_still c.args.mark.now (g.L.Link.seen c.args.link.now)

pub returns-in_err-more-clause-sound : goal.returns-in_err-more-clause-sound
returns-in_err-more-clause-sound g c = c.ask_group.ensures.sound

pub returns-clause-sound : goal.returns-clause-sound
returns-clause-sound g c = c.in_ok-more.ensures.sound

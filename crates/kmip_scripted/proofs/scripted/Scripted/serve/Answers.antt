-- Each question of the message is a move.
use Rattle.std.proofs.Common.{ap}
use Rattle.kmip_scripted.specs.PrivateEarly.{asked_only}
use Rattle.kmip_scripted.proofs.ArrivalLemmas.{half_is_delivered, scene_is_delivered, scene_is_taken}
use Rattle.kmip_scripted.proofs.scripted.Scripted.serve.Goals as goal

pub returns-in_err-log-clause-delivered : goal.returns-in_err-log-clause-delivered
returns-in_err-log-clause-delivered g c = λ names asked.
    half_is_delivered c.the_laws_below_hold.ensures names c.args.message.now c.args.self.now c.log.new.self
    c.in_err-log.ensures.begun c.log.ensures.lawful asked

pub returns-clause-taken : goal.returns-clause-taken
returns-clause-taken g c = λ asked.
    scene_is_taken c.the_laws_below_hold.ensures c.args.message.now c.args.self.now c.log.new.self
    c.in_ok-log.ensures.served c.log.ensures.lawful c.in_ok-log.ensures.ok asked

pub returns-clause-delivered : goal.returns-clause-delivered
returns-clause-delivered g c = λ names asked.
    scene_is_delivered c.the_laws_below_hold.ensures names c.args.message.now c.args.self.now c.log.new.self
    c.in_ok-log.ensures.served c.log.ensures.lawful c.in_ok-log.ensures.ok asked

pub returns-clause-early : goal.returns-clause-early
returns-clause-early g c = λ names asked was.
    scene_is_delivered c.the_laws_below_hold.ensures names c.args.message.now (asked_only asked c.args.self.now)
    (asked_only asked c.log.new.self) c.in_ok-log.ensures.served
    c.log.ensures.lawful (ap (asked_only asked) c.in_ok-log.ensures.ok) was

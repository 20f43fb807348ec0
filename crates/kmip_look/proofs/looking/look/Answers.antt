-- The keys of the plan are looked at.
use Rattle.std.proofs.Common.{IfOk, subst}
use Rattle.std.specs.List.{AllZip}
use Rattle.kmip_look.specs.Looks.{IsTried, Looks}
use Rattle.kmip_look.proofs.looking.look.Goals as goal

pub returns-clause-looks : goal.returns-clause-looks
returns-clause-looks g c =
    subst (λ keys. Looks (λ v. v.items) keys c.args.mark.now (g.L.Link.seen c.args.link.now) c.look_at_keys.result (g.L.Link.seen c.look_at_keys.new.link))
    c.keys.ensures.value c.look_at_keys.ensures.looks

pub returns-clause-tried : goal.returns-clause-tried
returns-clause-tried g c = λ names honest patient.
    subst
    (λ keys. IfOk c.look_at_keys.result (λ v. AllZip (IsTried c.args.mark.now (g.L.Link.seen c.args.link.now).past (g.L.Link.seen c.look_at_keys.new.link).past) keys v.items))
    c.keys.ensures.value (c.look_at_keys.ensures.tried names honest patient)

pub returns-clause-sound : goal.returns-clause-sound
returns-clause-sound g c = c.look_at_keys.ensures.sound

-- The report of what was seen is appended, or memory ran out.
use Rattle.std.proofs.Common.{Ok, Err, IfOk, rules, subst}
use Rattle.std.specs.List.{AllZip}
use Rattle.kmip_look.specs.Looks.{IsTried, Looks}
use Rattle.kmip_look_command.proofs.LookLemmas.{looks_lack, looks_list}
use Rattle.kmip_look_command.proofs.running.push_look.Goals as goal

pub returns-in-Ok-clause-report : goal.returns-in-Ok-clause-report
returns-in-Ok-clause-report g c = record {
  looked = Ok c.in-Ok.lookeds.items;
  looks =
      looks_list _ _ _ _ _ _
      (subst (λ r. Looks (λ v. v.items) c.args.plan.now c.args.input.now.mark.now (g.L.Link.seen c.args.link.now) r (g.L.Link.seen c.look.new.link)) c.in-Ok.is c.look.ensures.looks);
  tried = λ names honest patient.
      subst
      (λ r. IfOk r (λ v. AllZip (IsTried c.args.input.now.mark.now (g.L.Link.seen c.args.link.now).past (g.L.Link.seen c.look.new.link).past) c.args.plan.now v.items))
      c.in-Ok.is (c.look.ensures.tried names honest patient);
  whole = search (rules, c.push_looked.ensures.text, c.push_looked.ensures.refused, c.keys.ensures, c.as_slice.ensures.value);
}

pub returns-in-Err-clause-report : goal.returns-in-Err-clause-report
returns-in-Err-clause-report g c = record {
  looked = Err c.in-Err.field-0;
  looks =
      looks_lack _ _ _ _ _ _
      (subst (λ r. Looks (λ v. v.items) c.args.plan.now c.args.input.now.mark.now (g.L.Link.seen c.args.link.now) r (g.L.Link.seen c.look.new.link)) c.in-Err.is c.look.ensures.looks);
  tried = λ names honest patient. tt;
  whole = tt;
}

-- The earlier plan is what was read.
use Rattle.std.proofs.Common.{◌↔◌, IfOk, IsTrue, subst, sym}
use Rattle.kmip_plan_report.specs.Checking.{IsRefusedAfter}
use Rattle.kmip_plan_report.proofs.checking_after.push_check_after.Goals as goal

pub returns-in-Ok-clause-refused : goal.returns-in-Ok-clause-refused
returns-in-Ok-clause-refused c =
    subst (λ read. IfOk c.push_comparison.result (λ r. IsTrue r ↔ IsRefusedAfter c.args.plan.now read)) (sym c.in-Ok.ensures.exact) c.push_comparison.ensures.refused

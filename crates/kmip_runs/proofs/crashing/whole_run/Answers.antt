-- As a run of a campaign, with nothing carried over.
use Rattle.std.proofs.Common.{◌≡◌, ◌∙◌, [], None, refl, subst, sym}
use Rattle.std.proofs.lemmas.Result.{err_from_is_err_and}
use Rattle.kmip_runs.specs.PrivateCrashes.{CrashStage, CrashesOne}
use Rattle.kmip_runs.proofs.CrashingRunsLemmas.{whole_off, whole_on, whole_one}
use Rattle.kmip_runs.proofs.crashing.whole_run.Goals as goal

pub returns-in_err-one_run : goal.returns-in_err-one_run
returns-in_err-one_run g c =
    let keys = c.args.plan.now in
    let old : CrashStage = record {
      client = c.args.client.now;
      link = g.L.Link.seen c.args.link.now;
      end = c.args.end.now;
    } in
    let new : CrashStage = record {
      client = c.one_run.new.client;
      link = g.L.Link.seen c.one_run.new.link;
      end = record c.args.end.now { campaign = c.one_run.new.end };
    } in
    let none : c.as_slice.result.now ≡ [] = c.as_slice.ensures.value ∙ c.new-nothing.ensures.items in
    let one = whole_one c.the_laws_below_hold.ensures keys c.as_slice.result.now c.args.run old new c.one_run.result _
    c.a_plan_is_lawful.ensures none refl c.one_run.ensures in
    let result = c.from_residual.result in
    let fault = err_from_is_err_and result c.from_residual.ensures.1 in
    subst (λ r. CrashesOne keys (record { run = c.args.run; crash = None }) old r new
    (g.L.Link.follows c.args.link.now c.one_run.new.link)) (sym fault.1)
    (whole_off keys c.args.run old new c.one_run.result c.in_err-one_run.field-0.0 fault.0 _ c.in_err-one_run.was
    fault.2 one)

pub returns : goal.returns
returns g c =
    let keys = c.args.plan.now in
    let old : CrashStage = record {
      client = c.args.client.now;
      link = g.L.Link.seen c.args.link.now;
      end = c.args.end.now;
    } in
    let new : CrashStage = record {
      client = c.one_run.new.client;
      link = g.L.Link.seen c.one_run.new.link;
      end = record c.args.end.now { campaign = c.one_run.new.end };
    } in
    let none : c.as_slice.result.now ≡ [] = c.as_slice.ensures.value ∙ c.new-nothing.ensures.items in
    let one = whole_one c.the_laws_below_hold.ensures keys c.as_slice.result.now c.args.run old new c.one_run.result _
    c.a_plan_is_lawful.ensures none refl c.one_run.ensures in
    whole_on keys c.args.run old new c.one_run.result c.in_ok-one_run.field-0 _ c.in_ok-one_run.was one

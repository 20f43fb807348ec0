-- All that is reported was reached, so what is sound is safe.
use Rattle.std.proofs.Common.{refl, rules}
use Rattle.kmip_runs.proofs.CrashingRunsLemmas.{crashes_well}
use Rattle.kmip_runs.proofs.crashing.campaign_with_crashes.Goals as goal

pub returns-in-Ok : goal.returns-in-Ok
returns-in-Ok g c =
    let old = g.L.Link.seen c.args.link.now in
    let new = g.L.Link.seen c.crash_each.new.link in
    let each = c.in-Ok.ensures in
    record {
      well = λ good. crashes_well c.the_laws_below_hold.ensures c.args.plan.now old new c.crash_each.new.end _
          c.a_plan_is_lawful.ensures refl refl refl (each.well good);
      honest = each.honest;
      last = each.last;
      until = each.until;
      made = each.made;
      no_more = λ is allowed. c.in-Ok.ensures.no_more;
      refused = λ is. absurd cc;
      refused_so = λ is. absurd cc;
      complete = λ is allowed. c.in-Ok.ensures.complete;
      followed = λ is. each.followed (λ so. absurd cc);
    }

pub returns-in-Err-NoMemory : goal.returns-in-Err-NoMemory
returns-in-Err-NoMemory g c =
    let old = g.L.Link.seen c.args.link.now in
    let new = g.L.Link.seen c.crash_each.new.link in
    let each = c.crash_each.ensures in
    record {
      well = λ good. crashes_well c.the_laws_below_hold.ensures c.args.plan.now old new c.crash_each.new.end _
          c.a_plan_is_lawful.ensures refl refl refl (each.well good);
      honest = each.honest;
      last = each.last;
      until = each.until;
      made = each.made;
      no_more = λ is. absurd cc;
      refused = λ is. absurd cc;
      refused_so = λ is. absurd cc;
      complete = λ is. absurd cc;
      followed = λ is. absurd cc;
    }

pub returns-in-Err-Refused : goal.returns-in-Err-Refused
returns-in-Err-Refused g c =
    let old = g.L.Link.seen c.args.link.now in
    let new = g.L.Link.seen c.crash_each.new.link in
    let each = c.crash_each.ensures in
    record {
      well = λ good. crashes_well c.the_laws_below_hold.ensures c.args.plan.now old new c.crash_each.new.end _
          c.a_plan_is_lawful.ensures refl refl refl (each.well good);
      honest = each.honest;
      last = each.last;
      until = each.until;
      made = each.made;
      no_more = λ is allowed. absurd cc;
      refused = λ is. each.refused (search rules);
      refused_so = λ is. each.refused_so (search rules);
      complete = λ is allowed. absurd cc;
      followed = λ is. each.followed (λ so. absurd cc);
    }

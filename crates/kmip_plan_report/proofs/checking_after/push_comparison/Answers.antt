-- The lines of the keys, and the last line. Which of two plans is compared with which.
use Rattle.std.proofs.Common.{Bool, true, None, Ok, not, rules}
use Rattle.kmip_ttlv.specs.declared.no_memory.NoMemory.{NoMemory}
use Rattle.kmip_report.proofs.ForCallers.{last_line}
use Rattle.kmip_plan_report.specs.Checking.{check_lines, prolongs_line}
use Rattle.kmip_plan_report.specs.Refusals.{site}
use Rattle.kmip_plan_report.proofs.checking_after.push_comparison.Goals as goal

pub returns : goal.returns
returns c = record {
  text = (
    site None None,
    last_line {T = Bool} {E = NoMemory} (Ok true) c.args.form c.args.text.now.items c.push_check_lines.new.text.items c.push_prolongs.new.text.items
        (check_lines c.args.plan.now) (prolongs_line (not (not c.prolongs-is_refused.result))) (search rules) c.in_ok-push_prolongs.ensures,
  );
  refused = search rules;
}

-- The lines of the keys are the report, whatever is found of a fault.
use Rattle.std.proofs.Common.{None, rules}
use Rattle.kmip_plan_report.specs.Refusals.{site}
use Rattle.kmip_plan_report.proofs.checking.push_check.Goals as goal

pub returns-in_ok-push_check_lines-in-Ok-clause-text : goal.returns-in_ok-push_check_lines-in-Ok-clause-text
returns-in_ok-push_check_lines-in-Ok-clause-text c = (site None None, search rules)

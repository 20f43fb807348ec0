-- The line is one of the fault, with what is found.
use Rattle.std.proofs.Common.{Some, None, option_map}
use Rattle.kmip_plan_report.specs.Refusals.{Site, plan_refusal, site}
use Rattle.kmip_plan_report.proofs.RefusalLemmas.{report_at}
use Rattle.kmip_plan_report.proofs.refusing.push_refused_plan.Goals as goal

pub returns-in-Text-clause-text : goal.returns-in-Text-clause-text
returns-in-Text-clause-text c =
    report_at c.push_plan_refusal.result c.args.form c.args.text.now.items c.push_plan_refusal.new.text.items
    (λ (found : Site). plan_refusal c.args.fault.now (option_map (λ path. path.now) c.args.at) found) (site None None) c.push_plan_refusal.ensures.text

pub returns-in_ok-found-in-Json-clause-text : goal.returns-in_ok-found-in-Json-clause-text
returns-in_ok-found-in-Json-clause-text c =
    report_at c.push_plan_refusal-in-Json.result c.args.form c.args.text.now.items c.push_plan_refusal-in-Json.new.text.items
    (λ (found : Site). plan_refusal c.args.fault.now (option_map (λ path. path.now) c.args.at) found)
    (site c.in_ok-found-in-Json.found.line (Some c.as_str-why.result.now)) c.push_plan_refusal-in-Json.ensures.text

-- The lines of the keys, and the last line.
use Rattle.std.proofs.Common.{List, Bool, true, Ok, ◌++◌, ap, ◌∙◌}
use Rattle.kmip_report.specs.Pieces.{line_in}
use Rattle.kmip_report.proofs.ForCallers.{last_line}
use Rattle.kmip_client.specs.declared.verdict.Verdict.{Verdict}
use Rattle.kmip_plan_report.specs.Listing.{finished_line}
use Rattle.kmip_look_command.specs.LookReport.{look_lines, verdicts_on}
use Rattle.kmip_look_command.proofs.report.push_looked.Goals as goal

pub returns-clause-text : goal.returns-clause-text
returns-clause-text c =
    let keys = c.args.keys.now in
    let all = c.as_slice.ensures.value ∙ c.in_ok-verdicts.ensures in
    let written =
    c.in_ok-push_finished.ensures ∙ ap (λ (verdicts : List Verdict). c.push_keys.new.text.items ++ line_in c.args.form (finished_line keys verdicts)) all in
    last_line {T = Bool} {E = Bool} (Ok true) c.args.form c.args.text.now.items c.push_keys.new.text.items c.push_finished.new.text.items
    (look_lines keys c.args.lookeds.now) (finished_line keys (verdicts_on keys c.args.lookeds.now)) c.in_ok-push_keys.ensures written

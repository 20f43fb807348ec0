-- The lines of the keys, and the last line.
use Rattle.std.proofs.Common.{ℕ, List, ◌++◌, map, ap, ap₂, ◌∙◌}
use Rattle.kmip_report.specs.Pieces.{report_in}
use Rattle.kmip_report.proofs.ForCallers.{last_line}
use Rattle.kmip_plan_report.specs.Standings.{Standing, standing_of}
use Rattle.kmip_run_command.specs.RunReport.{run_key_lines}
use Rattle.kmip_run_command.proofs.ending.push_stopped_by.Goals as goal

pub returns : goal.returns
returns c =
    let all = ap (map standing_of) c.as_slice.ensures.value ∙ c.in_ok-standings.ensures in
    let written =
    c.in_ok-push_keys.ensures
    ∙ ap₂ (λ (held : List Standing) (steps : List ℕ). c.args.text.now.items ++ report_in c.args.input.now.form (run_key_lines c.args.input.now.report held steps)) all
    c.as_slice-steps.ensures.value in
    last_line c.push_end_line.result c.args.input.now.form c.args.text.now.items c.push_keys.new.text.items c.push_end_line.new.text.items _ _ written c.push_end_line.ensures

-- The runs, and unless memory ran out in one, the messages and the objects.
use Rattle.std.proofs.Common.{◌≡◌, ◌++◌, None, rules, ap, ◌∙◌}
use Rattle.kmip_report.specs.Pieces.{report_in}
use Rattle.kmip_sim_command.specs.SimReport.{run_lines}
use Rattle.kmip_sim_command.proofs.ReportLemmas.{whole_campaign}
use Rattle.kmip_sim_command.proofs.report.push_simulation.Goals as goal

pub returns : goal.returns
returns c =
    let end = c.args.simulation.now.end in
    let none : end.fault ≡ None = search rules in
    let runs = c.in_ok-push_runs.ensures ∙ ap (λ ends. c.args.text.now.items ++ report_in c.args.form (run_lines ends)) c.as_slice.ensures.value in
    whole_campaign c.push_objects.result c.args.form c.args.text.now.items c.push_runs.new.text.items c.push_asks.new.text.items c.push_objects.new.text.items
    end c.args.simulation.now.link none runs c.in_ok-push_asks.ensures c.push_objects.ensures

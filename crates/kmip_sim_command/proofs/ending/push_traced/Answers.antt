-- What happened, and then the report.
use Rattle.std.proofs.Common.{◌++◌, ap, ◌∙◌, append_assoc}
use Rattle.kmip_report.specs.Pieces.{report_in}
use Rattle.kmip_report.specs.declared.form.Form.TheVariants.{Text}
use Rattle.kmip_simulation.specs.Tracing.{trace_text}
use Rattle.kmip_sim_command.specs.SimReport.{simulation_lines}
use Rattle.kmip_sim_command.proofs.ending.push_traced.Goals as goal

pub returns : goal.returns
returns c =
    let simulation = c.args.simulation.now in
    let old = c.args.text.now.items in
    let ended = report_in Text (simulation_lines simulation) in
    c.in_ok-push_simulation.ensures
    ∙ ap (λ t. t ++ ended) (c.in_ok-push_trace.ensures ∙ ap (λ words. old ++ trace_text words simulation.link) c.words.ensures)
    ∙ append_assoc old (trace_text simulation.words simulation.link) ended

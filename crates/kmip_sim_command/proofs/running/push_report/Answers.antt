-- The report tells how the simulation ended.
use Rattle.std.proofs.Common.{ap, ◌++◌, ◌∙◌}
use Rattle.kmip_sim_command.specs.SimReport.{sim_text}
use Rattle.kmip_sim_command.proofs.running.push_report.Goals as goal

pub returns : goal.returns
returns c = record {
  end = c.in_ok-end.end;
  holds = c.in_ok-end.ensures;
  ended_is = c.outcome.ensures;
  text_is = c.in_ok-push_sim_end.ensures ∙ ap (λ t. t ++ sim_text c.args.form c.args.input.now.detail c.in_ok-end.end) c.requires.empty;
}

-- The pieces are those of the run.
use Rattle.kmip_report.proofs.ForCallers.{line_of}
use Rattle.kmip_sim_command.proofs.report.push_run.Goals as goal

pub returns : goal.returns
returns c = line_of c.push_line.result c.args.form c.args.text.now.items c.push_line.new.text.items c.pieces_of_run.ensures c.push_line.ensures

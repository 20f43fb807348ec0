-- The pieces are those of the key.
use Rattle.kmip_report.proofs.ForCallers.{line_of}
use Rattle.kmip_look_command.proofs.line.push_key.Goals as goal

pub returns : goal.returns
returns c = line_of c.push_line.result c.args.form c.args.text.now.items c.push_line.new.text.items c.pieces_of_key.ensures c.push_line.ensures

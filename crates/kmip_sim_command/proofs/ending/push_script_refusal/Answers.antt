-- The pieces are these, in one line.
use Rattle.std.proofs.Common.{ℕ, List, ap}
use Rattle.serde_json.specs.Data.{Data}
use Rattle.kmip_report.specs.Pieces.{noted}
use Rattle.kmip_report.proofs.ForCallers.{last_piece, line_of, report_of_one, then_pieces}
use Rattle.kmip_sim_command.specs.SimReport.{script_line}
use Rattle.kmip_sim_command.proofs.ending.push_script_refusal.Goals as goal

pub returns : goal.returns
unfolding script_line
returns c =
    let said =
    then_pieces c.word.ensures
    (then_pieces c.number.ensures
    (then_pieces (ap (λ (pair : List ℕ × Data). noted pair.0 pair.1) c.text_or_null.ensures)
    (then_pieces (ap (λ (pair : List ℕ × Data). noted pair.0 pair.1) c.text_or_null-2.ensures)
    (last_piece (ap (λ (pair : List ℕ × Data). noted pair.0 pair.1) c.text_or_null-3.ensures))))) in
    let old = c.args.text.now.items in
    let new = c.push_line.new.text.items in
    report_of_one c.push_line.result c.args.form old new (script_line c.args.line) (line_of c.push_line.result c.args.form old new said c.push_line.ensures)

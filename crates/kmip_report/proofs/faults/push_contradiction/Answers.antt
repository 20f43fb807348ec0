-- The pieces are the path, why, and the names of the keys.
use Rattle.kmip_report.specs.FaultLines.{contradiction_line}
use Rattle.kmip_report.proofs.ForCallers.{last_piece, line_of, noted_piece, then_pieces}
use Rattle.kmip_report.proofs.faults.push_contradiction.Goals as goal

pub returns : goal.returns
unfolding contradiction_line
returns c =
    let said =
    then_pieces c.word.ensures
    (then_pieces c.word-2.ensures
    (then_pieces (noted_piece c.text.ensures)
    (then_pieces (noted_piece c.text_or_null.ensures)
    (last_piece (noted_piece c.words.ensures))))) in
    line_of c.push_line.result c.args.form c.args.text.now.items c.push_line.new.text.items said c.push_line.ensures

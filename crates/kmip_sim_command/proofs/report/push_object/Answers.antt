-- The pieces are those of the object.
use Rattle.std.proofs.Common.{codes, ap, ◌∙◌}
use Rattle.kmip_report.specs.Pieces.{word}
use Rattle.kmip_report.proofs.ForCallers.{last_piece, line_of, then_pieces}
use Rattle.kmip_sim_command.specs.SimReport.{record_line}
use Rattle.kmip_sim_command.proofs.report.push_object.Goals as goal

pub returns : goal.returns
unfolding record_line
returns c =
    let said =
    then_pieces (c.word.ensures ∙ ap (word (codes "record ") (codes "record")) c.as_str.ensures)
    (then_pieces (c.word-2.ensures ∙ ap (word (codes " ") (codes "name")) c.as_str-2.ensures)
    (last_piece (c.word-3.ensures ∙ ap (word (codes " ") (codes "state")) c.state_word.ensures))) in
    line_of c.push_line.result c.args.form c.args.text.now.items c.push_line.new.text.items said c.push_line.ensures

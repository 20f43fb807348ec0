-- The pieces are these.
use Rattle.std.proofs.Common.{refl}
use Rattle.kmip_report.proofs.ForCallers.{last_piece, line_of, then_pieces}
use Rattle.kmip_probe_command.specs.Lines.{unsure_line}
use Rattle.kmip_probe_command.proofs.PieceLemmas.{noted_as}
use Rattle.kmip_probe_command.proofs.lines.push_unsure.Goals as goal

pub returns : goal.returns
unfolding unsure_line
returns c =
    let said =
    then_pieces (noted_as c.words.result c.words.ensures)
    (then_pieces refl
    (then_pieces c.word.ensures
    (then_pieces refl
    (then_pieces (noted_as c.text_or_null.result c.text_or_null.ensures)
    (last_piece (noted_as c.text.result c.text.ensures)))))) in
    line_of c.push_line.result c.args.form c.args.text.now.items c.push_line.new.text.items said c.push_line.ensures

-- The pieces are these.
use Rattle.std.proofs.Common.{refl, ap, ◌∙◌}
use Rattle.kmip_report.specs.Documents.{count, text_or_null}
use Rattle.kmip_report.proofs.ForCallers.{last_piece, line_of, noted_piece, said_as, then_pieces}
use Rattle.kmip_run_command.specs.RunReport.{all_steps, end_line_of}
use Rattle.kmip_run_command.proofs.ending.push_end_pieces.Goals as goal

pub returns : goal.returns
unfolding end_line_of
returns c =
    let said =
    then_pieces (noted_piece c.text.ensures)
    (then_pieces c.number.ensures
    (then_pieces c.number-2.ensures
    (then_pieces refl
    (then_pieces (noted_piece c.count.ensures)
    (then_pieces (noted_piece c.count-2.ensures)
    (then_pieces (noted_piece c.count-3.ensures)
    (then_pieces (noted_piece c.count-4.ensures)
    (then_pieces (noted_piece (said_as c.count-5.ensures (ap count (c.all_steps.ensures ∙ ap all_steps c.as_slice.ensures.value))))
    (then_pieces (noted_piece c.count-6.ensures)
    (last_piece (noted_piece (said_as c.text_or_null.ensures (ap text_or_null c.word_of_cause.ensures))))))))))))) in
    line_of c.push_line.result c.args.form c.args.text.now.items c.push_line.new.text.items said c.push_line.ensures

-- The pieces are these.
use Rattle.std.proofs.Common.{codes, ap, ◌∙◌}
use Rattle.kmip_report.specs.Pieces.{listed, word}
use Rattle.kmip_report.proofs.ForCallers.{last_piece, then_pieces}
use Rattle.kmip_sim_command.specs.SimReport.{run_line}
use Rattle.kmip_sim_command.proofs.report.pieces_of_run.Goals as goal

pub returns : goal.returns
unfolding run_line
returns c =
    then_pieces c.number.ensures
    (then_pieces (c.word.ensures ∙ ap (word (codes " ") (codes "end")) c.name.ensures)
    (then_pieces c.number-2.ensures
    (last_piece (c.lines.ensures ∙ ap (listed (codes "") (codes "report")) c.requires))))

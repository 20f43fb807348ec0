-- The pieces are the two counts.
use Rattle.std.proofs.Common.{codes, ap, ◌∙◌}
use Rattle.kmip_report.specs.Pieces.{number}
use Rattle.kmip_report.proofs.ForCallers.{last_piece, line_of, then_pieces}
use Rattle.kmip_plan_report.specs.Listing.{finished_line}
use Rattle.kmip_plan_report.proofs.listing.push_finished.Goals as goal

pub returns : goal.returns
unfolding finished_line
returns c =
    let said =
    then_pieces (c.number.ensures ∙ ap (number (codes "finished ") (codes "finished")) c.finished_count.ensures)
    (last_piece c.number-2.ensures) in
    line_of c.push_line.result c.args.form c.args.text.now.items c.push_line.new.text.items said c.push_line.ensures

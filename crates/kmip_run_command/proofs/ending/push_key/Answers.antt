-- The pieces of the key, and one piece more.
use Rattle.std.proofs.Common.{ℕ, List, Bool, map, ap, ◌∙◌}
use Rattle.serde_json.specs.Data.{Data}
use Rattle.kmip_report.specs.Pieces.{noted}
use Rattle.kmip_report.specs.PieceViews.{piece_of}
use Rattle.kmip_report.proofs.ForCallers.{line_of, pushed_piece}
use Rattle.kmip_plan_report.specs.Listing.{key_line_with}
use Rattle.kmip_plan_report.specs.Standings.{standing_of}
use Rattle.kmip_run_command.specs.RunReport.{run_key_line}
use Rattle.kmip_run_command.proofs.ending.push_key.Goals as goal

pub returns : goal.returns
unfolding run_key_line
returns c =
    let told = c.pieces_of_key.ensures ∙ ap (λ (is_told : Bool). key_line_with is_told (standing_of c.args.standing.now)) c.tells_identifiers-is_told.ensures in
    let said =
    ap (map piece_of) c.as_slice.ensures.value
    ∙ pushed_piece c.in_ok-pieces.pieces.items c.push.new.self.items _ _ _ (ap (map piece_of) c.in_ok-pieces.ensures.items ∙ told) (ap (λ (pair : List ℕ × Data). noted pair.0 pair.1) c.count.ensures) c.in_ok-push.ensures.items in
    line_of c.push_line.result c.args.input.now.form c.args.text.now.items c.push_line.new.text.items said c.push_line.ensures

-- The pieces are the words, and whether it prolongs.
use Rattle.std.proofs.Common.{◌≡◌, ℕ, List, ap, rules}
use Rattle.serde_json.specs.Data.{Data}
use Rattle.kmip_report.specs.Pieces.{noted, said}
use Rattle.kmip_report.proofs.ForCallers.{last_piece, line_of, then_pieces}
use Rattle.kmip_plan_report.specs.Checking.{prolongs_words}
use Rattle.kmip_plan_report.proofs.checking_after.push_prolongs.Goals as goal
use Rattle.kmip_plan_report.proofs.checking_after.push_prolongs.Goals.{then-does_prolong, else-does_prolong}

pub returns : goal.returns
returns c =
    let words : c.if-does_prolong.words.now ≡ prolongs_words c.args.does_prolong = elim c.if-does_prolong.branch [
      | then-does_prolong w ↦ search rules
      | else-does_prolong w ↦ search rules
    ] in
    let pieces =
    then_pieces (ap said words) (last_piece (ap (λ (pair : List ℕ × Data). noted pair.0 pair.1) c.truth.ensures)) in
    line_of c.push_line.result c.args.form c.args.text.now.items c.push_line.new.text.items pieces c.push_line.ensures

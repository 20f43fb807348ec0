-- The words of the system are some words.
use Rattle.std.proofs.Common.{◌≡◌, ℕ, List, ◌++◌, codes, Option, Some, OnOk, ap, subst}
use Rattle.kmip_report.specs.Pieces.{Piece, line_in}
use Rattle.kmip_plan_report.proofs.RefusalLemmas.{by_some}
use Rattle.kmip_trouble.specs.ObstacleLines.{fault_at}
use Rattle.kmip_trouble.specs.Words.{cannot_word}
use Rattle.kmip_trouble.proofs.obstacle_line.push_error.Goals as goal

pub returns : goal.returns
returns c =
    let why = Some c.as_str.result.now in
    let line = ap (λ (fault : List ℕ). fault_at fault (codes " ") c.args.path.now why) c.text.ensures in
    by_some (λ (words : Option (List ℕ)). c.push_at.new.text.items ≡ c.args.text.now.items ++ line_in c.args.form
    (fault_at (cannot_word c.args.cannot) (codes " ") c.args.path.now words))
    c.push_at.result why
    (subst (λ (said : List Piece). OnOk c.push_at.result
    (c.push_at.new.text.items ≡ c.args.text.now.items ++ line_in c.args.form said)) line c.push_at.ensures)

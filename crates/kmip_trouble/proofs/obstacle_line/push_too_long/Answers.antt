-- The digits and the words are these.
use Rattle.std.proofs.Common.{◌≡◌, ℕ, List, ◌++◌, codes, OnOk, ap₂, rules, subst}
use Rattle.std.specs.Fmt.{decimal}
use Rattle.kmip_report.specs.Pieces.{Piece, line_in}
use Rattle.kmip_trouble.specs.ObstacleLines.{longer_than_line}
use Rattle.kmip_trouble.proofs.obstacle_line.push_too_long.Goals as goal

pub returns : goal.returns
returns c =
    let digits : c.as_str-2.result.now ≡ decimal c.args.most_bytes = search rules in
    let why : c.as_str-3.result.now ≡ codes "it has more than " ++ decimal c.args.most_bytes ++ codes " bytes" =
    search rules in
    let line = ap₂ (λ (number words : List ℕ). longer_than_line number c.args.path.now words) digits why in
    subst (λ (said : List Piece). OnOk c.push_longer_than.result
    (c.push_longer_than.new.text.items ≡ c.args.text.now.items ++ line_in c.args.form said))
    line c.push_longer_than.ensures

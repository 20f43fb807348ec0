-- The words are these.
use Rattle.std.proofs.Common.{◌≡◌, ◌++◌, ℕ, List, codes, string_bytes, Some, OnOk, ap₂, rules, subst}
use Rattle.kmip_report.specs.Pieces.{Piece, line_in}
use Rattle.kmip_trouble.specs.ObstacleLines.{fault_at, other_server_words}
use Rattle.kmip_trouble.proofs.another_server.AnotherServer.push_line.Goals as goal

pub returns : goal.returns
returns c =
    let words : c.as_str-3.result.now ≡ other_server_words c.args.self.now = search rules in
    let path : c.as_str-4.result.now ≡ string_bytes c.args.self.now.path = search rules in
    let line = ap₂ (λ (at why : List ℕ). fault_at (codes "progress of another server") (codes ": ") at (Some why))
    path words in
    subst (λ (said : List Piece). OnOk c.push_at.result
    (c.push_at.new.text.items ≡ c.args.text.now.items ++ line_in c.args.form said)) line c.push_at.ensures

-- The pieces are these.
use Rattle.std.proofs.Common.{[], codes, ap, refl, ◌∙◌}
use Rattle.serde_json.specs.Data.{string}
use Rattle.kmip_report.specs.Pieces.{noted, word}
use Rattle.kmip_report.proofs.ForCallers.{last_piece, line_of, then_pieces}
use Rattle.kmip_probe_command.specs.Lines.{broken_line}
use Rattle.kmip_probe_command.proofs.PieceLemmas.{noted_as}
use Rattle.kmip_probe_command.proofs.lines.push_broken.Goals as goal

pub returns : goal.returns
unfolding broken_line
returns c =
    let said =
    then_pieces (c.word.ensures ∙ ap (word [] (codes "premise")) c.text.ensures)
    (then_pieces (noted_as c.text-2.result c.text-2.ensures)
    (then_pieces c.word-2.ensures
    (then_pieces refl
    (last_piece (noted_as c.text-3.result c.text-3.ensures ∙ ap (λ risk. noted (codes "risk") (string risk)) c.risk.ensures))))) in
    line_of c.push_line.result c.args.form c.args.text.now.items c.push_line.new.text.items said c.push_line.ensures

-- The pieces are those of the requests.
use Rattle.std.proofs.Common.{ap, ap₂, map, string_bytes, ◌∙◌}
use Rattle.kmip_report.proofs.ForCallers.{line_of}
use Rattle.kmip_sim_command.specs.Private.{ask_pieces}
use Rattle.kmip_sim_command.specs.SimReport.{ask_line}
use Rattle.kmip_sim_command.proofs.report.push_ask.Goals as goal

pub returns : goal.returns
unfolding ask_line
returns c =
    let asked = c.as_slice-2.ensures.value ∙ c.in_ok-asked.ensures in
    let words = ap (map (λ word. word.now)) c.as_slice-3.ensures.value ∙ c.in_ok-words-2.ensures ∙ ap (map string_bytes) c.as_slice.ensures.value ∙ c.in_ok-words.ensures in
    line_of c.push_line.result c.args.form c.args.text.now.items c.push_line.new.text.items
    (c.pieces_of_ask-pieces.ensures ∙ ap₂ (ask_pieces c.args.number) asked words) c.push_line.ensures

-- The line is computed, in each form.
use Rattle.std.proofs.Common.{◌≡◌, codes, refl, sym, ap, ◌∙◌}
use Rattle.std.specs.Fmt.{digits}
use Rattle.serde_json.proofs.OnLiterals.{serde_json_on_literals}
use Rattle.kmip_report.specs.Documents.{document}
use Rattle.kmip_report.specs.Pieces.{line_in, text_line}
use Rattle.kmip_report.specs.declared.form.Form.TheVariants.{Text, Json}
use Rattle.kmip_probe_command.specs.Lines.{unfit_line}
use Rattle.kmip_probe_command.proofs.lines.unfit_line.Goals as goal

in_text : codes "prefix refused: it is not 1 to 62 printable ASCII characters without a space\n" ≡ line_in Text unfit_line
unfolding text_line
in_text = refl

in_json : codes "{\"version\":1,\"fault\":\"prefix refused\",\"at\":null,\"why\":\"it is not 1 to 62 printable ASCII characters without a space\",\"cause\":null}\n" ≡ line_in Json unfit_line
unfolding serde_json_on_literals document digits
in_json = refl

pub returns-in-Text : goal.returns-in-Text
returns-in-Text c = in_text ∙ ap (λ form. line_in form unfit_line) (sym c.in-Text.is)

pub returns-in-Json : goal.returns-in-Json
returns-in-Json c = in_json ∙ ap (λ form. line_in form unfit_line) (sym c.in-Json.is)

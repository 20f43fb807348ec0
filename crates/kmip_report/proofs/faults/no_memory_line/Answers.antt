-- Each line is computed.
use Rattle.std.proofs.Common.{ap, sym, ◌∙◌}
use Rattle.serde_json.proofs.OnLiterals.{serde_json_on_literals}
use Rattle.kmip_report.specs.FaultLines.{no_memory}
use Rattle.kmip_report.specs.Pieces.{line_in, text_line}
use Rattle.kmip_report.specs.declared.form.Form.{Form}
use Rattle.kmip_report.proofs.ForCallers.{opened_line}
use Rattle.kmip_report.proofs.faults.no_memory_line.Goals as goal

pub returns-in-Text : goal.returns-in-Text
unfolding text_line
returns-in-Text c = ap (λ (form : Form). line_in form no_memory) (sym c.in-Text.is)

pub returns-in-Json : goal.returns-in-Json
unfolding serde_json_on_literals
returns-in-Json c = sym (opened_line no_memory) ∙ ap (λ (form : Form). line_in form no_memory) (sym c.in-Json.is)

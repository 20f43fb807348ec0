-- What is told where every premise is kept.
use Rattle.std.proofs.Common.{◌≡◌, ℕ, true, List, [], ◌∷◌, ◌++◌, codes, flat_map, refl, ◌∙◌}
use Rattle.std.specs.Fmt.{digits}
use Rattle.serde_json.proofs.OnLiterals.{serde_json_on_literals}
use Rattle.kmip_probe.specs.Judging.{AreFindings}
use Rattle.kmip_probe.specs.Laws.{AreAllKept}
use Rattle.kmip_probe.specs.declared.answer.Answer.{Answer}
use Rattle.kmip_probe.specs.declared.finding.Finding.TheVariants.{Kept}
use Rattle.kmip_probe.specs.declared.findings.Findings.{Findings}
use Rattle.kmip_report.specs.Documents.{document, numbers_of}
use Rattle.kmip_report.specs.Pieces.{Piece, line_in, noted, said, text_line, word}
use Rattle.kmip_report.specs.declared.form.Form.{Form}
use Rattle.kmip_report.specs.declared.form.Form.TheVariants.{Text, Json}
use Rattle.kmip_probe_command.specs.KeptLines.{kept_lines}
use Rattle.kmip_probe_command.specs.Lines.{sum_line, unbroken_line}
use Rattle.kmip_probe_command.specs.ProbeText.{TellsAllKept, finding_text}
use Rattle.kmip_probe_command.specs.Wording.{are_all_kept, listed}
use Rattle.kmip_probe_command.specs.declared.premise.TheConstants.{PREMISES}

pub all_are_kept : (prefix : List ℕ) (answers : List Answer) (findings : Findings) → AreAllKept prefix answers → AreFindings prefix answers findings
    → are_all_kept findings ≡ true
all_are_kept prefix answers findings kept are =
    let unique = are.unique ∙ kept.unique in
    let used = are.used ∙ kept.used in
    let once = are.once ∙ kept.once in
    let active = are.active ∙ kept.active in
    let found = are.found ∙ kept.found in
    let destroyed = are.destroyed ∙ kept.destroyed in
    let told = are.told ∙ kept.told in
    let echoed = are.echoed ∙ kept.echoed in rw (unique, used, once, active, found, destroyed, told, echoed) refl

-- the end of such a report
abbrev kept_end : List Piece
kept_end =
    said (codes "reasons seen: " ++ listed (53 ∷ 67 ∷ []) ++ codes "\n")
    ∷ noted (codes "reasons") (numbers_of (53 ∷ 67 ∷ []))
    ∷ said []
    ∷ word [] (codes "sum") (codes "the promise holds here: each key is made once, and its steps are made once and in order")
    ∷ []

-- the lines are computed
lines_are : (form : Form) → flat_map (λ p. finding_text form p Kept) PREMISES ++ line_in form kept_end ≡ kept_lines form
unfolding serde_json_on_literals document digits text_line unbroken_line
lines_are Text = refl
lines_are Json = refl

pub all_told : (form : Form) → TellsAllKept form
unfolding sum_line
all_told form prefix answers findings kept are =
    let unique = are.unique ∙ kept.unique in
    let used = are.used ∙ kept.used in
    let once = are.once ∙ kept.once in
    let active = are.active ∙ kept.active in
    let found = are.found ∙ kept.found in
    let destroyed = are.destroyed ∙ kept.destroyed in
    let told = are.told ∙ kept.told in
    let echoed = are.echoed ∙ kept.echoed in
    let reasons = are.reasons ∙ kept.reasons in rw (unique, used, once, active, found, destroyed, told, echoed, reasons) (lines_are form)

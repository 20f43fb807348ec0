-- What is told early is what all answers tell.
use Rattle.std.proofs.Common.{◌≡◌, ◌≤◌, ◌<◌, ◌+◌, ℕ, List, [], ◌∷◌, ◌++◌, length, take, drop, flat_map, refl, sym, ap, ap₂, ◌∙◌, arith, append-nil}
use Rattle.std.proofs.lemmas.List.{append_assoc, drop-append-le, get_or_append_left, length-drop, take-append-le}
use Rattle.std.proofs.lemmas.List.Concat.{flat_map-append}
use Rattle.kmip_probe.specs.Judging.{AreFindings, answer_at, names_are_unique, is_destroyed, names_stay_used, steps_count_once, active_is_kept, objects_are_found, destroyed_are_found, attributes_are_told}
use Rattle.kmip_probe.specs.declared.answer.Answer.{Answer}
use Rattle.kmip_probe.specs.declared.answer.Answer.TheVariants.{Nothing}
use Rattle.kmip_probe.specs.declared.findings.Findings.{Findings}
use Rattle.kmip_report.specs.declared.form.Form.{Form}
use Rattle.kmip_probe_command.specs.Midway.{line_by}
use Rattle.kmip_probe_command.specs.ProbeText.{end_text, finding_text, line_of, report_text}
use Rattle.kmip_probe_command.specs.Private.{rest_text}
use Rattle.kmip_probe_command.specs.declared.premise.Premise.{Premise}
use Rattle.kmip_probe_command.specs.declared.premise.Premise.TheVariants as premise
use Rattle.kmip_probe_command.specs.declared.premise.TheConstants.{EARLY, LATE}

-- ---- what more answers leave

at : (answers more : List Answer) (number : ℕ) → number < length answers → answer_at (answers ++ more) number ≡ answer_at answers number
at answers more number less = get_or_append_left answers more Nothing number less

part : (answers more : List Answer) (from count : ℕ) → from + count ≤ length answers → take count (drop from (answers ++ more)) ≡ take count (drop from answers)
part answers more from count within =
    ap (take count) (drop-append-le from answers more (omega (arith, within)))
    ∙ take-append-le count (drop from answers) more (omega (arith, within, length-drop from answers))

pub unique_stays : (answers more : List Answer) → 8 ≤ length answers → names_are_unique (answers ++ more) ≡ names_are_unique answers
unique_stays answers more all =
    let uids = part answers more 2 6 (omega (arith, all)) in
    let second = at answers more 2 (omega (arith, all)) in
    let third = at answers more 3 (omega (arith, all)) in
    let last = at answers more 7 (omega (arith, all)) in rw (uids, second, third, last) refl

destroyed_stays : (answers more : List Answer) → 23 ≤ length answers → is_destroyed (answers ++ more) ≡ is_destroyed answers
destroyed_stays answers more all =
    let first = at answers more 16 (omega (arith, all)) in
    let second = at answers more 17 (omega (arith, all)) in rw (first, second) refl

used_stays : (answers more : List Answer) → 23 ≤ length answers → names_stay_used (answers ++ more) ≡ names_stay_used answers
used_stays answers more all =
    let first = at answers more 16 (omega (arith, all)) in
    let second = at answers more 17 (omega (arith, all)) in
    let known = part answers more 2 6 (omega (arith, all)) in
    let uids = part answers more 18 5 (omega (arith, all)) in
    let again = at answers more 18 (omega (arith, all)) in
    let last = at answers more 22 (omega (arith, all)) in rw (first, second, known, uids, again, last) refl

once_stays : (answers more : List Answer) → 23 ≤ length answers → steps_count_once (answers ++ more) ≡ steps_count_once answers
once_stays answers more all =
    let a = at answers more 9 (omega (arith, all)) in
    let b = at answers more 10 (omega (arith, all)) in
    let c = at answers more 11 (omega (arith, all)) in
    let d = at answers more 12 (omega (arith, all)) in
    let e = at answers more 16 (omega (arith, all)) in
    let f = at answers more 17 (omega (arith, all)) in rw (a, b, c, d, e, f) refl

active_stays : (answers more : List Answer) → 23 ≤ length answers → active_is_kept (answers ++ more) ≡ active_is_kept answers
active_stays answers more all =
    let a = at answers more 14 (omega (arith, all)) in
    let b = at answers more 15 (omega (arith, all)) in rw (a, b) refl

found_stays : (answers more : List Answer) → 23 ≤ length answers → objects_are_found (answers ++ more) ≡ objects_are_found answers
found_stays answers more all =
    let uids = part answers more 2 6 (omega (arith, all)) in
    let a = at answers more 7 (omega (arith, all)) in rw (uids, a) refl

destroyed_found_stays : (answers more : List Answer) → 23 ≤ length answers → destroyed_are_found (answers ++ more) ≡ destroyed_are_found answers
destroyed_found_stays answers more all =
    let first = at answers more 16 (omega (arith, all)) in
    let second = at answers more 17 (omega (arith, all)) in
    let uids = part answers more 2 6 (omega (arith, all)) in
    let a = at answers more 22 (omega (arith, all)) in rw (first, second, uids, a) refl

told_stays : (prefix : List ℕ) (answers more : List Answer) → 23 ≤ length answers → attributes_are_told prefix (answers ++ more) ≡ attributes_are_told prefix answers
told_stays prefix answers more all = let a = at answers more 8 (omega (arith, all)) in rw a refl

-- ---- the lines

pub early_stays : (form : Form) (prefix : List ℕ) (answers later more : List Answer) → later ≡ answers ++ more → 8 ≤ length answers
    → flat_map (line_by form prefix later) EARLY ≡ flat_map (line_by form prefix answers) EARLY
early_stays form prefix answers later more is all =
    ap (λ xs. flat_map (line_by form prefix xs) EARLY) is
    ∙ ap (λ finding. finding_text form premise.NamesAreUnique finding ++ []) (unique_stays answers more all)

-- a line before others
before : {line same lines others : List ℕ} → line ≡ same → lines ≡ others → line ++ lines ≡ same ++ others
before is are = ap₂ (λ line lines. line ++ lines) is are

late_lines : (form : Form) (prefix : List ℕ) (answers more : List Answer) → 23 ≤ length answers
    → flat_map (line_by form prefix (answers ++ more)) LATE ≡ flat_map (line_by form prefix answers) LATE
late_lines form prefix answers more all =
    before (ap (finding_text form premise.NamesStayUsed) (used_stays answers more all))
    (before (ap (finding_text form premise.StepsCountOnce) (once_stays answers more all))
    (before (ap (finding_text form premise.ActiveIsKept) (active_stays answers more all))
    (before (ap (finding_text form premise.ObjectsAreFound) (found_stays answers more all))
    (before (ap (finding_text form premise.DestroyedAreFound) (destroyed_found_stays answers more all))
    (before (ap (finding_text form premise.AttributesAreTold) (told_stays prefix answers more all)) refl)))))

pub late_stays : (form : Form) (prefix : List ℕ) (answers later more : List Answer) → later ≡ answers ++ more → 23 ≤ length answers
    → flat_map (line_by form prefix later) LATE ≡ flat_map (line_by form prefix answers) LATE
late_stays form prefix answers later more is all = ap (λ xs. flat_map (line_by form prefix xs) LATE) is ∙ late_lines form prefix answers more all

line_is : (form : Form) (prefix : List ℕ) (answers : List Answer) (findings : Findings) → AreFindings prefix answers findings → (p : Premise)
    → line_of form findings p ≡ line_by form prefix answers p
line_is form prefix answers findings are premise.NamesAreUnique = ap (finding_text form premise.NamesAreUnique) are.unique
line_is form prefix answers findings are premise.NamesStayUsed = ap (finding_text form premise.NamesStayUsed) are.used
line_is form prefix answers findings are premise.StepsCountOnce = ap (finding_text form premise.StepsCountOnce) are.once
line_is form prefix answers findings are premise.ActiveIsKept = ap (finding_text form premise.ActiveIsKept) are.active
line_is form prefix answers findings are premise.ObjectsAreFound = ap (finding_text form premise.ObjectsAreFound) are.found
line_is form prefix answers findings are premise.DestroyedAreFound = ap (finding_text form premise.DestroyedAreFound) are.destroyed
line_is form prefix answers findings are premise.AttributesAreTold = ap (finding_text form premise.AttributesAreTold) are.told
line_is form prefix answers findings are premise.IdsAreEchoed = ap (finding_text form premise.IdsAreEchoed) are.echoed

pub lines_are : (form : Form) (prefix : List ℕ) (answers : List Answer) (findings : Findings) → AreFindings prefix answers findings → (ps : List Premise)
    → flat_map (line_of form findings) ps ≡ flat_map (line_by form prefix answers) ps
lines_are form prefix answers findings are [] = refl
lines_are form prefix answers findings are (p ∷ ps) =
    ap (λ line. line ++ flat_map (line_of form findings) ps) (line_is form prefix answers findings are p)
    ∙ ap (λ lines. line_by form prefix answers p ++ lines) (lines_are form prefix answers findings are ps)

-- ---- all together

-- the lines of a list in three parts, and an end
parts : {X : Type 0} (f : X → List ℕ) (early late last : List X) (end : List ℕ)
    → flat_map f (early ++ (late ++ last)) ++ end ≡ flat_map f early ++ (flat_map f late ++ (flat_map f last ++ end))
parts f early late last end =
    ap (λ lines. lines ++ end) (flat_map-append f early (late ++ last) ∙ ap (λ lines. flat_map f early ++ lines) (flat_map-append f late last))
    ∙ append_assoc (flat_map f early) (flat_map f late ++ flat_map f last) end
    ∙ ap (λ lines. flat_map f early ++ lines) (append_assoc (flat_map f late) (flat_map f last) end)

report_in_parts : (form : Form) (findings : Findings) → report_text form findings ≡ flat_map (line_of form findings) EARLY ++ (flat_map (line_of form findings) LATE ++ rest_text form findings)
report_in_parts form findings =
    parts (line_of form findings) EARLY LATE (premise.IdsAreEchoed ∷ []) (end_text form findings)
    ∙ ap (λ line. flat_map (line_of form findings) EARLY ++ (flat_map (line_of form findings) LATE ++ (line ++ end_text form findings)))
    (append-nil (line_of form findings premise.IdsAreEchoed))

-- what was told early, late and at last is the report
pub report_is : (form : Form) (prefix : List ℕ) (early late all more rest : List Answer) (findings : Findings) → late ≡ early ++ more → all ≡ late ++ rest
    → 8 ≤ length early → 23 ≤ length late → AreFindings prefix all findings
    → flat_map (line_by form prefix early) EARLY ++ (flat_map (line_by form prefix late) LATE ++ rest_text form findings) ≡ report_text form findings
report_is form prefix early late all more rest findings is_late is_all eight most are =
    let first = sym (early_stays form prefix early late more is_late eight)
    ∙ sym (early_stays form prefix late all rest is_all (omega (arith, most))) ∙ sym (lines_are form prefix all findings are EARLY) in
    let later = sym (late_stays form prefix late all rest is_all most) ∙ sym (lines_are form prefix all findings are LATE) in
    ap (λ lines. lines ++ (flat_map (line_by form prefix late) LATE ++ rest_text form findings)) first
    ∙ ap (λ lines. flat_map (line_of form findings) EARLY ++ (lines ++ rest_text form findings)) later
    ∙ sym (report_in_parts form findings)

-- Lines and verdicts of keys, one after the other.
use Rattle.std.proofs.Common.{◌≡◌, ◌<◌, ℕ, suc, ◌+◌, List, [], ◌∷◌, ◌++◌, length, drop, get_or, refl, sym, ap, ◌∙◌, append_assoc, append-nil, add-one, drop-cons}
use Rattle.kmip_report.specs.Pieces.{line_in, report_in}
use Rattle.kmip_report.specs.declared.form.Form.{Form}
use Rattle.kmip_plan.specs.declared.key.Key.{Key}
use Rattle.kmip_client.specs.declared.verdict.Verdict.{Verdict}
use Rattle.kmip_look.specs.declared.looked.Looked.{Looked}
use Rattle.kmip_look_command.specs.LookReport.{look_line, look_lines, verdict_on, verdicts_on}

pub line_more : (form : Form) (text next : List ℕ) (keys : List Key) (i : ℕ) (key : Key) (looked : Looked) (lookeds behind : List Looked)
    → i < length keys → key ≡ get_or keys i key → lookeds ≡ looked ∷ behind → next ≡ text ++ line_in form (look_line key looked)
    → next ++ report_in form (look_lines (drop (i + 1) keys) behind) ≡ text ++ report_in form (look_lines (drop i keys) lookeds)
line_more form text next keys i key looked lookeds behind below is first pushed =
    let here : drop i keys ≡ key ∷ drop (i + 1) keys = rw add-one (drop-cons keys i key below ∙ ap (λ k. k ∷ drop (suc i) keys) (sym is)) in
    rw (here, first, pushed) (append_assoc text (line_in form (look_line key looked)) (report_in form (look_lines (drop (i + 1) keys) behind)))

pub no_line : (form : Form) (keys : List Key) (lookeds : List Looked) → length lookeds ≡ 0 → report_in form (look_lines keys lookeds) ≡ []
no_line form [] lookeds none = refl
no_line form (key ∷ keys) [] none = refl
no_line form (key ∷ keys) (looked ∷ lookeds) none = absurd cc

pub nothing_left : {X : Type 0} (text left all : List X) → left ≡ [] → text ++ left ≡ all → text ≡ all
nothing_left text left all none is = sym (append-nil text) ∙ ap (λ l. text ++ l) (sym none) ∙ is

pub verdict_more : (verdicts next : List Verdict) (keys : List Key) (i : ℕ) (key : Key) (looked : Looked) (lookeds behind : List Looked) (verdict : Verdict)
    → i < length keys → key ≡ get_or keys i key → lookeds ≡ looked ∷ behind → verdict ≡ verdict_on key looked → next ≡ verdicts ++ verdict ∷ []
    → next ++ verdicts_on (drop (i + 1) keys) behind ≡ verdicts ++ verdicts_on (drop i keys) lookeds
verdict_more verdicts next keys i key looked lookeds behind verdict below is first told pushed =
    let here : drop i keys ≡ key ∷ drop (i + 1) keys = rw add-one (drop-cons keys i key below ∙ ap (λ k. k ∷ drop (suc i) keys) (sym is)) in
    rw (here, first, pushed, told) (append_assoc verdicts (verdict_on key looked ∷ []) (verdicts_on (drop (i + 1) keys) behind))

pub no_verdict : (keys : List Key) (lookeds : List Looked) → length lookeds ≡ 0 → verdicts_on keys lookeds ≡ []
no_verdict [] lookeds none = refl
no_verdict (key ∷ keys) [] none = refl
no_verdict (key ∷ keys) (looked ∷ lookeds) none = absurd cc

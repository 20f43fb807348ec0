-- One line more, until a list ends.
use Rattle.std.proofs.Common.{◌≡◌, ◌<◌, ◌+◌, ℕ, suc, List, [], ◌∷◌, ◌++◌, length, drop, get_or, string_bytes, refl, sym, ap, ◌∙◌, append_assoc, append-nil, add-one, drop-cons}
use Rattle.kmip_plan.specs.declared.key.Key.{Key}
use Rattle.kmip_client.specs.declared.verdict.Verdict.{Verdict}
use Rattle.kmip_runs.specs.Reporting.{report_line, report_lines}
use Rattle.kmip_runs.proofs.reporting.push_lines.Goals as goal

line_more : (text line next : List ℕ) (keys : List Key) (i : ℕ) (key : Key) (done : ℕ) (counts behind : List ℕ) (verdict : Verdict) (verdicts rest : List Verdict)
    → i < length keys → key ≡ get_or keys i key → counts ≡ done ∷ behind → verdicts ≡ verdict ∷ rest → line ≡ report_line key done verdict → next ≡ text ++ line
    → next ++ report_lines (drop (i + 1) keys) behind rest ≡ text ++ report_lines (drop i keys) counts verdicts
line_more text line next keys i key done counts behind verdict verdicts rest below is first second written pushed =
    let here : drop i keys ≡ key ∷ drop (i + 1) keys = rw add-one (drop-cons keys i key below ∙ ap (λ k. k ∷ drop (suc i) keys) (sym is)) in
    rw (here, first, second, pushed, written) (append_assoc text (report_line key done verdict) (report_lines (drop (i + 1) keys) behind rest))

no_count : (keys : List Key) (counts : List ℕ) (verdicts : List Verdict) → length counts ≡ 0 → report_lines keys counts verdicts ≡ []
no_count [] counts verdicts none = refl
no_count (key ∷ keys) [] verdicts none = refl
no_count (key ∷ keys) (done ∷ counts) verdicts none = absurd cc

no_verdict : (keys : List Key) (counts : List ℕ) (verdicts : List Verdict) → length verdicts ≡ 0 → report_lines keys counts verdicts ≡ []
no_verdict [] counts verdicts none = refl
no_verdict (key ∷ keys) [] verdicts none = refl
no_verdict (key ∷ keys) (done ∷ counts) [] none = refl
no_verdict (key ∷ keys) (done ∷ counts) (verdict ∷ verdicts) none = absurd cc

nothing_left : (text left all : List ℕ) → left ≡ [] → text ++ left ≡ all → text ≡ all
nothing_left text left all none is = sym (append-nil text) ∙ ap (λ l. text ++ l) (sym none) ∙ is

pub loop-key-preserved : goal.loop-key-preserved
loop-key-preserved c =
    line_more (string_bytes c.loop-key.text) c.as_str.result.now (string_bytes c.push_str.new.self) c.args.keys.now c.loop-key.key-index c.key-item.result
    c.in-Some.done.now c.loop-key.counts_left.now c.in-Some.counts_behind.now c.in-Some-split_first.verdict.now c.loop-key.verdicts_left.now
    c.in-Some-split_first.verdicts_behind.now c.loop-key-test.true c.key-item.is c.in-Some.ensures.cases.0 c.in-Some-split_first.ensures.cases.0
    (c.as_str.ensures.value ∙ c.in_ok-line.ensures) c.in_ok-push_str.ensures.bytes
    ∙ c.loop-key.invariant

pub returns-in_default : goal.returns-in_default
returns-in_default c = nothing_left _ _ _ (no_count _ _ _ c.in_default.ensures.cases) c.loop-key.invariant

pub returns-in_default-split_first : goal.returns-in_default-split_first
returns-in_default-split_first c = nothing_left _ _ _ (no_verdict _ _ _ c.in_default-split_first.ensures.cases) c.loop-key.invariant

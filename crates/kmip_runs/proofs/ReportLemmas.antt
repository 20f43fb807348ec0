-- The lines of a report are made of their parts.
use Rattle.std.proofs.Common.{◌≡◌, ℕ, List, ◌++◌, length, codes, decimal, refl, append_assoc}
use Rattle.kmip_plan.specs.TargetWords.{target_word}
use Rattle.kmip_plan.specs.declared.key.Key.{Key}
use Rattle.kmip_client.specs.Knowledge.{chain_length}
use Rattle.kmip_client.specs.declared.verdict.Verdict.{Verdict}
use Rattle.kmip_client.specs.Verdicts.{finished_count, verdict_word}
use Rattle.kmip_runs.specs.Reporting.{report_line, sum_line}

pub line_is : (key : Key) (done steps : ℕ) (verdict : Verdict) (name target word : List ℕ) → name ≡ key.attrs.name → target ≡ target_word key.target
    → steps ≡ chain_length key → word ≡ verdict_word verdict
    → name ++ (codes " " ++ (target ++ (codes " " ++ (decimal done ++ (codes "/" ++ (decimal steps ++ (codes " " ++ (word ++ codes "\n")))))))) ≡ report_line key done verdict
line_is key done steps verdict name target word p q r s = rw (p, q, r, s) (simp (append_assoc) refl)

pub sum_is : (keys : List Key) (verdicts : List Verdict) (finished count : ℕ) → finished ≡ finished_count verdicts → count ≡ length keys
    → codes "finished " ++ (decimal finished ++ (codes " of " ++ (decimal count ++ codes "\n"))) ≡ sum_line keys verdicts
sum_is keys verdicts finished count p q = rw (p, q) (simp (append_assoc) refl)

-- The runs of a script, each with the crash that ends it.
use Rattle.std.proofs.Common.{◌≡◌, ℕ, Bool, true, false, List, [], ◌∷◌, length, map, Option, refl, sym, ap, ◌∙◌, arith}
use Rattle.std.specs.Prelude.{zip}
use Rattle.kmip_plan.specs.Chains.{bound}
use Rattle.kmip_plan.specs.declared.key.Key.{Key}
use Rattle.kmip_runs.specs.declared.crash.Crash.{Crash as MachineCrash}
use Rattle.kmip_runs.specs.declared.crashing_run.CrashingRun.{CrashingRun}
use Rattle.kmip_runs.specs.declared.run.Run.{Run}
use Rattle.kmip_runs.specs.declared.start.Start.{Start}
use Rattle.kmip_runs.specs.declared.start.Start.TheVariants.{Fresh, Same}
use Rattle.kmip_scripted.specs.declared.word.Word.{Word}
use Rattle.kmip_scripted.specs.declared.word.Word.TheVariants.{Pass, LoseRequest, LoseReply, Cut, Stale, Again, Save, Prolong, Restart, Crash}
use Rattle.kmip_scripted.specs.Laws.{CrashesChangeNoRun}
use Rattle.kmip_scripted.specs.Runs.{crashes_from, crashes_of, runs_from, runs_of, start_at, with_crash, with_word}

-- one more word makes no more runs
as_long : (word : Word) (runs : List Run) → length (with_word word runs) ≡ length runs
as_long word [] = refl
as_long word (run ∷ runs) = refl

-- as many runs as ends
as_many : (more : ℕ) (begun : Bool) (start : Start) (words : List Word) → length (crashes_from begun words) ≡ length (runs_from more begun start words)
as_many more begun start [] = refl
as_many more begun start (Save ∷ words) = omega (arith, as_many more false Same words)
as_many more begun start (Prolong ∷ words) = omega (arith, as_many more false Same words)
as_many more begun start (Crash crash ∷ words) = omega (arith, as_many more false Same words)
as_many more true start (Restart next ∷ words) = omega (arith, as_many more false (start_at next) words)
as_many more false start (Restart next ∷ words) = as_many more false (start_at next) words
as_many more begun start (Pass ∷ words) = as_many more true start words ∙ sym (as_long Pass (runs_from more true start words))
as_many more begun start (LoseRequest ∷ words) = as_many more true start words ∙ sym (as_long LoseRequest (runs_from more true start words))
as_many more begun start (LoseReply ∷ words) = as_many more true start words ∙ sym (as_long LoseReply (runs_from more true start words))
as_many more begun start (Cut size ∷ words) = as_many more true start words ∙ sym (as_long (Cut size) (runs_from more true start words))
as_many more begun start (Stale number ∷ words) = as_many more true start words ∙ sym (as_long (Stale number) (runs_from more true start words))
as_many more begun start (Again number ∷ words) = as_many more true start words ∙ sym (as_long (Again number) (runs_from more true start words))

-- without their crashes
runs_stay : (runs : List Run) (crashes : List (Option MachineCrash)) → length crashes ≡ length runs → map (λ r. r.run) (map with_crash (zip runs crashes)) ≡ runs
runs_stay [] crashes many = refl
runs_stay (run ∷ runs) [] many = absurd (omega (arith, many))
runs_stay (run ∷ runs) (crash ∷ crashes) many = ap (λ rs. run ∷ rs) (runs_stay runs crashes (omega (arith, many)))

pub no_run_changes : CrashesChangeNoRun
no_run_changes keys words = runs_stay (runs_of keys words) (crashes_of words) (as_many (bound keys) false Fresh words)

pub same_runs : (keys : List Key) (words : List Word) (runs : List Run) (crashes : List (Option MachineCrash)) (all : List CrashingRun) → runs ≡ runs_of keys words
    → crashes ≡ crashes_of words → all ≡ map with_crash (zip runs crashes) → map (λ r. r.run) all ≡ runs_of keys words
same_runs keys words runs crashes all are ends is =
    ap (map (λ r. r.run)) (is
    ∙ ap (λ rs. map with_crash (zip rs crashes)) are
    ∙ ap (λ cs. map with_crash (zip (runs_of keys words) cs)) ends)
    ∙ no_run_changes keys words

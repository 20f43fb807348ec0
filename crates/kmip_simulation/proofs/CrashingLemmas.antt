-- Runs that crashes end, each of which asks about so many keys at once.
use Rattle.std.proofs.Common.{◌≡◌, ◌+◌, ◌-◌, ℕ, zero, suc, List, [], ◌∷◌, arith, slice_get, subst, sym}
use Rattle.kmip_plan.specs.declared.key.Key.{Key}
use Rattle.kmip_runs.specs.Crashes.{IsCrashing}
use Rattle.kmip_runs.specs.declared.crashing_run.CrashingRun.{CrashingRun}
use Rattle.kmip_scripted.specs.Runs.{crashing_runs_of}
use Rattle.kmip_scripted.specs.declared.word.Word.{Word}
use Rattle.kmip_simulation.specs.Simulating.{IsCrashOf, crashing_in_batches}

-- a crash is to end the run at a place, however many keys it asks about at once
pub crash_at : (batch : ℕ) (runs : List CrashingRun) (place : ℕ) → IsCrashing (slice_get (crashing_in_batches batch runs) place) → IsCrashing (slice_get runs place)
crash_at batch [] place is = is
crash_at batch (run ∷ runs) zero is = is
crash_at batch (run ∷ runs) (suc place) is = crash_at batch runs place is

-- a crash is to end the run after so many
pub crash_of : (batch : ℕ) (keys : List Key) (words : List Word) (runs : List CrashingRun) (count made : ℕ) → runs ≡ crashing_in_batches batch (crashing_runs_of keys words) → made ≡ count
    → IsCrashing (slice_get runs count) → IsCrashOf keys words (made + 1)
crash_of batch keys words runs count made are same is = (
  crash_at batch (crashing_runs_of keys words) (made + 1 - 1)
      (subst (λ place. IsCrashing (slice_get (crashing_in_batches batch (crashing_runs_of keys words)) place)) (omega (arith, same))
      (subst (λ rs. IsCrashing (slice_get rs count)) are is)),
  omega arith,
)

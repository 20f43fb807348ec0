-- How the words of a script ended is how the script did.
use Rattle.std.proofs.Common.{◌≡◌, ◌<◌, ℕ, List, Result, Ok, Err, IfOk, ap, arith, subst, sym, ◌∙◌}
use Rattle.kmip_ttlv.specs.declared.no_memory.NoMemory.{NoMemory}
use Rattle.kmip_plan.specs.declared.key.Key.{Key}
use Rattle.kmip_scripted.specs.ScriptTexts.{IsScript}
use Rattle.kmip_scripted.specs.Words.{crashes, prolongings}
use Rattle.kmip_scripted.specs.declared.word.Word.{Word}
use Rattle.kmip_simulation.specs.Simulating.{IsSimulated, IsSimulatedWithCrashes}
use Rattle.kmip_simulation.specs.declared.simulation.Simulation.{Simulation}
use Rattle.kmip_sim_command.specs.Private.{Plays}
use Rattle.kmip_sim_command.specs.SimEnds.{EndsPlan, IsRun}
use Rattle.kmip_sim_command.specs.declared.sim_end.SimEnd.{SimEnd}
use Rattle.kmip_sim_command.specs.declared.sim_end.SimEnd.TheVariants.{ProlongsNot, ScriptRefused, CrashRefused, Ran}

-- no word is a crash
pub ran_whole : (batch : ℕ) (keys : List Key) (words : List Word) (s : Simulation) → crashes words ≡ 0 → IsSimulated keys batch words s.end s.link
    → IsRun batch keys words s.end s.link
ran_whole batch keys words s none said = record { whole = λ is. said; crashed = λ some. absurd (omega (arith, some, none)) }

-- some word is
pub ran_crashed : (batch : ℕ) (keys : List Key) (words : List Word) (s : Simulation) → 0 < crashes words → IsSimulatedWithCrashes keys batch words s.end s.link
    → IsRun batch keys words s.end s.link
ran_crashed batch keys words s some said = record { whole = λ is. absurd (omega (arith, some, is)); crashed = λ so. said }

-- how the words of a script ended is how the script did
pub played : (batch : ℕ) (keys : List Key) (script : List ℕ) (words : List Word) (end : SimEnd) → IsScript script words → prolongings words ≡ 0
    → Plays batch keys words end → EndsPlan batch keys script end
played batch keys script words ProlongsNot said none plays = absurd plays
played batch keys script words (ScriptRefused line) said none plays = absurd plays
played batch keys script words (CrashRefused number) said none plays = record { words = words; is_script = said; none = none; crash = plays }
played batch keys script words (Ran s) said none (is, run) = record {
  is_script = subst (λ ws. IsScript script ws) (sym is) said;
  as_often = ap prolongings is ∙ none;
  no_crash = λ some. absurd (omega (arith, some));
  simulated = subst (λ ws. IsRun batch keys ws s.end s.link) (sym is) run;
}

-- unless memory ran out
pub played_if : (batch : ℕ) (keys : List Key) (script : List ℕ) (words : List Word) (result : Result SimEnd NoMemory) → IsScript script words → prolongings words ≡ 0
    → IfOk result (Plays batch keys words) → IfOk result (EndsPlan batch keys script)
played_if batch keys script words (Ok end) said none plays = played batch keys script words end said none plays
played_if batch keys script words (Err want) said none plays = tt

-- How a simulation ended, and what that has come of: a plan, a further one if there is one, and a script.
-- Source: own (view).
use Rattle.std.specs.Prelude.{◌≡◌, ◌≢◌, ◌⊎◌, ◌<◌, ℕ, List, [], ◌∷◌, Option, Some, None}
use Rattle.kmip_plan.specs.Prolonging.{Prolongs}
use Rattle.kmip_plan.specs.declared.key.Key.{Key}
use Rattle.kmip_runs.specs.declared.campaign_end.CampaignEnd.{CampaignEnd}
use Rattle.kmip_scripted.specs.Scenes.{Scene}
use Rattle.kmip_scripted.specs.ScriptTexts.{FailsAt, IsScript}
use Rattle.kmip_scripted.specs.Words.{crashes, prolongings}
use Rattle.kmip_scripted.specs.declared.word.Word.{Word}
use Rattle.kmip_simulation.specs.Simulating.{AreSimulated, IsSimulated, IsSimulatedWithCrashes, RefusesCrashOf}
use Rattle.kmip_simulation.specs.declared.simulation.Simulation.{Simulation}
use Rattle.kmip_sim_command.specs.declared.sim_end.SimEnd.{SimEnd}
use Rattle.kmip_sim_command.specs.declared.sim_end.SimEnd.TheVariants.{ProlongsNot, ScriptRefused, CrashRefused, Ran}

-- Each line of the script is a word, but `prolong` stands more or less often than it has to, or a `crash` beside
-- it. This is told as of line 0.
pub record HasOtherCount (script : List ℕ) (prolonged line : ℕ) : Type 0 where
  -- The line is 0.
  pub line_is : line ≡ 0
  -- The words of the script.
  pub words : List Word
  -- The script has these words.
  pub is_script : IsScript script words
  -- Another count of them is `prolong`, or one is `crash` where some have to be `prolong`.
  pub other : (prolongings words ≢ prolonged) ⊎ ((0 < prolonged) × (0 < crashes words))

-- A script in which `prolong` has to stand so often is refused for this line: the first that is at fault, or 0
-- for another count.
abbrev pub IsRefusedFor : List ℕ → ℕ → ℕ → Type 0
IsRefusedFor script prolonged line = FailsAt script line ⊎ HasOtherCount script prolonged line

-- What may hold of the runs that some words made: how their campaign ended, and the link then.
abbrev pub OfRuns : Type 1
OfRuns = List Word → CampaignEnd → Scene → Type 0

-- The script, in which `prolong` stands so often, was simulated. What holds of its runs is given.
pub record IsPlayed (Holds : OfRuns) (script : List ℕ) (prolonged : ℕ) (simulation : Simulation) : Type 0 where
  -- The words are those of the script.
  pub is_script : IsScript script simulation.words
  -- So many of them are `prolong`.
  pub as_often : prolongings simulation.words ≡ prolonged
  -- Where some are, none is `crash`.
  pub no_crash : 0 < prolonged → crashes simulation.words ≡ 0
  -- This holds of the runs that they made.
  pub simulated : Holds simulation.words simulation.end simulation.link

-- How a script ended in which `prolong` has to stand so often: it is refused for a line, or it was simulated.
abbrev pub EndsScript : OfRuns → List ℕ → ℕ → SimEnd → Type 0
EndsScript Holds script prolonged (ScriptRefused line) = IsRefusedFor script prolonged line
EndsScript Holds script prolonged (Ran simulation) = IsPlayed Holds script prolonged simulation
EndsScript Holds script prolonged end = ⊥

-- The runs of some words were made for the keys of a plan, of which each message asks about so many at most: as a
-- campaign, or as one with crashes where a word is `crash`.
pub record IsRun (batch : ℕ) (keys : List Key) (words : List Word) (end : CampaignEnd) (link : Scene) : Type 0 where
  -- No word is `crash`.
  pub whole : crashes words ≡ 0 → IsSimulated keys batch words end link
  -- Some word is.
  pub crashed : 0 < crashes words → IsSimulatedWithCrashes keys batch words end link

-- The disk of the run of this number does not allow the crash that the script has for it.
pub record HasRefusedCrash (batch : ℕ) (keys : List Key) (script : List ℕ) (number : ℕ) : Type 0 where
  -- The words of the script.
  pub words : List Word
  -- The script has these words.
  pub is_script : IsScript script words
  -- None of them is `prolong`.
  pub none : prolongings words ≡ 0
  -- They have a crash for the run of this number, and it was refused.
  pub crash : RefusesCrashOf keys batch words number

-- How a script ended for the keys of a plan, of which each message asks about so many at most.
abbrev pub EndsPlan : ℕ → List Key → List ℕ → SimEnd → Type 0
EndsPlan batch keys script (CrashRefused number) = HasRefusedCrash batch keys script number
EndsPlan batch keys script end = EndsScript (IsRun batch keys) script 0 end

-- How a script ended for the keys of a plan and, behind its one `prolong`, for those of a further one: the
-- further plan does not prolong the plan; or it does, and the script is refused, or was simulated for both.
abbrev pub EndsPlans : ℕ → List Key → List Key → List ℕ → SimEnd → Type 0
EndsPlans batch keys further script ProlongsNot = ¬ Prolongs further keys
EndsPlans batch keys further script end =
    Prolongs further keys
    × EndsScript (λ words end link. AreSimulated (keys ∷ further ∷ []) batch words end link) script 1 end

-- How a simulation ended for the keys of a plan, and for those of a further one if there is one.
abbrev pub EndsSim : ℕ → List Key → Option (List Key) → List ℕ → SimEnd → Type 0
EndsSim batch keys None script end = EndsPlan batch keys script end
EndsSim batch keys (Some further) script end = EndsPlans batch keys further script end

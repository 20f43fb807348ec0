-- What `sim` writes for a plan and a script, and for a further plan if there is one.
-- Source: own (view).
use Rattle.std.specs.Prelude.{◌≡◌, ◌⊎◌, ℕ, Bool, List, [], ◌++◌, Option, Result, Ok, Err}
use Rattle.std.specs.Io.KnownBytes.{Appends}
use Rattle.kmip_ttlv.specs.declared.no_memory.NoMemory.{NoMemory}
use Rattle.kmip_plan.specs.declared.key.Key.{Key}
use Rattle.kmip_report.specs.declared.command_fault.CommandFault.{CommandFault}
use Rattle.kmip_report.specs.declared.command_fault.CommandFault.TheVariants as faults
use Rattle.kmip_report.specs.declared.form.Form.{Form}
use Rattle.kmip_sim_command.specs.SimEnds.{EndsSim}
use Rattle.kmip_sim_command.specs.SimReport.{sim_outcome, sim_text}
use Rattle.kmip_sim_command.specs.declared.sim_end.SimEnd.{SimEnd}
use Rattle.kmip_sim_command.specs.declared.sim_input.SimInput.{SimInput}

-- The text is what is printed of an end of a simulation: of these keys, of those of a further plan if there is one, and of
-- the script of the input. And so the call ended.
pub record TellsSim (form : Form) (keys : List Key) (further : Option (List Key)) (input : SimInput) (ended : Result Bool NoMemory) (text : List ℕ) : Type 0 where
  -- How the simulation ended.
  pub end : SimEnd
  -- It is the end that these plans and the script come to.
  pub holds : EndsSim input.batch keys further input.script.now end
  -- The call says whether something is refused or left unfinished; or memory ran out in a run.
  pub ended_is : ended ≡ sim_outcome end
  -- This is printed of it.
  pub text_is : text ≡ sim_text form input.detail end

-- Such a text was written, and memory did not run out in a run.
pub record WritesSim (form : Form) (keys : List Key) (further : Option (List Key)) (input : SimInput) (refused : Bool) (old new : Option (List ℕ)) : Type 0 where
  -- The text.
  pub text : List ℕ
  -- It reports how the simulation ended.
  pub tells : TellsSim form keys further input (Ok refused) text
  -- It was written, and nothing else.
  pub written : Appends old new text

-- Memory ran out: nothing was written, or the runs of a campaign before memory ran out; and then a tail.
pub record BreaksOffSim (form : Form) (keys : List Key) (further : Option (List Key)) (input : SimInput) (tail : List ℕ) (old new : Option (List ℕ)) : Type 0 where
  -- The text before the tail.
  pub text : List ℕ
  -- There is none, or it reports a campaign in which memory ran out.
  pub tells : (text ≡ []) ⊎ ((want : NoMemory) × TellsSim form keys further input (Err want) text)
  -- Both were written, and nothing else.
  pub written : Appends old new (text ++ tail)

-- `sim` failed. Memory ran out, and exactly the runs before that and this line were printed; or its printer failed.
abbrev pub FailsSim : Form → List Key → Option (List Key) → SimInput → List ℕ → CommandFault → CommandFault → Option (List ℕ) → Option (List ℕ) → Type 0
FailsSim form keys further input line fault own_fault old new =
    ((fault ≡ faults.NoMemory) × BreaksOffSim form keys further input line old new) ⊎ (fault ≡ own_fault)

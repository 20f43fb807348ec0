-- The lines of a text that is not a plan, or not a progress of its plan.
-- Source: own (text): what the program prints.
use Rattle.std.specs.Prelude.{ℕ, Bool, true, false, List, [], ◌∷◌, codes, Option}
use Rattle.serde_json.specs.Data.{null}
use Rattle.kmip_report.specs.Documents.{count_or_null, text_or_null}
use Rattle.kmip_report.specs.Pieces.{Piece, noted, number, number_or, shown_or, word}
use Rattle.kmip_plan.specs.Faults.{plan_fault_field, plan_fault_name, plan_fault_number, plan_fault_place}
use Rattle.kmip_plan.specs.declared.plan_fault.PlanFault.{PlanFault}
use Rattle.kmip_plan.specs.declared.plan_fault.PlanFault.TheVariants.{NoMemory}
use Rattle.kmip_progress.specs.Faults.{progress_fault_name, progress_fault_number}
use Rattle.kmip_progress.specs.declared.progress_fault.ProgressFault.{ProgressFault}
use Rattle.kmip_progress.specs.declared.progress_fault.ProgressFault.TheVariants as progress_faults

-- Where a text has the fault for which it is refused, and why it is one, as far as that is known.
pub record Site : Type 0 where
  -- The line of the text, from 1.
  pub line : Option ℕ
  -- A sentence.
  pub why : Option (List ℕ)

-- The site of this line and this sentence.
abbrev pub site : Option ℕ → Option (List ℕ) → Site
site line why = record { line = line; why = why }

-- The last members of a refused text, in JSON alone: the path of its file, and why it is refused. What stands in the
-- way of a run is not known of it.
abbrev pub refused_at : Option (List ℕ) → Option (List ℕ) → List Piece
refused_at at why =
    noted (codes "at") (text_or_null at)
    ∷ noted (codes "why") (text_or_null why)
    ∷ noted (codes "cause") null
    ∷ []

-- The line of a fault of a plan, of the text at this path: its number, its name, the field in plain characters and the
-- place of the key, if there are any, and in JSON the line of the text, the path, and why it is refused.
unfoldable pub plan_refusal : PlanFault → Option (List ℕ) → Site → List Piece
plan_refusal fault at found =
    word (codes "") (codes "fault") (codes "plan refused")
    ∷ number (codes ": ") (codes "number") (plan_fault_number fault)
    ∷ word (codes " ") (codes "name") (plan_fault_name fault)
    ∷ shown_or (codes " ") (codes "field") (codes "") (plan_fault_field fault)
    ∷ number_or (codes " at key ") (codes "key") (codes "") (plan_fault_place fault)
    ∷ noted (codes "line") (count_or_null found.line)
    ∷ refused_at at found.why

-- True if the fault of a plan is that memory ran out, which refuses nothing.
abbrev pub is_memory : PlanFault → Bool
is_memory NoMemory = true
is_memory fault = false

-- True if the fault of a progress is that memory ran out, which refuses nothing.
abbrev pub is_progress_memory : ProgressFault → Bool
is_progress_memory progress_faults.NoMemory = true
is_progress_memory fault = false

-- The line of a fault of a progress, of the text at this path: its number and its name, and in JSON the path, and why
-- it is refused.
unfoldable pub progress_refusal : ProgressFault → Option (List ℕ) → Option (List ℕ) → List Piece
progress_refusal fault at why =
    word (codes "") (codes "fault") (codes "progress refused")
    ∷ number (codes ": ") (codes "number") (progress_fault_number fault)
    ∷ word (codes " ") (codes "name") (progress_fault_name fault)
    ∷ refused_at at why

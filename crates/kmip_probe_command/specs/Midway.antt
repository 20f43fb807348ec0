-- What `probe` has written where it breaks off: the first lines of what is told of the answers that have
-- come.
-- Source: own (text): what the program prints.
use Rattle.std.specs.Prelude.{◌≡◌, ◌≤◌, ℕ, List, [], ◌∷◌, ◌++◌, length, map, Option}
use Rattle.std.specs.Io.KnownBytes.{Appends}
use Rattle.std.specs.List.{concat}
use Rattle.kmip_probe.specs.Judging.{active_is_kept, attributes_are_told, destroyed_are_found, ids_are_echoed, names_are_unique, names_stay_used, objects_are_found, steps_count_once}
use Rattle.kmip_probe.specs.declared.answer.Answer.{Answer}
use Rattle.kmip_probe.specs.declared.finding.Finding.{Finding}
use Rattle.kmip_probe.specs.declared.inquiry.TheConstants.{LOOKS}
use Rattle.kmip_report.specs.declared.form.Form.{Form}
use Rattle.kmip_probe_command.specs.ProbeText.{finding_text, making_text}
use Rattle.kmip_probe_command.specs.declared.premise.Premise.{Premise}
use Rattle.kmip_probe_command.specs.declared.premise.Premise.TheVariants as premise
use Rattle.kmip_probe_command.specs.declared.premise.TheConstants.{EARLY_ANSWERS, LATE_ANSWERS, PREMISES}

-- What answers say of a premise.
abbrev pub finding_by : List ℕ → List Answer → Premise → Finding
finding_by prefix answers premise.NamesAreUnique = names_are_unique answers
finding_by prefix answers premise.NamesStayUsed = names_stay_used answers
finding_by prefix answers premise.StepsCountOnce = steps_count_once answers
finding_by prefix answers premise.ActiveIsKept = active_is_kept answers
finding_by prefix answers premise.ObjectsAreFound = objects_are_found answers
finding_by prefix answers premise.DestroyedAreFound = destroyed_are_found answers
finding_by prefix answers premise.AttributesAreTold = attributes_are_told prefix answers
finding_by prefix answers premise.IdsAreEchoed = ids_are_echoed answers

-- The line of a premise by answers.
abbrev pub line_by : Form → List ℕ → List Answer → Premise → List ℕ
line_by form prefix answers p = finding_text form p (finding_by prefix answers p)

-- The lines that are told in turn: which keys are to be made, and what is found of each premise.
abbrev pub lines_by : Form → List ℕ → List Answer → List (List ℕ)
lines_by form prefix answers = making_text form prefix ∷ map (line_by form prefix answers) PREMISES

-- How many answers have come before these lines are told. They are those to both looks, then those to the
-- Locates before the first object is destroyed, and then those to all questions about it.
abbrev pub answers_before : List (List ℕ) → ℕ
answers_before [] = 0
answers_before (making ∷ []) = LOOKS
answers_before (making ∷ unique ∷ []) = EARLY_ANSWERS
answers_before (making ∷ unique ∷ used ∷ lines) = LATE_ANSWERS

-- The first of these lines were written, as far as the answers that have come decide them, and then
-- `tail`.
pub record TellsSome (form : Form) (prefix tail : List ℕ) (old new : Option (List ℕ)) : Type 0 where
  pub answers : List Answer
  pub told : List (List ℕ)
  pub left : List (List ℕ)
  pub whole : lines_by form prefix answers ≡ told ++ left
  pub decided : answers_before told ≤ length answers
  pub written : Appends old new (concat told ++ tail)

-- Private: definitions that only clauses of private functions cite.
-- Source: own (view): parts of the public definitions of this crate.
use Rattle.std.specs.Prelude.{ℕ, Bool, List, [], ◌++◌, ◌≡◌, ◌⊎◌, Option, Result, Ok, Err, not}
use Rattle.kmip_probe_command.specs.declared.premise.Premise.TheVariants as premise
use Rattle.kmip_probe.specs.declared.findings.Findings.{Findings}
use Rattle.kmip_report.specs.declared.form.Form.{Form}
use Rattle.kmip_probe_command.specs.ProbeText.{end_text, line_of}
use Rattle.kmip_probe_command.specs.Wording.{are_all_kept}
use Rattle.std.specs.Io.KnownBytes.{Appends}
use Rattle.kmip_report.specs.declared.command_fault.CommandFault.{CommandFault}
use Rattle.kmip_report.specs.declared.command_fault.CommandFault.TheVariants.{Input, Output, NoMemory}
use Rattle.kmip_report.specs.Endings.{FailsBy, UnlessOutput, status_of}
use Rattle.kmip_report.specs.FaultLines.{no_memory}
use Rattle.kmip_report.specs.Pieces.{line_in}
use Rattle.kmip_report.specs.declared.exit_status.ExitStatus.{ExitStatus}
use Rattle.kmip_report.specs.declared.exit_status.ExitStatus.TheVariants.{Failed}
use Rattle.kmip_probe.specs.Judging.{AreFindings}
use Rattle.kmip_probe.specs.declared.answer.Answer.{Answer}
use Rattle.kmip_probe_command.specs.Midway.{TellsSome}

-- What is left of the report after the lines of all premises but the last.
abbrev pub rest_text : Form → Findings → List ℕ
rest_text form findings = line_of form findings premise.IdsAreEchoed ++ end_text form findings

-- A probe broke off, for want of memory, or by the fault of its printer, which holds whole texts
-- if it takes all or nothing.
abbrev pub BreaksMidway : Form → CommandFault → CommandFault → Type 0 → List ℕ → Option (List ℕ) → Option (List ℕ) → Type 0
BreaksMidway form fault own_fault IsWhole prefix old new =
    ((fault ≡ NoMemory) × TellsSome form prefix [] old new) ⊎ ((fault ≡ own_fault) × (IsWhole → TellsSome form prefix [] old new))

-- This was written by some findings of these answers, and whether a premise is not seen to be
-- kept.
abbrev pub TellsEnd : (Findings → List ℕ) → List ℕ → List Answer → Bool → Option (List ℕ) → Option (List ℕ) → Type 0
TellsEnd text prefix answers refused old new =
    (findings : Findings) × AreFindings prefix answers findings × (refused ≡ not (are_all_kept findings)) × Appends old new (text findings)

-- How the program ends after a probe, and what it writes then: if memory ran out, the line of that in this form.
abbrev pub EndsIn : Form → Result Bool CommandFault → ExitStatus → Option (List ℕ) → Option (List ℕ) → Type 0
EndsIn form (Ok refused) status old new = (status ≡ status_of refused) × (new ≡ old)
EndsIn form (Err NoMemory) status old new =
    FailsBy status (λ last. UnlessOutput last ((last ≡ NoMemory) × Appends old new (line_in form no_memory)))
EndsIn form (Err Output) status old new = status ≡ Failed Output
EndsIn form (Err Input) status old new = status ≡ Failed Input

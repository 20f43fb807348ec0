-- What holds of a report that was made holds of how it was printed.
use Rattle.std.proofs.Common.{◌≡◌, ◌⊎◌, inl, inr, ℕ, Bool, List, [], Option, Result, Ok, Err, subst, sym, ◌∙◌}
use Rattle.std.specs.Io.KnownBytes.{Appends}
use Rattle.std.proofs.KnownBytes.{Appends-trans}
use Rattle.kmip_ttlv.specs.declared.no_memory.NoMemory.{NoMemory}
use Rattle.kmip_plan.specs.declared.key.Key.{Key}
use Rattle.kmip_report.specs.Endings.{FailsBy, FailsToPrint, IfFailed, IfWhole}
use Rattle.kmip_report.specs.declared.command_fault.CommandFault.{CommandFault}
use Rattle.kmip_report.specs.declared.exit_status.ExitStatus.{ExitStatus}
use Rattle.kmip_report.specs.declared.exit_status.ExitStatus.TheVariants.{Done, Refused, Failed, Usage}
use Rattle.kmip_report.specs.declared.form.Form.{Form}
use Rattle.kmip_sim_command.specs.Private.{FailsAfter}
use Rattle.kmip_sim_command.specs.Writing.{FailsSim, TellsSim, WritesSim}
use Rattle.kmip_sim_command.specs.declared.sim_input.SimInput.{SimInput}

-- what was made is an error, so the command failed
pub fails_by : (status : ExitStatus) (made : Result Bool NoMemory) (want : NoMemory) (P : CommandFault → Type 0) → made ≡ Err want → IfWhole status (λ r. made ≡ Ok r) → IfFailed status P
    → FailsBy status P
fails_by Done made want P is whole failed = let both = sym is ∙ whole in absurd cc
fails_by Refused made want P is whole failed = let both = sym is ∙ whole in absurd cc
fails_by (Failed fault) made want P is whole failed = failed
fails_by Usage made want P is whole failed = absurd whole

-- a command that failed did not end otherwise
pub not_whole : (status : ExitStatus) (P : CommandFault → Type 0) (Q : Bool → Type 0) → FailsBy status P → IfWhole status Q
not_whole Done P Q fails = absurd fails
not_whole Refused P Q fails = absurd fails
not_whole (Failed fault) P Q fails = tt
not_whole Usage P Q fails = absurd fails

pub if_failed : (status : ExitStatus) (P : CommandFault → Type 0) → FailsBy status P → IfFailed status P
if_failed Done P fails = absurd fails
if_failed Refused P fails = absurd fails
if_failed (Failed fault) P fails = fails
if_failed Usage P fails = absurd fails

-- what was printed first, and then the line
joined_by : (fault own : CommandFault) (Whole : Type 0) (old mid new : Option (List ℕ)) (runs line : List ℕ) → Appends old mid runs → FailsToPrint line fault own Whole mid new
    → FailsAfter runs line fault own old new
joined_by fault own Whole old mid new runs line first (inl (is, written)) = inl (is, Appends-trans old mid new runs line first written)
joined_by fault own Whole old mid new runs line first (inr (is, kept)) = inr is

pub joined : (status : ExitStatus) (own : CommandFault) (Whole : Type 0) (old mid new : Option (List ℕ)) (runs line : List ℕ) → Appends old mid runs
    → FailsBy status (λ fault. FailsToPrint line fault own Whole mid new) → FailsBy status (λ fault. FailsAfter runs line fault own old new)
joined Done own Whole old mid new runs line first fails = absurd fails
joined Refused own Whole old mid new runs line first fails = absurd fails
joined (Failed fault) own Whole old mid new runs line first fails = joined_by fault own Whole old mid new runs line first fails
joined Usage own Whole old mid new runs line first fails = absurd fails

-- nothing was printed before the line
after_nothing : (fault own : CommandFault) (Whole : Type 0) (old new : Option (List ℕ)) (line : List ℕ) → FailsToPrint line fault own Whole old new → FailsAfter [] line fault own old new
after_nothing fault own Whole old new line (inl (is, written)) = inl (is, written)
after_nothing fault own Whole old new line (inr (is, kept)) = inr is

pub if_nothing : (status : ExitStatus) (own : CommandFault) (Whole : Type 0) (old new : Option (List ℕ)) (line : List ℕ)
    → IfFailed status (λ fault. FailsToPrint line fault own Whole old new) → IfFailed status (λ fault. FailsAfter [] line fault own old new)
if_nothing Done own Whole old new line fails = tt
if_nothing Refused own Whole old new line fails = tt
if_nothing (Failed fault) own Whole old new line fails = after_nothing fault own Whole old new line fails
if_nothing Usage own Whole old new line fails = absurd fails

module _ (form : Form) (keys : List Key) (further : Option (List Key)) (input : SimInput) (text tail : List ℕ) (old new : Option (List ℕ)) where
  -- the report was written
  pub whole : (status : ExitStatus) (ended : Result Bool NoMemory) → TellsSim form keys further input ended text → IfWhole status (λ r. Appends old new text)
      → IfWhole status (λ r. ended ≡ Ok r) → IfWhole status (λ r. WritesSim form keys further input r old new)
  whole Done ended tells written is = record { text = text; tells = subst (λ e. TellsSim form keys further input e text) is tells; written = written }
  whole Refused ended tells written is = record { text = text; tells = subst (λ e. TellsSim form keys further input e text) is tells; written = written }
  whole (Failed fault) ended tells written is = tt
  whole Usage ended tells written is = absurd written

  broken_by : (fault own : CommandFault) → ((text ≡ []) ⊎ ((want : NoMemory) × TellsSim form keys further input (Err want) text)) → FailsAfter text tail fault own old new
      → FailsSim form keys further input tail fault own old new
  broken_by fault own tells (inl (is, written)) = inl (is, record { text = text; tells = tells; written = written })
  broken_by fault own tells (inr is) = inr is

  -- nothing was printed, or the runs before memory ran out, and then the line
  pub broken : (status : ExitStatus) (own : CommandFault) → ((text ≡ []) ⊎ ((want : NoMemory) × TellsSim form keys further input (Err want) text))
      → IfFailed status (λ fault. FailsAfter text tail fault own old new) → IfFailed status (λ fault. FailsSim form keys further input tail fault own old new)
  broken Done own tells written = tt
  broken Refused own tells written = tt
  broken (Failed fault) own tells written = broken_by fault own tells written
  broken Usage own tells written = absurd written

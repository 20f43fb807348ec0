-- What a failure on a printer is on a writer, and in memory. For the crates above.
use Rattle.std.proofs.Common.{◌≡◌, ◌≢◌, List, ℕ, [], Option, Result, Ok, Err, IfErr, sym, ◌∙◌, inl, inr}
use Rattle.std.specs.Io.KnownBytes.{Appends}
use Rattle.std.proofs.KnownBytes.{Appends-kept, Appends-nil}
use Rattle.kmip_report.specs.Endings.{FailsToPrint, IfFailed, UnlessOutput}
use Rattle.kmip_report.specs.Private.{Fails}
use Rattle.kmip_report.specs.declared.command_fault.CommandFault.{CommandFault}
use Rattle.kmip_report.specs.declared.exit_status.ExitStatus.{ExitStatus}
use Rattle.kmip_report.specs.declared.exit_status.ExitStatus.TheVariants.{Done, Refused, Failed, Usage}
use Rattle.kmip_report.specs.declared.command_fault.CommandFault.TheVariants.{Input, Output, NoMemory}

fails_at_writer : (fault : CommandFault) (Whole : Type 0) (old new : Option (List ℕ)) → Fails fault Output Whole old new → UnlessOutput fault (Appends old new [])
fails_at_writer fault Whole old new (inl (is, kept)) = rw is (Appends-kept old old new [] (Appends-nil old) kept)
fails_at_writer fault Whole old new (inr (is, kept)) = rw is tt

-- unless the writer failed, nothing was written
pub fails_on_writer : {A : Type 0} (result : Result A CommandFault) (Whole : Type 0) (old new : Option (List ℕ))
    → IfErr result (λ fault. Fails fault Output Whole old new) → IfErr result (λ fault. UnlessOutput fault (Appends old new []))
fails_on_writer (Ok a) Whole old new fails = tt
fails_on_writer (Err fault) Whole old new fails = fails_at_writer fault Whole old new fails

no_input_at : (fault : CommandFault) (Whole : Type 0) (old new : Option (List ℕ)) → Fails fault Output Whole old new → fault ≢ Input
no_input_at fault Whole old new (inl (is, kept)) = λ input. let both : NoMemory ≡ Input = sym is ∙ input in absurd cc
no_input_at fault Whole old new (inr (is, kept)) = λ input. let both : Output ≡ Input = sym is ∙ input in absurd cc

-- and nothing is said of a reader
pub no_input : {A : Type 0} (result : Result A CommandFault) (Whole : Type 0) (old new : Option (List ℕ))
    → IfErr result (λ fault. Fails fault Output Whole old new) → IfErr result (λ fault. fault ≢ Input)
no_input (Ok a) Whole old new fails = tt
no_input (Err fault) Whole old new fails = no_input_at fault Whole old new fails

-- ---- a report

printed_at : (line : List ℕ) (fault : CommandFault) (Whole : Type 0) (old new : Option (List ℕ)) → FailsToPrint line fault Output Whole old new → UnlessOutput fault (Appends old new line)
printed_at line fault Whole old new (inl (is, written)) = rw is written
printed_at line fault Whole old new (inr (is, kept)) = rw is tt

-- unless the writer failed, exactly the line was written
pub printed_on_writer : (status : ExitStatus) (line : List ℕ) (Whole : Type 0) (old new : Option (List ℕ))
    → IfFailed status (λ fault. FailsToPrint line fault Output Whole old new) → IfFailed status (λ fault. UnlessOutput fault (Appends old new line))
printed_on_writer Done line Whole old new fails = tt
printed_on_writer Refused line Whole old new fails = tt
printed_on_writer (Failed fault) line Whole old new fails = printed_at line fault Whole old new fails
printed_on_writer Usage line Whole old new fails = absurd fails

read_at : (line : List ℕ) (fault : CommandFault) (Whole : Type 0) (old new : Option (List ℕ)) → FailsToPrint line fault Output Whole old new → fault ≢ Input
read_at line fault Whole old new (inl (is, written)) = λ input. let both : NoMemory ≡ Input = sym is ∙ input in absurd cc
read_at line fault Whole old new (inr (is, kept)) = λ input. let both : Output ≡ Input = sym is ∙ input in absurd cc

-- and nothing is said of a reader
pub printed_without_input : (status : ExitStatus) (line : List ℕ) (Whole : Type 0) (old new : Option (List ℕ))
    → IfFailed status (λ fault. FailsToPrint line fault Output Whole old new) → IfFailed status (λ fault. fault ≢ Input)
printed_without_input Done line Whole old new fails = tt
printed_without_input Refused line Whole old new fails = tt
printed_without_input (Failed fault) line Whole old new fails = read_at line fault Whole old new fails
printed_without_input Usage line Whole old new fails = absurd fails

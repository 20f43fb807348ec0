-- How a command ends, and what it prints then.
-- Source: own (text): the texts and the numbers.
use Rattle.std.specs.Prelude.{◌≡◌, ◌⊎◌, ℕ, Bool, true, false, List, ◌++◌, codes, Option, Result, Ok, Err}
use Rattle.std.specs.Io.KnownBytes.{Appends, Keeps}
use Rattle.kmip_report.specs.declared.exit_status.ExitStatus.{ExitStatus}
use Rattle.kmip_report.specs.declared.exit_status.ExitStatus.TheVariants.{Done, Refused, Failed, Usage}
use Rattle.kmip_report.specs.declared.command_fault.CommandFault.{CommandFault}
use Rattle.kmip_report.specs.declared.command_fault.CommandFault.TheVariants.{Input, Output, NoMemory}

-- This holds unless the fault is that of the writer, which may have taken anything.
abbrev pub UnlessOutput : CommandFault → Type 0 → Type 0
UnlessOutput Input P = P
UnlessOutput Output P = Unit {0}
UnlessOutput NoMemory P = P

-- The text of a fault. Own (text).
abbrev pub command_fault_text : CommandFault → List ℕ
command_fault_text Input = codes "cannot read input"
command_fault_text Output = codes "cannot write output"
command_fault_text NoMemory = codes "no memory"

-- The line of a fault: its text and a line feed. Own (text).
abbrev pub fault_line : CommandFault → List ℕ
fault_line fault = command_fault_text fault ++ codes "\n"

-- The number that the program ends with: 0 where nothing was refused, 1 where something was or reading,
-- writing or memory failed, 2 for a wrong command line. Own (text).
abbrev pub code_of : ExitStatus → ℕ
code_of Done = 0
code_of Refused = 1
code_of (Failed fault) = 1
code_of Usage = 2

-- How the program ends after a command that says whether it refused something.
abbrev pub status_of : Bool → ExitStatus
status_of false = Done
status_of true = Refused

-- Where a command did all that it had to do, this holds of whether something was refused. It did not end
-- by `Usage`.
abbrev pub IfWhole : ExitStatus → (Bool → Type 0) → Type 0
IfWhole Done P = P false
IfWhole Refused P = P true
IfWhole (Failed fault) P = Unit {0}
IfWhole Usage P = ⊥

-- Where a command broke off, this holds of the fault. It did not end by `Usage`.
abbrev pub IfFailed : ExitStatus → (CommandFault → Type 0) → Type 0
IfFailed Done P = Unit {0}
IfFailed Refused P = Unit {0}
IfFailed (Failed fault) P = P fault
IfFailed Usage P = ⊥

-- A command broke off, and this holds of the fault.
abbrev pub FailsBy : ExitStatus → (CommandFault → Type 0) → Type 0
FailsBy Done P = ⊥
FailsBy Refused P = ⊥
FailsBy (Failed fault) P = P fault
FailsBy Usage P = ⊥

-- How the program ends after a command, and what it prints then. After a fault it prints the line of the
-- fault, unless that cannot be written either.
abbrev pub Finishes : Result Bool CommandFault → ExitStatus → Option (List ℕ) → Option (List ℕ) → Type 0
Finishes (Ok refused) status old new = (status ≡ status_of refused) × (new ≡ old)
Finishes (Err fault) status old new =
    FailsBy status (λ last. UnlessOutput last ((last ≡ fault) × Appends old new (fault_line fault)))

-- A report was not printed. Memory ran out, and exactly the line of that was printed; or its printer failed, which
-- then holds what it held if it takes all or nothing.
abbrev pub FailsToPrint : List ℕ → CommandFault → CommandFault → Type 0 → Option (List ℕ) → Option (List ℕ) → Type 0
FailsToPrint line fault own_fault IsWhole old new =
    ((fault ≡ NoMemory) × Appends old new line) ⊎ ((fault ≡ own_fault) × (IsWhole → Keeps old new))

-- How the program ends after a probe, which reads nothing.
use Rattle.std.proofs.Common.{◌≡◌, ◌≢◌, ℕ, Bool, true, false, List, Option, Result, Ok, Err, IfErr, refl}
use Rattle.kmip_report.specs.Endings.{IfFailed}
use Rattle.kmip_report.specs.declared.exit_status.ExitStatus.{ExitStatus}
use Rattle.kmip_report.specs.declared.exit_status.ExitStatus.TheVariants.{Done, Refused, Failed, Usage}
use Rattle.kmip_report.specs.declared.command_fault.CommandFault.{CommandFault}
use Rattle.kmip_report.specs.declared.command_fault.CommandFault.TheVariants.{Input, Output, NoMemory}
use Rattle.kmip_report.specs.declared.form.Form.{Form}
use Rattle.kmip_probe_command.specs.Private.{EndsIn}

-- no fault of a reader, as the command has none
pub ends_without_input : (form : Form) (ended : Result Bool CommandFault) (status : ExitStatus) (old new : Option (List ℕ)) → EndsIn form ended status old new
    → IfErr ended (λ fault. fault ≢ Input) → IfFailed status (λ fault. fault ≢ Input)
ends_without_input form (Ok false) status old new (is, same) none = rw is tt
ends_without_input form (Ok true) status old new (is, same) none = rw is tt
ends_without_input form (Err NoMemory) Done old new ends none = absurd ends
ends_without_input form (Err NoMemory) Refused old new ends none = absurd ends
ends_without_input form (Err NoMemory) Usage old new ends none = absurd ends
ends_without_input form (Err NoMemory) (Failed Input) old new (is, written) none = absurd cc
ends_without_input form (Err NoMemory) (Failed Output) old new ends none = λ input. absurd cc
ends_without_input form (Err NoMemory) (Failed NoMemory) old new ends none = λ input. absurd cc
ends_without_input form (Err Output) status old new is none = rw is (λ (input : Output ≡ Input). absurd cc)
ends_without_input form (Err Input) status old new is none = absurd (none refl)

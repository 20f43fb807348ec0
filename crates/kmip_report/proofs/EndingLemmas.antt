-- How the program ends after a command, and what was written then. For the crates above: no clause can speak of any
-- property of what was written.
use Rattle.std.proofs.Common.{◌≡◌, ℕ, Bool, true, false, List, Option, Result, Ok, Err, IfOk, sym, subst}
use Rattle.std.specs.Result.{IfErr}
use Rattle.std.specs.Io.KnownBytes.{Appends}
use Rattle.kmip_report.specs.Endings.{UnlessOutput, IfWhole, IfFailed, Finishes, fault_line, status_of}
use Rattle.kmip_report.specs.declared.exit_status.ExitStatus.{ExitStatus}
use Rattle.kmip_report.specs.declared.exit_status.ExitStatus.TheVariants.{Done, Refused, Failed, Usage}
use Rattle.kmip_report.specs.declared.command_fault.CommandFault.{CommandFault}
use Rattle.kmip_report.specs.declared.command_fault.CommandFault.TheVariants.{Input, Output, NoMemory}

-- of any fault but the writer's
pub unless : (fault : CommandFault) (P : Type 0) → P → UnlessOutput fault P
unless Input P p = p
unless Output P p = tt
unless NoMemory P p = p

pub unless_output : (fault : CommandFault) (P : Type 0) → fault ≡ Output → UnlessOutput fault P
unless_output fault P is = subst (λ f. UnlessOutput f P) (sym is) tt

-- what holds of a command that did all holds of how the program ends
pub finished_whole : (ended : Result Bool CommandFault) (status : ExitStatus) (mid new : Option (List ℕ)) (P : Option (List ℕ) → Bool → Type 0)
    → Finishes ended status mid new → IfOk ended (P mid) → IfWhole status (P new)
finished_whole (Ok refused) status mid new P f is = subst (λ s. IfWhole s (P new)) (sym f.0) (of_status refused (subst (λ w. P w refused) (sym f.1) is))
  where
    of_status : (refused : Bool) → P new refused → IfWhole (status_of refused) (P new)
    of_status true p = p
    of_status false p = p
finished_whole (Err fault) Done mid new P f is = absurd f
finished_whole (Err fault) Refused mid new P f is = absurd f
finished_whole (Err fault) (Failed last) mid new P f is = tt
finished_whole (Err fault) Usage mid new P f is = absurd f

-- what holds of a command that broke off, with the line of its fault
pub finished_broken : (ended : Result Bool CommandFault) (status : ExitStatus) (mid new : Option (List ℕ)) (P Q : CommandFault → Type 0)
    → Finishes ended status mid new
    → ((fault : CommandFault) → P fault → Appends mid new (fault_line fault) → Q fault)
    → IfErr ended (λ fault. UnlessOutput fault (P fault)) → IfFailed status (λ fault. UnlessOutput fault (Q fault))
finished_broken (Ok false) status mid new P Q f joins is = subst (λ s. IfFailed s (λ fault. UnlessOutput fault (Q fault))) (sym f.0) tt
finished_broken (Ok true) status mid new P Q f joins is = subst (λ s. IfFailed s (λ fault. UnlessOutput fault (Q fault))) (sym f.0) tt
finished_broken (Err fault) Done mid new P Q f joins is = absurd f
finished_broken (Err fault) Refused mid new P Q f joins is = absurd f
finished_broken (Err fault) Usage mid new P Q f joins is = absurd f
finished_broken (Err fault) (Failed Output) mid new P Q f joins is = tt
finished_broken (Err fault) (Failed Input) mid new P Q f joins is =
    joins Input (subst (λ x. UnlessOutput x (P x)) (sym f.0) is) (subst (λ x. Appends mid new (fault_line x)) (sym f.0) f.1)
finished_broken (Err fault) (Failed NoMemory) mid new P Q f joins is =
    joins NoMemory (subst (λ x. UnlessOutput x (P x)) (sym f.0) is) (subst (λ x. Appends mid new (fault_line x)) (sym f.0) f.1)

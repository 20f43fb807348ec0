-- What holds of a report that was made holds of how it was printed.
use Rattle.std.proofs.Common.{◌≡◌, Bool, true, false, Result, Ok}
use Rattle.kmip_report.specs.Endings.{IfWhole}
use Rattle.kmip_report.specs.declared.exit_status.ExitStatus.{ExitStatus}
use Rattle.kmip_report.specs.declared.exit_status.ExitStatus.TheVariants.{Done, Refused, Failed, Usage}
use Rattle.kmip_ttlv.specs.declared.no_memory.NoMemory.{NoMemory}

pub whole_if : (P : Bool → Type 0) (A : Type 0) (status : ExitStatus) (made : Result Bool NoMemory) → IfWhole status (λ r. A) → IfWhole status (λ r. made ≡ Ok r)
    → ((r : Bool) → made ≡ Ok r → A → P r) → IfWhole status P
whole_if P A Done made written is then = then false is written
whole_if P A Refused made written is then = then true is written
whole_if P A (Failed fault) made written is then = tt
whole_if P A Usage made written is then = absurd written

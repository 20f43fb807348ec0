-- What holds of a report that was made holds of how it was printed.
use Rattle.std.proofs.Common.{◌≡◌, ℕ, Bool, true, false, List, [], Option, Result, Ok, Err, IfOk, subst}
use Rattle.std.specs.Io.KnownBytes.{Appends}
use Rattle.kmip_report.specs.declared.form.Form.{Form}
use Rattle.kmip_ttlv.specs.declared.no_memory.NoMemory.{NoMemory}
use Rattle.kmip_report.specs.Endings.{IfWhole}
use Rattle.kmip_report.specs.declared.exit_status.ExitStatus.{ExitStatus}
use Rattle.kmip_report.specs.declared.exit_status.ExitStatus.TheVariants.{Done, Refused, Failed, Usage}
use Rattle.kmip_plan.specs.declared.key.Key.{Key}
use Rattle.kmip_look.specs.declared.looked.Looked.{Looked}
use Rattle.kmip_look_command.specs.Private.{AppendsLooked}
use Rattle.kmip_look_command.specs.Writing.{TellsLooked}

-- a report that was made and then written
told : (form : Form) (keys : List Key) (looked : Result (List Looked) NoMemory) (text : List ℕ) (old new : Option (List ℕ)) (refused : Bool)
    → AppendsLooked form keys looked [] text refused → Appends old new text → TellsLooked form keys looked old new refused
told form keys (Ok lookeds) text old new refused (is, same) written = (is, subst (λ (t : List ℕ). Appends old new t) same written)
told form keys (Err want) text old new refused none written = absurd none

of_made : (P : Bool → Type 0) (made : Result Bool NoMemory) (refused : Bool) → made ≡ Ok refused → IfOk made P → P refused
of_made P made refused is holds = subst (λ (r : Result Bool NoMemory). IfOk r P) is holds

pub whole_told : (form : Form) (keys : List Key) (looked : Result (List Looked) NoMemory) (made : Result Bool NoMemory) (before text : List ℕ) (old new : Option (List ℕ)) (status : ExitStatus)
    → before ≡ [] → IfOk made (AppendsLooked form keys looked before text) → IfWhole status (λ r. Appends old new text) → IfWhole status (λ r. made ≡ Ok r)
    → IfWhole status (TellsLooked form keys looked old new)
whole_told form keys looked made before text old new Done empty appended written is =
    told form keys looked text old new false
    (subst (λ (t : List ℕ). AppendsLooked form keys looked t text false) empty (of_made (AppendsLooked form keys looked before text) made false is appended)) written
whole_told form keys looked made before text old new Refused empty appended written is =
    told form keys looked text old new true
    (subst (λ (t : List ℕ). AppendsLooked form keys looked t text true) empty (of_made (AppendsLooked form keys looked before text) made true is appended)) written
whole_told form keys looked made before text old new (Failed fault) empty appended written is = tt
whole_told form keys looked made before text old new Usage empty appended written is = absurd written

-- A line that was appended with some value is one that was appended with one. For the crates above, too.
use Rattle.std.proofs.Common.{◌≡◌, ℕ, List, [], ◌∷◌, ◌++◌, Result, Ok, Err, OnOk}
use Rattle.kmip_report.specs.declared.form.Form.{Form}
use Rattle.kmip_report.specs.Pieces.{Piece, line_in, report_in}
use Rattle.kmip_report.proofs.ForCallers.{report_of_one}
use Rattle.kmip_plan_report.specs.Refusals.{Site}

pub by_some : {T E A : Type 0} (P : A → Type 0) (result : Result T E) (x : A) → OnOk result (P x) → OnOk result ((y : A) × P y)
by_some P (Err fault) x is = tt
by_some P (Ok value) x is = (x, is)

-- the report of one line at a site
pub report_at : {T E : Type 0} (result : Result T E) (form : Form) (old new : List ℕ) (line : Site → List Piece) (found : Site)
    → OnOk result (new ≡ old ++ line_in form (line found)) → OnOk result ((x : Site) × (new ≡ old ++ report_in form (line x ∷ [])))
report_at result form old new line found written =
    by_some (λ (x : Site). new ≡ old ++ report_in form (line x ∷ [])) result found (report_of_one result form old new (line found) written)

-- A line that was appended is that of what keeps a command from its work.
use Rattle.std.proofs.Common.{◌≡◌, ◌++◌, ℕ, List, codes, Option, None, string_bytes, Result, Ok, Err, OnOk, ap, subst}
use Rattle.std.proofs.Common.{◌∙◌}
use Rattle.kmip_report.specs.declared.form.Form.{Form}
use Rattle.kmip_report.specs.Pieces.{Piece, line_in}
use Rattle.kmip_plan_report.specs.Refusals.{Site, site}
use Rattle.kmip_plan_report.proofs.RefusalLemmas.{by_some}
use Rattle.kmip_trouble.specs.ObstacleLines.{fault_at, obstacle_line}
use Rattle.kmip_trouble.specs.Words.{cannot_word}
use Rattle.kmip_trouble.specs.declared.cannot.Cannot as cannot
use Rattle.kmip_trouble.specs.declared.obstacle.Obstacle.{Obstacle}

pub told : {T E : Type 0} (result : Result T E) (form : Form) (old new : List ℕ) (obstacle : Obstacle)
    (line : List Piece) (found : Site) → line ≡ obstacle_line obstacle found
    → OnOk result (new ≡ old ++ line_in form line)
    → OnOk result ((x : Site) × (new ≡ old ++ line_in form (obstacle_line obstacle x)))
told result form old new obstacle line found same written =
    by_some (λ (x : Site). new ≡ old ++ line_in form (obstacle_line obstacle x)) result found
    (subst (λ (said : List Piece). OnOk result (new ≡ old ++ line_in form said)) same written)

-- the same where some words of the system are told
pub told_why : {T E : Type 0} (result : Result T E) (form : Form) (old new : List ℕ) (Line : Site → List Piece)
    (fault path place : List ℕ) → path ≡ place
    → ((why : Option (List ℕ)) → fault_at fault (codes " ") place why ≡ Line (site None why))
    → OnOk result ((why : Option (List ℕ)) × (new ≡ old ++ line_in form (fault_at fault (codes " ") path why)))
    → OnOk result ((x : Site) × (new ≡ old ++ line_in form (Line x)))
told_why (Err error) form old new Line fault path place same is told = tt
told_why (Ok value) form old new Line fault path place same is told = (
  site None told.0,
  told.1 ∙ ap (λ p. old ++ line_in form (fault_at fault (codes " ") p told.0)) same
      ∙ ap (λ line. old ++ line_in form line) (is told.0),
)

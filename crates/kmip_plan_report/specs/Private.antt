-- Private: definitions that only clauses of private functions cite.
-- Source: own (view): parts of the public definitions of this crate.
use Rattle.std.specs.Prelude.{◌≡◌, ◌++◌, ◌↔◌, ℕ, Bool, IfOk, IsTrue, List, None, Ok, Result}
use Rattle.kmip_report.specs.Pieces.{report_in}
use Rattle.kmip_report.specs.declared.form.Form.{Form}
use Rattle.kmip_plan.specs.declared.key.Key.{Key}
use Rattle.kmip_ttlv.specs.declared.no_memory.NoMemory.{NoMemory}
use Rattle.kmip_plan_report.specs.Checking.{IsRefusedAfter, check_after_report}
use Rattle.kmip_plan_report.specs.Refusals.{Site}

-- A plan is judged after an earlier one: the report was appended, and the result says whether it is refused. No text is
-- refused as a plan, so the path and the site of that are any.
pub record JudgesAfter (form : Form) (keys earlier : List Key) (result : Result Bool NoMemory) (old new : List ℕ) : Type 0 where
  pub text : IfOk result (λ refused. (found : Site) × (new ≡ old ++ report_in form (check_after_report refused keys (Ok earlier) None found)))
  pub refused : IfOk result (λ refused. IsTrue refused ↔ IsRefusedAfter keys (Ok earlier))

-- The words are these.
use Rattle.std.proofs.Common.{◌≡◌, ℕ, List, ◌++◌, codes, Some, OnOk, rules, subst}
use Rattle.kmip_progress.specs.declared.progress_fault.ProgressFault.TheVariants.{OtherPlan}
use Rattle.kmip_report.specs.Pieces.{line_in}
use Rattle.kmip_plan_report.specs.Refusals.{progress_refusal}
use Rattle.kmip_trouble.proofs.obstacle_line.push_other_attributes.Goals as goal

pub returns : goal.returns
returns c =
    let why : c.as_str.result.now ≡ codes "it was saved for other attributes: key " ++ c.args.difference.now = search rules in
    subst
    (λ (words : List ℕ). OnOk c.push_progress_refusal.result (c.push_progress_refusal.new.text.items ≡ c.args.text.now.items ++ line_in c.args.form (progress_refusal OtherPlan (Some c.args.path.now) (Some words))))
    why c.push_progress_refusal.ensures

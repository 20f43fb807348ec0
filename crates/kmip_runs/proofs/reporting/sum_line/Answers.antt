-- The line is made of its parts.
use Rattle.std.proofs.Common.{refl, ◌∙◌}
use Rattle.kmip_runs.proofs.ReportLemmas.{sum_is}
use Rattle.kmip_runs.proofs.reporting.sum_line.Goals as goal

pub returns : goal.returns
returns c = c.in_ok-line.ensures.ok ∙ sum_is c.args.keys.now c.args.verdicts.now _ _ c.finished_count-finished.ensures refl

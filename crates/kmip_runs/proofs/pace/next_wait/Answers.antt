-- The waits double.
use Rattle.std.proofs.Common.{◌∙◌, ap, min}
use Rattle.kmip_runs.proofs.WaitLemmas.{first_wait, next}
use Rattle.kmip_runs.proofs.pace.next_wait.Goals as goal

pub returns-then-wait-eq0-clause-grows : goal.returns-then-wait-eq0-clause-grows
returns-then-wait-eq0-clause-grows c = λ silent count is. first_wait c.args.first c.args.wait count c.if-wait-eq0.true is

pub returns-else-wait-eq0-clause-grows : goal.returns-else-wait-eq0-clause-grows
returns-else-wait-eq0-clause-grows c = λ silent count is.
    c.min.ensures ∙ ap (λ most. min c.saturating_mul.result most) c.max.ensures
    ∙ next c.args.first c.args.wait c.saturating_mul.result count c.ranges.first.fits c.if-wait-eq0.false c.saturating_mul.ensures is

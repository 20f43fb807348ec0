-- One of the two questions that destroy the first object has succeeded.
use Rattle.std.proofs.Common.{◌||◌, sym, ap, ◌∙◌}
use Rattle.kmip_probe.specs.Judging.{answer_at, has_succeeded}
use Rattle.kmip_probe.proofs.judging.is_destroyed.Goals as goal

pub returns-then-has_succeeded : goal.returns-then-has_succeeded
returns-then-has_succeeded c =
    c.if-has_succeeded.true
    ∙ ap (λ first. first || has_succeeded (answer_at c.args.answers.now 17)) (sym c.if-has_succeeded.true ∙ c.has_succeeded.ensures)

pub returns-else-has_succeeded : goal.returns-else-has_succeeded
returns-else-has_succeeded c =
    c.has_succeeded-else-has_succeeded.ensures
    ∙ ap (λ first. first || has_succeeded (answer_at c.args.answers.now 17)) (sym c.if-has_succeeded.false ∙ c.has_succeeded.ensures)

-- The last two.
use Rattle.std.proofs.Common.{◌∙◌, sym}
use Rattle.kmip_progress.proofs.BodyLemmas.{ended, not_ended}
use Rattle.kmip_progress.proofs.reading.body_of.Goals as goal

pub returns-then-not-is_empty : goal.returns-then-not-is_empty
returns-then-not-is_empty c =
    not_ended (λ line. line.now) c.args.lines.now c.in_ok-rest.lines.now c.in_ok-rest.rest.now c.in_ok-rest.ensures.cases.0
    (sym c.if-not-is_empty.true ∙ c.is_empty.ensures)

pub returns : goal.returns
returns c =
    ended (λ line. line.now) c.args.lines.now c.in_ok-rest.lines.now c.in_ok-end.body.now c.in_ok-rest.rest.now c.in_ok-end.end.now
    c.in_ok-rest.ensures.cases.0 c.in_ok-end.ensures.cases.0 (sym c.if-not-is_empty.false ∙ c.is_empty.ensures)

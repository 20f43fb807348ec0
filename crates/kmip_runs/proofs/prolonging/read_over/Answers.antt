-- The text of what was saved is read.
use Rattle.kmip_runs.proofs.PlanLemmas.{read_is}
use Rattle.kmip_runs.proofs.prolonging.read_over.Goals as goal

pub returns-in-Ok-clause-read : goal.returns-in-Ok-clause-read
returns-in-Ok-clause-read c =
    read_is c.texts_are_prolonged.ensures.written c.args.next.now c.args.plan.now c.args.progress.now c.in-Ok.read
    c.in_ok-text.text c.as_str.result.now
    c.a_plan_is_lawful.ensures c.requires.prolongs c.requires.suits c.in_ok-text.ensures.utf8
    c.in_ok-text.ensures.text c.as_str.ensures c.in-Ok.ensures.exact

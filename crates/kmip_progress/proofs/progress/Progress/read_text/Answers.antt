-- Reading is the reading function, whose laws are these.
use Rattle.kmip_progress.proofs.TextLemmas.{is_found, is_only, is_suited}
use Rattle.kmip_progress.proofs.progress.Progress.read_text.Goals as goal

pub returns-clause-found : goal.returns-clause-found
returns-clause-found c = is_found c.args.plan.now c.args.text.now c.read_progress.result c.read_progress.ensures.exact

pub returns-clause-only : goal.returns-clause-only
returns-clause-only c = λ progress is.
    is_only c.args.plan.now c.args.text.now c.read_progress.result progress c.read_progress.ensures.lawful c.read_progress.ensures.exact is

pub returns-clause-suits : goal.returns-clause-suits
returns-clause-suits c = is_suited c.args.plan.now c.args.text.now c.read_progress.result c.read_progress.ensures.exact

-- A run that begins with what is known begins with all of it.
use Rattle.std.proofs.Common.{rules}
use Rattle.kmip_runs.proofs.campaigning.begin.Goals as goal

pub returns-in-Same-clause-begun : goal.returns-in-Same-clause-begun
returns-in-Same-clause-begun c = search rules

-- What is within the bounds is as it was, and what is above is the greatest.
use Rattle.std.proofs.Common.{rules}
use Rattle.kmip_run_command.proofs.batch.batch_of.Goals as goal

pub returns-clause-asked : goal.returns-clause-asked
returns-clause-asked c = search rules

pub returns-clause-many : goal.returns-clause-many
returns-clause-many c = search rules

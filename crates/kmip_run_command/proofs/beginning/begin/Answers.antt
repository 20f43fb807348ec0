-- The client knows what the text of the progress says, or nothing.
use Rattle.std.proofs.Common.{rules}
use Rattle.kmip_run_command.proofs.beginning.begin.Goals as goal

pub returns-clause-exact : goal.returns-clause-exact
returns-clause-exact c = search rules

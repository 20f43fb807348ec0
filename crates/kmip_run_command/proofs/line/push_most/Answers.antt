-- How many more exchanges may come is told where nothing went wrong: answered so that a wrong body fails at once.
use Rattle.std.proofs.Common.{rules}
use Rattle.kmip_run_command.proofs.line.push_most.Goals as goal

pub returns-then-spent-eq0-2 : goal.returns-then-spent-eq0-2
returns-then-spent-eq0-2 c = search rules

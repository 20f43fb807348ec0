-- The exchanges are traced where they are asked for.
use Rattle.std.proofs.Common.{rules}
use Rattle.kmip_sim_command.proofs.ending.push_told.Goals as goal

pub returns-in-Exchanges-None : goal.returns-in-Exchanges-None
returns-in-Exchanges-None c = search rules

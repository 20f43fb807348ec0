-- Without a fault it says whether a key is left unfinished.
use Rattle.std.proofs.Common.{rules}
use Rattle.kmip_sim_command.proofs.sim_end.campaign_outcome.Goals as goal

pub returns-in-None : goal.returns-in-None
returns-in-None c = search rules

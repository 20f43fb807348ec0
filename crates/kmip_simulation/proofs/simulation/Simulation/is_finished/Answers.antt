-- The last run says whether it is finished.
use Rattle.std.proofs.Common.{rules}
use Rattle.kmip_simulation.proofs.simulation.Simulation.is_finished.Goals as goal

pub returns-in-Some : goal.returns-in-Some
returns-in-Some c = search (rules, c.is_all_finished.ensures)

-- The steps to each target are its chain.
use Rattle.std.proofs.Common.{sym, ap}
use Rattle.kmip_plan.specs.Chains.{chain}
use Rattle.kmip_plan.proofs.chains.steps_to.Goals as goal

pub returns-in-Destroyed : goal.returns-in-Destroyed
returns-in-Destroyed c = ap chain (sym c.in-Destroyed.is)

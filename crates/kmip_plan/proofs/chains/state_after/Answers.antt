-- The states are counted from one.
use Rattle.std.proofs.Common.{rules}
use Rattle.kmip_plan.proofs.chains.state_after.Goals as goal

pub returns : goal.returns
returns c = search rules

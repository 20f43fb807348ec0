-- What is delivered again, and then the end.
use Rattle.std.proofs.Common.{rules, append_assoc}
use Rattle.kmip_simulation.proofs.moments.push_end.Goals as goal

pub returns : goal.returns
returns c = search (rules, append_assoc)

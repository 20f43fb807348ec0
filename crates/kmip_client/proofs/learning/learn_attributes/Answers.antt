-- What is told of the state is learnt.
use Rattle.std.proofs.Common.{rules}
use Rattle.kmip_client.proofs.learning.learn_attributes.Goals as goal

pub returns-clause-ok : goal.returns-clause-ok
returns-clause-ok c = search rules

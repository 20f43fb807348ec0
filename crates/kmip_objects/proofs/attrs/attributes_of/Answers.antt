-- What is told is what the object has.
use Rattle.std.proofs.Common.{rules}
use Rattle.kmip_objects.proofs.attrs.attributes_of.Goals as goal

pub returns : goal.returns
returns c = search rules

-- The usage that is given counts.
use Rattle.std.proofs.Common.{rules}
use Rattle.kmip_objects.proofs.attrs.has_given.Goals as goal

pub returns-then-is_given_integer-2 : goal.returns-then-is_given_integer-2
returns-then-is_given_integer-2 c = search rules

-- An identifier has a most of bytes.
use Rattle.std.proofs.Common.{rules}
use Rattle.kmip_objects.proofs.ranges.is_identifier.Goals as goal

pub returns-then-identifier-ge1 : goal.returns-then-identifier-ge1
returns-then-identifier-ge1 c = search rules

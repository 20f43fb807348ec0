-- A name has a most of bytes.
use Rattle.std.proofs.Common.{rules}
use Rattle.kmip_objects.proofs.ranges.is_name.Goals as goal

pub returns-then-bytes-le-NAME_MAX : goal.returns-then-bytes-le-NAME_MAX
returns-then-bytes-le-NAME_MAX c = search rules

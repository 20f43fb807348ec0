-- Both are kept.
use Rattle.std.proofs.Common.{refl}
use Rattle.kmip_client.proofs.saving.known_of.Goals as goal

pub returns : goal.returns
returns c = rw c.in_ok-copied.ensures refl

-- Both are kept, and what is asked next is a look.
use Rattle.std.proofs.Common.{refl}
use Rattle.kmip_client.proofs.saving.knowledge_from.Goals as goal

pub returns : goal.returns
returns c = rw (c.in_ok-copied.ensures, c.lost_phase.ensures) refl

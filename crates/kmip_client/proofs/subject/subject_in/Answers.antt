-- The key is the one that the id names.
use Rattle.std.proofs.Common.{refl}
use Rattle.kmip_client.proofs.subject.subject_in.Goals as goal

pub returns : goal.returns
returns c = rw (c.subject_at.ensures, c.from.ensures, c.in_ok-operation.ensures.cases.0, ← c.in_ok-place.ensures) refl

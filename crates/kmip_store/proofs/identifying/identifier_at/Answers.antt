-- The digits of the number are the identifier.
use Rattle.std.proofs.Common.{refl}
use Rattle.kmip_store.proofs.identifying.identifier_at.Goals as goal

pub returns-clause-value : goal.returns-clause-value
returns-clause-value c = rw (c.from_string.ensures, c.in_ok-uid.ensures.ok) refl

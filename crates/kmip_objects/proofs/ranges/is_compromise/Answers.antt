-- There are two compromises.
use Rattle.std.proofs.Common.{rules}
use Rattle.kmip_objects.proofs.ranges.is_compromise.Goals as goal

pub returns-else-code-eq-REVOCATION_KEY_COMPROMISE : goal.returns-else-code-eq-REVOCATION_KEY_COMPROMISE
returns-else-code-eq-REVOCATION_KEY_COMPROMISE c = search rules

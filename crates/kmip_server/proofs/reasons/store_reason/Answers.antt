-- A full store has its own reason.
use Rattle.std.proofs.Common.{refl}
use Rattle.kmip_server.proofs.reasons.store_reason.Goals as goal

pub returns-in-Full : goal.returns-in-Full
returns-in-Full c = rw c.in-Full.is refl

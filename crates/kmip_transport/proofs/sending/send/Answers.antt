-- The message was written, and then the writer sent on what it held back.
use Rattle.std.proofs.Common.{Result, Ok, Err, OnOk}
use Rattle.std.proofs.KnownBytes.{Appends-kept}
use Rattle.kmip_transport.proofs.sending.send.Goals as goal

on_ok : {A E X : Type 0} → (r : Result A E) → X → OnOk r X
on_ok (Ok a) x = x
on_ok (Err e) x = tt

pub returns-in-Ok-clause-sent : goal.returns-in-Ok-clause-sent
returns-in-Ok-clause-sent g c = on_ok c.send_on.result (Appends-kept _ _ _ _ c.in-Ok.ensures.sent c.send_on.ensures.unwritten)

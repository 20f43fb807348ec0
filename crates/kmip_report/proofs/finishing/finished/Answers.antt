-- Where a command ended with a refusal its program says so, and writes no more.
use Rattle.std.proofs.Common.{refl}
use Rattle.kmip_report.proofs.finishing.finished.Goals as goal

pub returns-in-Ok-true : goal.returns-in-Ok-true
returns-in-Ok-true g c = rw (c.in-Ok-true.is, c.in-Ok-true.field-0-test) (refl, refl)

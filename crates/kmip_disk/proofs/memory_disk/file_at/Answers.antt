use Rattle.std.proofs.Common.{inr}
use Rattle.kmip_disk.proofs.MemoryLemmas.{one_outcome}
use Rattle.kmip_disk.proofs.memory_disk.file_at.Goals as goal

pub returns-then-which-back-clause-one : goal.returns-then-which-back-clause-one
returns-then-which-back-clause-one c = λ d kept. inr (one_outcome c.args.back.now c.args.which c.index-back-which.result d c.if-which-back.true c.index-back-which.is kept)

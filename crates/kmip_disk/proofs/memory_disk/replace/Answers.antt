use Rattle.std.proofs.Common.{rules}
use Rattle.kmip_disk.proofs.memory_disk.replace.Goals as goal

pub returns-clause-back : goal.returns-clause-back
returns-clause-back c = search rules

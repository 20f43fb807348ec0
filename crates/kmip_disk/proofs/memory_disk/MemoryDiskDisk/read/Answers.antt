use Rattle.std.proofs.Common.{rules}
use Rattle.kmip_disk.proofs.memory_disk.MemoryDiskDisk.read.Goals as goal

pub returns-in-None : goal.returns-in-None
returns-in-None c = search rules

pub returns-in_ok-to_vec-in-Some : goal.returns-in_ok-to_vec-in-Some
returns-in_ok-to_vec-in-Some c = search rules

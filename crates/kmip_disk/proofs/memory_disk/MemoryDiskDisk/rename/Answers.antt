use Rattle.std.proofs.Common.{ap, refl}
use Rattle.std.specs.Prelude.{Some}
use Rattle.kmip_disk.specs.declared.memory_disk.MemoryDisk.{MemoryDisk}
use Rattle.kmip_disk.proofs.MemoryLemmas.{moved}
use Rattle.kmip_disk.proofs.memory_disk.MemoryDiskDisk.rename.Goals as goal

pub returns-in-Ok-clause-done : goal.returns-in-Ok-clause-done
returns-in-Ok-clause-done c =
    let old = c.args.self.now in
    let new : MemoryDisk = record { alloc = old.alloc; file = c.replace.new.file; beside = c.replace.new.beside; back = c.replace.new.back; gone = old.gone; turns = c.take_turn.new.self } in
    let done = c.in-Ok.ensures in
    moved old new tt done.file done.beside done.back refl (record { limit = ap (λ limit. Some limit) c.take_turn.ensures.limit; later = c.take_turn.ensures.later; failed = tt })

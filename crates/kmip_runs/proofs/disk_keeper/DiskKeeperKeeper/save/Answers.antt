-- What could not be written was given to the disk.
use Rattle.kmip_disk.specs.Memory.{memory_view}
use Rattle.kmip_runs.proofs.ForKeepers.{saves_not}
use Rattle.kmip_runs.proofs.disk_keeper.DiskKeeperKeeper.save.Goals as goal

pub returns-in-Err-clause-whole : goal.returns-in-Err-clause-whole
returns-in-Err-clause-whole c = λ lawful.
    rw c.refuse.ensures.rest.1 (saves_not (memory_view c.args.self.now.file.disk) _ c.args.text.now c.in-Err.fault c.refuse.result (c.in-Err.ensures lawful))

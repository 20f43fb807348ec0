use Rattle.kmip_disk.proofs.WholeLemmas.{put_synced}
use Rattle.kmip_disk.proofs.whole_file.put_beside.Goals as goal

pub returns : goal.returns
returns g c = λ lawful.
    let view = g.D.Disk.view in
    let made = c.in_ok-create.ensures lawful in
    let written = c.in_ok-write_beside.ensures made.alone.lawful in
    put_synced (view c.args.disk.now) (view c.create.new.disk) (view c.write_beside.new.self) (view c.sync_beside.new.self) c.args.text.now _ _ c.sync_beside.result lawful made written (c.sync_beside.ensures written.alone.lawful)

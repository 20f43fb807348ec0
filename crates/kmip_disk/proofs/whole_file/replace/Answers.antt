use Rattle.kmip_disk.proofs.WholeLemmas.{replaced_by, replaced_not}
use Rattle.kmip_disk.proofs.whole_file.replace.Goals as goal

pub returns-in-Ok : goal.returns-in-Ok
returns-in-Ok g c = λ lawful.
    let view = g.D.Disk.view in
    let put = c.in-Ok.ensures lawful in
    replaced_by (view c.args.disk.now) (view c.put_beside.new.disk) (view c.rename.new.self) c.args.text.now _ c.rename.result lawful put (c.rename.ensures put.alone.lawful)

pub returns-in-Err : goal.returns-in-Err
returns-in-Err g c = λ lawful.
    let view = g.D.Disk.view in
    replaced_not (view c.args.disk.now) (view c.put_beside.new.disk) c.args.text.now c.in-Err.fault lawful (c.in-Err.ensures lawful)

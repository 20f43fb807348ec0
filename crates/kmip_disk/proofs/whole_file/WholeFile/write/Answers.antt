use Rattle.kmip_disk.proofs.WholeLemmas.{tidied, tidy}
use Rattle.kmip_disk.proofs.whole_file.WholeFile.write.Goals as goal

pub returns-in-Ok : goal.returns-in-Ok
returns-in-Ok g c = λ lawful.
    let view = g.D.Disk.view in
    tidy (view c.args.self.now.disk) (view c.replace.new.disk) c.args.text.now _ (c.in-Ok.ensures lawful)

pub returns-in-Err : goal.returns-in-Err
returns-in-Err g c = λ lawful.
    let view = g.D.Disk.view in
    let replaced = c.in-Err.ensures lawful in
    tidied (view c.args.self.now.disk) (view c.replace.new.disk) (view c.remove_beside.new.self) c.args.text.now c.in-Err.fault c.remove_beside.result replaced (c.remove_beside.ensures replaced.lawful)

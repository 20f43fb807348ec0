use Rattle.kmip_disk.proofs.HistoryLemmas.{saved_by, saved_not}
use Rattle.kmip_disk.proofs.whole_file.WholeFile.save.Goals as goal

pub returns-in-Ok : goal.returns-in-Ok
returns-in-Ok g c = λ lawful.
    let view = g.D.Disk.view in
    let wrote = c.in-Ok.ensures lawful in
    saved_by (view c.args.self.now.disk) (view c.write.new.self.disk) (view c.close.new.self.disk) c.args.text.now _ c.close.result wrote (c.close.ensures wrote.lawful)

pub returns-in-Err : goal.returns-in-Err
returns-in-Err g c = λ lawful.
    let view = g.D.Disk.view in
    saved_not (view c.args.self.now.disk) (view c.write.new.self.disk) c.args.text.now c.in-Err.fault (c.in-Err.ensures lawful)

use Rattle.std.proofs.Common.{IsTrue, rules}
use Rattle.kmip_disk.proofs.WholeLemmas.{not_written, told}
use Rattle.kmip_disk.proofs.whole_file.WholeFile.write_after.Goals as goal

pub returns-then-is_text : goal.returns-then-is_text
returns-then-is_text g c = λ lawful stands.
    let view = g.D.Disk.view c.args.self.now.disk in
    let is_true : IsTrue c.is_text.result = search rules in
    not_written view c.args.text.now _ lawful (told c.args.last c.args.text.now view (c.is_text.ensures is_true) stands)

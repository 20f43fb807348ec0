use Rattle.std.proofs.Common.{drop, map, ◌≡◌}
use Rattle.kmip_disk.specs.Whole.{IsWritten, LeavesOneOf, last_of}
use Rattle.kmip_disk.proofs.whole_file.WholeFile.write_each.Given as goal

-- the disk keeps the rules, the texts that are left make the last one, and a crash leaves what it might have left
-- at first or one of the texts
abbrev pub invariant-loop-text : goal.invariant-loop-text
invariant-loop-text g l =
    let first = g.D.Disk.view l.fn.self.disk in
    let now = g.D.Disk.view l.self.disk in
    record {
      lawful : first.lawful → now.lawful;
      rest : first.lawful → last_of now.file (map (λ v. v.items) (drop l.text-index l.texts)) ≡ last_of first.file (map (λ v. v.items) l.texts);
      so_far : first.lawful → LeavesOneOf first (map (λ v. v.items) l.texts) now;
      still : first.lawful → IsWritten first → IsWritten now;
    }

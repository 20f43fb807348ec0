use Rattle.std.proofs.Common.{rules}
use Rattle.kmip_disk.proofs.whole_file.WholeFile.close.Goals as goal

pub returns : goal.returns
returns g c = search rules

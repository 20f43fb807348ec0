use Rattle.std.proofs.Common.{rules}
use Rattle.kmip_disk.proofs.whole_file.is_text.Goals as goal

pub returns-in-Some : goal.returns-in-Some
returns-in-Some c = search rules

-- Where each premise is kept, each line is one text.
use Rattle.kmip_probe_command.proofs.ToldLemmas.{all_told}
use Rattle.kmip_probe_command.proofs.laws.tells_all_kept.Goals as goal

pub returns : goal.returns
returns c = all_told

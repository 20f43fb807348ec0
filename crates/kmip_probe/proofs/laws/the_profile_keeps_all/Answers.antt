-- By computing.
use Rattle.kmip_probe.proofs.KeptLemmas.{all_kept}
use Rattle.kmip_probe.proofs.laws.the_profile_keeps_all.Goals as goal

pub returns : goal.returns
returns c = all_kept

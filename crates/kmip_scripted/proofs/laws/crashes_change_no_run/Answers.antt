-- Word by word.
use Rattle.kmip_scripted.proofs.CrashLemmas.{no_run_changes}
use Rattle.kmip_scripted.proofs.laws.crashes_change_no_run.Goals as goal

pub returns : goal.returns
returns c = no_run_changes

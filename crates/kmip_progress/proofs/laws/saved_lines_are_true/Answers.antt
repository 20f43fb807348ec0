-- The line at the place is that of the key.
use Rattle.kmip_progress.proofs.SavedLemmas.{lines_true}
use Rattle.kmip_progress.proofs.laws.saved_lines_are_true.Goals as goal

pub returns : goal.returns
returns c = λ keys progress place done is_identified known within is says. lines_true keys progress place done is_identified known within is says

-- What is left of the lines has no end line.
use Rattle.kmip_progress.proofs.TextLemmas.{front_is_cut}
use Rattle.kmip_progress.proofs.laws.fronts_are_cut.Goals as goal

pub returns : goal.returns
returns c = λ keys others text front more progress few is same some. front_is_cut keys others text front more progress few is same some

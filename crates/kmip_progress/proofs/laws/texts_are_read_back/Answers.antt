-- A plan prolongs itself.
use Rattle.kmip_progress.proofs.LawLemmas.{read_again}
use Rattle.kmip_progress.proofs.laws.texts_are_read_back.Goals as goal

pub returns : goal.returns
returns c = λ keys progress lawful suits texts. read_again keys progress lawful suits texts

use Rattle.kmip_store.proofs.KeptLemmas.{next_identifier}
use Rattle.kmip_store.proofs.laws.the_next_identifier_is_free.Goals as goal

pub returns : goal.returns
returns c = λ s kept roomy. next_identifier s kept roomy

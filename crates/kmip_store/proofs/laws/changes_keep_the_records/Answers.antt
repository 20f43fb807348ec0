use Rattle.kmip_store.proofs.ChangingLemmas.{create_keeps, step_keeps}
use Rattle.kmip_store.proofs.laws.changes_keep_the_records.Goals as goal

pub returns-clause-create : goal.returns-clause-create
returns-clause-create c = λ s new attrs kept fits is. create_keeps s new attrs kept fits is

pub returns-clause-steps : goal.returns-clause-steps
returns-clause-steps c = λ s new step uid kept is. step_keeps s new step uid kept is

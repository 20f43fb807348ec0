use Rattle.kmip_server.proofs.ChangeLemmas.{kept_after}
use Rattle.kmip_server.proofs.laws.serving_keeps_the_records.Goals as goal

pub returns : goal.returns
returns c = λ s ask fits kept. kept_after c.changes_keep_the_records.ensures.create c.changes_keep_the_records.ensures.steps s ask fits kept

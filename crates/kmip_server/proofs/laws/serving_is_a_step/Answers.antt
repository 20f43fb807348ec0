use Rattle.kmip_server.proofs.StepLaws.{serving_step}
use Rattle.kmip_server.proofs.laws.serving_is_a_step.Goals as goal

pub returns : goal.returns
returns c = λ s ask kept. serving_step c.the_next_identifier_is_free.ensures s ask kept

-- The number of an operation is a byte.
use Rattle.std.proofs.Common.{ap, ◌∙◌}
use Rattle.kmip_batch_items.specs.Operations.{operation_number}
use Rattle.kmip_client.proofs.QuestionLemmas.{operation_small}
use Rattle.kmip_client.proofs.question.request_about.Goals as goal

pub id_of-requires : goal.id_of-requires
id_of-requires c = rw (c.number.ensures ∙ ap operation_number c.operation.ensures) (operation_small c.in_ok-ask.ask)

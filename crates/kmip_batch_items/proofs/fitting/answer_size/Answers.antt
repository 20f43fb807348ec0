-- The sizes of the parts are that of the Batch Item.
use Rattle.kmip_batch_items.proofs.BatchItemSizes.{answer_capped}
use Rattle.kmip_batch_items.proofs.fitting.answer_size.Goals as goal

pub returns-clause-size : goal.returns-clause-size
returns-clause-size c =
    answer_capped c.args.reply.now c.number_size-operation.result c.id_size-id.result c.outcome_size-outcome.result
    c.number_size-operation.ensures c.id_size-id.ensures.size (c.outcome_size-outcome.ensures.size c.args.reply.now.operation)

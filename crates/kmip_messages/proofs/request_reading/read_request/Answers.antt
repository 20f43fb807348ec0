-- Reading is the reading function, whose laws are these.
use Rattle.std.proofs.Common.{ap, arith, ◌∙◌}
use Rattle.kmip_messages.specs.Batches.{batch_read}
use Rattle.kmip_messages.proofs.ByteLemmas.{answer_found, answer_only, batch_read-law, batch_read-complete, requests_read, given_fits, given_asks, given_refused}
use Rattle.kmip_messages.proofs.request_reading.read_request.Goals as goal

pub returns-clause-found : goal.returns-clause-found
returns-clause-found c =
    answer_found (λ b. b) c.whole_batch.result (batch_read c.args.bytes.now) _ (batch_read-law c.args.bytes.now (λ i. omega (arith, c.type_inv.bytes i))) c.whole_batch.ensures

pub returns-clause-only : goal.returns-clause-only
returns-clause-only c = λ b n spells is.
    answer_only (λ x. x) c.whole_batch.result (batch_read c.args.bytes.now) b (batch_read-complete c.args.bytes.now b n spells is) c.whole_batch.ensures

pub returns-clause-back : goal.returns-clause-back
returns-clause-back c = λ rs fit in_range is.
    answer_only (λ x. x) c.whole_batch.result (batch_read c.args.bytes.now) _ (ap batch_read is ∙ requests_read rs fit in_range) c.whole_batch.ensures

pub returns-clause-fits : goal.returns-clause-fits
returns-clause-fits c = given_fits c.args.bytes.now c.whole_batch.result c.whole_batch.ensures

pub returns-clause-asks : goal.returns-clause-asks
returns-clause-asks c = given_asks c.args.bytes.now c.whole_batch.result c.whole_batch.ensures

pub returns-clause-refused : goal.returns-clause-refused
returns-clause-refused c = given_refused c.args.bytes.now c.whole_batch.result c.whole_batch.ensures

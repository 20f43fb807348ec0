-- Replies are read from just the bytes that spell them.
use Rattle.std.proofs.Common.{ap, arith, ◌∙◌}
use Rattle.kmip_messages.specs.Batches.{replies_read}
use Rattle.kmip_messages.proofs.ByteLemmas.{answer_found, answer_only, replies_read-law, replies_read-complete, replies_again, replies_fit_given, given_says, given_nothing}
use Rattle.kmip_messages.proofs.reply_reading.read_reply.Goals as goal

pub returns-clause-found : goal.returns-clause-found
returns-clause-found c =
    answer_found (λ v. v.items) c.whole_replies.result (replies_read c.args.bytes.now) _ (replies_read-law c.args.bytes.now (λ i. omega (arith, c.type_inv.bytes i)))
    c.whole_replies.ensures

pub returns-clause-only : goal.returns-clause-only
returns-clause-only c = λ rs n spells are.
    answer_only (λ v. v.items) c.whole_replies.result (replies_read c.args.bytes.now) rs (replies_read-complete c.args.bytes.now rs n spells are) c.whole_replies.ensures

pub returns-clause-back : goal.returns-clause-back
returns-clause-back c = λ rs now fit in_range is.
    answer_only (λ v. v.items) c.whole_replies.result (replies_read c.args.bytes.now) rs (ap replies_read is ∙ replies_again rs now fit in_range) c.whole_replies.ensures

pub returns-clause-fits : goal.returns-clause-fits
returns-clause-fits c = replies_fit_given (λ v. v.items) c.args.bytes.now c.whole_replies.result c.whole_replies.ensures

pub returns-clause-says : goal.returns-clause-says
returns-clause-says c = given_says (λ v. v.items) c.args.bytes.now c.whole_replies.result c.whole_replies.ensures

pub returns-clause-refused : goal.returns-clause-refused
returns-clause-refused c = given_nothing (λ v. v.items) c.args.bytes.now c.whole_replies.result c.whole_replies.ensures

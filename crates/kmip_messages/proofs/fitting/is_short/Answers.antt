-- The sizes in turn are that of the whole.
use Rattle.kmip_messages.proofs.SizeLemmas.{told_long, told_short}
use Rattle.kmip_messages.proofs.fitting.is_short.Goals as goal

pub returns-then-size-gt-MAX_SIZE : goal.returns-then-size-gt-MAX_SIZE
returns-then-size-gt-MAX_SIZE c =
    told_long c.args.replies.now c.loop-reply.reply-index c.loop-reply.size c.answer_size-size.result c.reply-item.result
    c.loop-reply-test.true c.reply-item.is c.answer_size-size.ensures.size c.loop-reply.invariant.1 c.if-size-gt-MAX_SIZE.true

pub returns : goal.returns
returns c =
    told_short c.args.replies.now c.loop-reply.reply-index c.loop-reply.size c.loop-reply-test.false c.loop-reply.invariant.0 c.loop-reply.invariant.1

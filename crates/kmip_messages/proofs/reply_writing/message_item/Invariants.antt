-- The items so far, and those of the replies that are left, are all of them.
use Rattle.std.proofs.Common.{◌≡◌, ◌++◌, pos, drop, length, map}
use Rattle.kmip_ttlv.specs.View.{views}
use Rattle.kmip_batch_items.specs.BatchItems.{answer_item}
use Rattle.kmip_messages.specs.Headers.{reply_header_format}
use Rattle.kmip_messages.proofs.reply_writing.message_item.Given as goal

abbrev pub invariant-loop-reply : goal.invariant-loop-reply
invariant-loop-reply l =
    views l.items.items ++ map answer_item (drop l.reply-index l.replies)
    ≡ (reply_header_format l.now).write (pos (length l.replies)) ++ map answer_item l.replies

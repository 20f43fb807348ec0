-- Replies that fit can be written, at any time, and their bytes say them.
use Rattle.kmip_ttlv.specs.View.{view}
use Rattle.kmip_messages.proofs.ByteLemmas.{written_says}
use Rattle.kmip_messages.proofs.SizeLemmas.{replies_fit_writable}
use Rattle.kmip_messages.proofs.reply_writing.write_reply.Goals as goal

pub write-requires : goal.write-requires
write-requires c = replies_fit_writable c.args.replies.now _ _ c.requires c.in_ok-item.ensures

pub returns-clause-says : goal.returns-clause-says
returns-clause-says c =
    written_says c.args.replies.now _ (view c.in_ok-item.item) c.new-out.result.items c.write.new.out.items c.requires c.in_ok-item.ensures
    c.in_ok-write.ensures.in_range c.new-out.ensures.items c.in_ok-write.ensures.ok

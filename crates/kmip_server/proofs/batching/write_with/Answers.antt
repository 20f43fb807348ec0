-- One more is short, as the others are.
use Rattle.std.proofs.Common.{rules}
use Rattle.kmip_server.proofs.BatchLemmas.{short_more}
use Rattle.kmip_server.proofs.batching.write_with.Goals as goal

pub write_all-requires-clause-short : goal.write_all-requires-clause-short
write_all-requires-clause-short c =
    short_more c.args.replies.now.items c.as_slice.result.now c.args.reply (search (rules, c.as_slice.ensures.value, c.in_ok-push.ensures.items, c.in_ok-reserve_exact.ensures.items)) c.requires.all c.requires.short

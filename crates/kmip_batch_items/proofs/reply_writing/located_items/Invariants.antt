-- The items so far are those of the first identifiers.
use Rattle.std.proofs.Common.{◌≡◌, ◌++◌, drop}
use Rattle.kmip_ttlv.specs.View.{views}
use Rattle.kmip_batch_items.specs.ReplyFormats.{identifiers_format}
use Rattle.kmip_batch_items.proofs.reply_writing.located_items.Given as goal

abbrev pub invariant-loop-uid : goal.invariant-loop-uid
invariant-loop-uid l = views l.items.items ++ identifiers_format.write (drop l.uid-index l.uids) ≡ identifiers_format.write l.uids

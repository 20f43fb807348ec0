-- The identifiers so far are not too long, and their size is exact.
use Rattle.std.proofs.Common.{◌≡◌, ◌+◌, ◌≤◌, drop}
use Rattle.kmip_batch_items.specs.ReplyFormats.{identifiers_format}
use Rattle.kmip_batch_items.proofs.fitting.texts_size.Given as goal

abbrev pub invariant-loop-uid : goal.invariant-loop-uid
invariant-loop-uid l = (l.size ≤ 8192) × (l.size + (identifiers_format.extent (drop l.uid-index l.uids)).size ≡ (identifiers_format.extent l.uids).size)

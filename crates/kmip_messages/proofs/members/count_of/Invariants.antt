-- The Batch Items that were counted, and those that are left, are all of them.
use Rattle.std.proofs.Common.{◌≡◌, ◌+◌, ◌≤◌, drop, length}
use Rattle.kmip_ttlv.specs.View.{views}
use Rattle.kmip_batch_items.specs.Siblings.{contents}
use Rattle.kmip_batch_items.specs.declared.standard.TheConstants.{TAG_BATCH_ITEM}
use Rattle.kmip_messages.proofs.members.count_of.Given as goal

abbrev pub invariant-loop-item : goal.invariant-loop-item
invariant-loop-item l =
    (l.count ≤ l.item-index)
    × (l.count + length (contents TAG_BATCH_ITEM (views (drop l.item-index l.message))) ≡ length (contents TAG_BATCH_ITEM (views l.message)))

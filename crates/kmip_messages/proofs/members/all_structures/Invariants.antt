-- The Batch Items so far are Structures.
use Rattle.std.proofs.Common.{◌≡◌, drop}
use Rattle.kmip_ttlv.specs.View.{views}
use Rattle.kmip_batch_items.specs.Siblings.{contents}
use Rattle.kmip_batch_items.specs.declared.standard.TheConstants.{TAG_BATCH_ITEM}
use Rattle.kmip_messages.specs.Members.{all_structures}
use Rattle.kmip_messages.proofs.members.all_structures.Given as goal

abbrev pub invariant-loop-item : goal.invariant-loop-item
invariant-loop-item l =
    all_structures (contents TAG_BATCH_ITEM (views (drop l.item-index l.message))) ≡ all_structures (contents TAG_BATCH_ITEM (views l.message))

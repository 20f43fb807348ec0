-- The items so far are among the tags.
use Rattle.std.proofs.Common.{◌≡◌, drop}
use Rattle.kmip_ttlv.specs.View.{views}
use Rattle.kmip_batch_items.specs.Siblings.{only}
use Rattle.kmip_batch_items.proofs.fields.only.Given as goal

abbrev pub invariant-loop-item : goal.invariant-loop-item
invariant-loop-item l = only l.tags (views (drop l.item-index l.items)) ≡ only l.tags (views l.items)

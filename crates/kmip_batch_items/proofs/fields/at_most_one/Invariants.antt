-- What was found, and what is left, is all of it.
use Rattle.std.proofs.Common.{◌≡◌, ◌++◌, drop, option_map, option_to_list}
use Rattle.kmip_ttlv.specs.Node.{content_of}
use Rattle.kmip_ttlv.specs.View.{view, views}
use Rattle.kmip_batch_items.specs.Siblings.{contents}
use Rattle.kmip_batch_items.proofs.fields.at_most_one.Given as goal

abbrev pub invariant-loop-item : goal.invariant-loop-item
invariant-loop-item l =
    option_to_list (option_map (λ i. content_of (view i.now)) l.found) ++ contents l.tag (views (drop l.item-index l.items))
    ≡ contents l.tag (views l.items)

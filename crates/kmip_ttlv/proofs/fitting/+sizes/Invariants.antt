-- The items so far fit the room, and what the rest is decides what the whole is.
use Rattle.std.proofs.Common.{drop}
use Rattle.kmip_ttlv.specs.Node.{nodes_of}
use Rattle.kmip_ttlv.specs.View.{views}
use Rattle.kmip_ttlv.proofs.Within.{AreSoFar}
use Rattle.kmip_ttlv.proofs.fitting.+sizes.Given as goal

abbrev pub invariant-all_within-loop-item : goal.invariant-all_within-loop-item
invariant-all_within-loop-item l =
    AreSoFar l.size l.fn.levels l.fn.room (nodes_of (views (drop l.item-index l.items))) (nodes_of (views l.items))

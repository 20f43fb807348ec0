-- What was written before stays at the front, and the items so far are written.
use Rattle.std.proofs.Common.{drop}
use Rattle.kmip_ttlv.specs.Node.{nodes_of}
use Rattle.kmip_ttlv.specs.View.{views}
use Rattle.kmip_ttlv.proofs.Written.{AreWritten}
use Rattle.kmip_ttlv.proofs.writing.+appending.Given as goal

abbrev pub invariant-append_structure-loop-item : goal.invariant-append_structure-loop-item
invariant-append_structure-loop-item l =
    AreWritten l.fn.out.items l.out.items (nodes_of (views (drop l.item-index l.items))) (nodes_of (views l.items))

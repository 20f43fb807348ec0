-- A Structure has its head and its items.
use Rattle.std.proofs.Common.{arith}
use Rattle.kmip_ttlv.specs.Node.{nodes_of}
use Rattle.kmip_ttlv.specs.View.{view, views}
use Rattle.kmip_ttlv.proofs.Views.{view-Structure}
use Rattle.kmip_ttlv.proofs.Within.{structure_size}
use Rattle.kmip_ttlv.proofs.fitting.+sizes.Goals as goal

pub size_within-returns-in-Structure : goal.size_within-returns-in-Structure
size_within-returns-in-Structure t c =
    structure_size c.structure_within.result (view c.args.item.now) c.args.item.now.tag (nodes_of (views c.as_slice.result.now)) c.args.levels c.args.room
    (view-Structure c.args.item.now c.in-Structure.items c.as_slice.result.now c.in-Structure.is c.as_slice.ensures.value)
    (omega arith) c.structure_within.ensures

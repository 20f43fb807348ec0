-- Three functions a level; the place and the rest go on together, and the items so far with them.
use Rattle.std.proofs.Common.{◌+◌, ◌*◌, length}
use Rattle.kmip_ttlv.specs.View.{views}
use Rattle.kmip_ttlv.specs.Reading.{item_at}
use Rattle.kmip_ttlv.proofs.SoFar.{AreReadSoFar}
use Rattle.kmip_ttlv.proofs.reading.+reading.Given as goal

abbrev pub decreases-all_of : goal.decreases-all_of
decreases-all_of l = 3 * l.left + 1

abbrev pub decreases-item_of : goal.decreases-item_of
decreases-item_of l = 3 * l.left

abbrev pub decreases-value_of : goal.decreases-value_of
decreases-value_of l = 3 * l.left + 2

abbrev pub invariant-all_of-loop-rest : goal.invariant-all_of-loop-rest
invariant-all_of-loop-rest l =
    AreReadSoFar (item_at l.left) l.at l.bytes (views l.items.items) l.place l.rest

abbrev pub decreases-all_of-loop-rest : goal.decreases-all_of-loop-rest
decreases-all_of-loop-rest l = length l.rest

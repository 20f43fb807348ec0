-- The item is all of the bytes.
use Rattle.std.proofs.Common.{rules}
use Rattle.kmip_batch_items.specs.Whole.{item_in}
use Rattle.kmip_batch_items.proofs.parts.whole_item.Goals as goal

pub returns-then-size-bytes : goal.returns-then-size-bytes
unfolding item_in
returns-then-size-bytes c = rw (c.in-Ok.ensures.exact, c.if-size-bytes.true) (search rules)

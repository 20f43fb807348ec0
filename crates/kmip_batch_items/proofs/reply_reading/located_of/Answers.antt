-- Without a payload none is found.
use Rattle.std.proofs.Common.{refl}
use Rattle.kmip_batch_items.specs.ReplyFormats.{located_format}
use Rattle.kmip_batch_items.proofs.reply_reading.located_of.Goals as goal

pub returns-in-None : goal.returns-in-None
unfolding located_format
returns-in-None c = rw (rw c.in-None.is at c.in_ok-structure_if_any.ensures, c.new.ensures) refl

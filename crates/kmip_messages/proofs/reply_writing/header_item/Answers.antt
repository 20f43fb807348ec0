-- The version, the time and the number, in this order.
use Rattle.std.proofs.Common.{refl}
use Rattle.std.proofs.Math.Facts.{to_z-of_z}
use Rattle.kmip_messages.specs.Headers.{reply_header_parts_format}
use Rattle.kmip_messages.proofs.reply_writing.header_item.Goals as goal

pub returns : goal.returns
unfolding reply_header_parts_format
returns c =
    rw (c.structure.ensures, c.new-2.ensures, c.in_ok-items.ensures.items, c.in_ok-version.ensures, c.date_time-time.ensures, c.new.ensures)
    (rw (c.count_item.ensures, to_z-of_z c.ranges.now) refl)

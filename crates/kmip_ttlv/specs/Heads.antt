-- The checks of an item's head, in their order, and the first of them to fail.
-- Source: KMIP 2.1, TTLV Encoding. Own (order): the standard says no order of checks, and one fault is to be
-- named. Own (limit): 8,192 bytes.
use Rattle.kmip_ttlv.specs.Limits.{head_size, most_bytes}
use Rattle.std.specs.Prelude.{ℕ, ◌+◌, Bool, true, false, not, ◌&&◌, nat_lt, if◌then◌else◌, List, length, drop, slice_index, Option, Some, None, Result, Ok, Err}
use Rattle.byteorder.specs.Endian.{big_number}
use Rattle.kmip_ttlv.specs.declared.ttlv_fault.TtlvFault.{TtlvFault}
use Rattle.kmip_ttlv.specs.declared.ttlv_fault.TtlvFault.TheVariants.{Short, UnknownType, BadLength, ChildrenOverrun, TooLong}
use Rattle.kmip_ttlv.specs.declared.item_type.ItemType.{ItemType}
use Rattle.kmip_ttlv.specs.Types.{type_of_byte, is_allowed}
use Rattle.kmip_ttlv.specs.Sizes.{padded}

-- The fault of an item that passes the end: the outermost item is short, a child passes its parent's end.
unfoldable pub overrun : Bool → ℕ → TtlvFault
overrun true at = Short at
overrun false at = ChildrenOverrun at

-- The tag, the type and the length of the value, or the first check to fail: that the type is known, that it
-- allows the length, that the outermost item is not too long, and that the bytes do not end before the item.
unfoldable pub typed_head_at : Bool → ℕ → List ℕ → Option ItemType → ℕ → Result (ℕ × ItemType × ℕ) TtlvFault
typed_head_at outermost at bytes None len = Err (UnknownType at)
typed_head_at outermost at bytes (Some type) len =
    if not (is_allowed type len) then Err (BadLength at)
    else if outermost && nat_lt most_bytes (head_size + padded len) then Err (TooLong at)
    else if nat_lt (length bytes) (head_size + padded len) then Err (overrun outermost at)
    else Ok (big_number 3 bytes, type, len)

-- The tag, the type and the length of the value of the item at the front of the bytes. They begin at this
-- offset and end where the item's parent does. First it is checked that they hold a whole head, and then what
-- `typed_head_at` checks.
unfoldable pub head_at : Bool → ℕ → List ℕ → Result (ℕ × ItemType × ℕ) TtlvFault
head_at outermost at bytes =
    if nat_lt (length bytes) head_size then Err (overrun outermost at)
    else typed_head_at outermost at bytes (type_of_byte (slice_index bytes 3)) (big_number 4 (drop 4 bytes))

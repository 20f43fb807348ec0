-- The head of a message: eight bytes with its tag, its type and how many bytes follow.
-- The tags of a message are those of `standard` of kmip_batch_items. How many bytes a head has, and a message at
-- most, is in Limits of kmip_ttlv.
-- Source: KMIP 2.1, Message Structure; TTLV Encoding. Own (limit): a message takes at most 8,192 bytes.
-- Own (order): the order of the checks, as the standard says none.
use Rattle.std.specs.Prelude.{ℕ, ◌+◌, ◌==◌, ◌%◌, nat_lt, Bool, not, ◌&&◌, ◌||◌, if◌then◌else◌, List, drop, slice_index, Option, Some, None}
use Rattle.byteorder.specs.Endian.{big_number}
use Rattle.kmip_ttlv.specs.Limits.{head_size, most_bytes}
use Rattle.kmip_ttlv.specs.Types.{byte_of_type}
use Rattle.kmip_ttlv.specs.declared.item_type.ItemType.TheVariants.{Structure}
use Rattle.kmip_batch_items.specs.declared.standard.TheConstants.{TAG_REQUEST_MESSAGE, TAG_RESPONSE_MESSAGE}
use Rattle.kmip_frames.specs.declared.frame_fault.FrameFault.{FrameFault}
use Rattle.kmip_frames.specs.declared.frame_fault.FrameFault.TheVariants.{BadHead, BadLength, TooLong}

-- whether a message has this tag: a Request Message or a Response Message
abbrev pub is_message_tag : ℕ → Bool
is_message_tag tag = tag == TAG_REQUEST_MESSAGE || tag == TAG_RESPONSE_MESSAGE

-- how many bytes follow a head, as it says
unfoldable pub length_in : List ℕ → ℕ
length_in head = big_number 4 (drop 4 head)

-- Why eight bytes are no head of a message, by the first check that fails: of the tag and the type, that the
-- length is a multiple of eight, and that the message is not too long. None where they are a head.
unfoldable pub head_fault : List ℕ → Option FrameFault
head_fault head =
    if not (is_message_tag (big_number 3 head) && slice_index head 3 == byte_of_type Structure) then Some BadHead
    else if not (length_in head % 8 == 0) then Some BadLength
    else if nat_lt most_bytes (head_size + length_in head) then Some TooLong
    else None

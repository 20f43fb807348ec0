-- The headers of messages, by their formats: the version, how many Batch Items there are, and of a request
-- what is to become of the questions after a failure.
-- Source: KMIP 2.1, Message Structure (Request Header, Response Header), and Enumerations (Batch Error
-- Continuation Option). Own (order): the order of the checks, as the standard says none.
use Rattle.std.specs.Prelude.{ℕ, ℤ, Bool, true, ◌==◌, ◌||◌, Option}
use Rattle.std.specs.Option.{option_map_or}
use Rattle.kmip_ttlv.specs.Node.{date_time}
use Rattle.kmip_batch_items.specs.Formats.{Format, integers, enumerations, required, optional, unread, structure_of, ranged, ◌⊗◌, ◌▷◌}
use Rattle.kmip_batch_items.specs.declared.standard.TheConstants.{TAG_REQUEST_HEADER, TAG_RESPONSE_HEADER, TAG_PROTOCOL_VERSION, TAG_TIME_STAMP, TAG_BATCH_COUNT, TAG_BATCH_ERROR_CONTINUATION_OPTION, CONTINUE, STOP, UNDO}
use Rattle.kmip_batch_items.specs.ReplyFormats.{any_version_parts_format}
use Rattle.kmip_batch_items.specs.RequestFormats.{version_parts_format}

-- whether this is one of the standard's three options: Continue, Stop or Undo
abbrev pub is_option : ℕ → Bool
is_option option = option == CONTINUE || option == STOP || option == UNDO

-- the Batch Error Continuation Option, which may be there once and is one of the three
unfoldable pub option_format : Format (Option ℕ)
option_format = ranged TAG_BATCH_ERROR_CONTINUATION_OPTION (λ o. option_map_or is_option o true)
    (optional enumerations TAG_BATCH_ERROR_CONTINUATION_OPTION)

-- what is in the Request Header: the version 2.1, the option, and the Batch Count
unfoldable pub header_parts_format : Format (Option ℕ × ℤ)
header_parts_format = structure_of TAG_PROTOCOL_VERSION version_parts_format ▷ option_format ⊗ required integers TAG_BATCH_COUNT

-- the Request Header, which has to be there: its option and its Batch Count
unfoldable pub header_format : Format (Option ℕ × ℤ)
header_format = structure_of TAG_REQUEST_HEADER header_parts_format

-- What is in the Response Header, written at a time in seconds: the version, the time, and the Batch Count.
-- The time is not looked at.
unfoldable pub reply_header_parts_format : ℤ → Format ℤ
reply_header_parts_format now =
    structure_of TAG_PROTOCOL_VERSION any_version_parts_format ▷ unread TAG_TIME_STAMP (date_time now) ▷ required integers TAG_BATCH_COUNT

-- the Response Header, which has to be there: its Batch Count
unfoldable pub reply_header_format : ℤ → Format ℤ
reply_header_format now = structure_of TAG_RESPONSE_HEADER (reply_header_parts_format now)

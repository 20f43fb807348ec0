-- Messages of one to eight Batch Items: the questions of a request, and the replies to them.
-- Source: KMIP 2.1, Tags, Message Structure (Request Message, Response Message), and Batch Error Continuation
-- Option. Own (limit): at most eight Batch Items. Own (choice): that Undo is refused. Own (order): the order
-- of the checks, as the standard says none, and one fault is to be named.
use Rattle.std.specs.Prelude.{◌≡◌, ℕ, ℤ, pos, Bool, true, false, not, ◌==◌, List, length, Option, Result, Ok, IsTrue}
use Rattle.std.specs.Option.{option_map, option_map_or}
use Rattle.kmip_ttlv.specs.Binding.{◌>>=◌}
use Rattle.kmip_ttlv.specs.Node.{Node, node, integer, enumeration}
use Rattle.kmip_batch_items.specs.declared.message_fault.MessageFault.{MessageFault}
use Rattle.kmip_batch_items.specs.declared.message_fault.MessageFault.TheVariants.{BatchCount, Undo}
use Rattle.kmip_batch_items.specs.Formats.{inside}
use Rattle.kmip_batch_items.specs.Siblings.{contents, guard}
use Rattle.kmip_batch_items.specs.Occurrences.{Once, AtMostOnce}
use Rattle.kmip_batch_items.specs.declared.reply.Reply.{Reply}
use Rattle.kmip_batch_items.specs.declared.standard.TheConstants.{TAG_REQUEST_MESSAGE, TAG_RESPONSE_MESSAGE, TAG_REQUEST_HEADER, TAG_RESPONSE_HEADER, TAG_PROTOCOL_VERSION, TAG_PROTOCOL_VERSION_MAJOR, TAG_PROTOCOL_VERSION_MINOR, TAG_BATCH_COUNT, TAG_BATCH_ERROR_CONTINUATION_OPTION, TAG_BATCH_ITEM, UNDO, VERSION_MAJOR}
use Rattle.kmip_batch_items.specs.BatchItems.{question_at, IsQuestion, IsAnswer}
use Rattle.kmip_batch_items.specs.Parts.{message_at}
use Rattle.kmip_batch_items.specs.ReplyFormats.{answered_format}
use Rattle.kmip_batch_items.specs.Requests.{IsVersion}
use Rattle.kmip_batch_items.specs.Whole.{item_in}
use Rattle.kmip_messages.specs.declared.batch.Batch.{Batch}
use Rattle.kmip_messages.specs.Headers.{is_option, header_format, reply_header_format}
use Rattle.kmip_messages.specs.Members.{may_have, is_count, members_at, SayEach}

-- ---- a message, item by item

-- The items stand in the order in which they are written. A reader takes them in any order, and skips items
-- that are not listed. "1" is just once among its siblings, "0 or 1" at most once; an item that stands more
-- often is a fault. What is in a Batch Item is listed in RequestFormats and ReplyFormats of kmip_batch_items.
-- `IsBatch` and `AreReplies` say this line by line.
--
-- A request:
-- · Request Message, 420078, Structure, the whole message: no bytes after it, at most 8,192 in all.
-- · · Request Header, 420077, Structure, 1.
-- · · · Protocol Version, 420069, Structure, 1.
-- · · · · Protocol Version Major, 42006A, Integer, 1: 2.
-- · · · · Protocol Version Minor, 42006B, Integer, 1: 1.
-- · · · Batch Error Continuation Option, 42000E, Enumeration, 0 or 1: 1, Continue, 2, Stop, or 3, Undo.
-- · · · · Undo is refused.
-- · · · Batch Count, 42000D, Integer, 1: the number of the Batch Items.
-- · · Batch Item, 42000F, Structure, 1 to 8.
--
-- A reply:
-- · Response Message, 42007B, Structure, the whole message: no bytes after it, at most 8,192 in all.
-- · · Response Header, 42007A, Structure, 1.
-- · · · Protocol Version, 420069, Structure, 1.
-- · · · · Protocol Version Major, 42006A, Integer, 1: 2.
-- · · · · Protocol Version Minor, 42006B, Integer, 1: 1 is written, and any is read.
-- · · · Time Stamp, 420092, Date-Time: written, in seconds since 1970, and not looked at.
-- · · · Batch Count, 42000D, Integer, 1: the number of the Batch Items.
-- · · Batch Item, 42000F, Structure, 1 to 8.

-- ---- requests

-- whether what was done before a failure is to be undone
abbrev pub is_undo : Option ℕ → Bool
is_undo option = option_map_or (λ o. o == UNDO) option false

-- The message has one Request Header. It says the version 2.1, the Batch Error Continuation Option where
-- there is one, and the Batch Count.
pub record IsHeader (message : List Node) (option : Option ℕ) (count : ℤ) : Type 0 where
  pub parts : List Node
  pub stands : Once TAG_REQUEST_HEADER (inside parts) message
  pub version : IsVersion parts
  pub has_option : AtMostOnce TAG_BATCH_ERROR_CONTINUATION_OPTION (option_map enumeration option) parts
  pub option_in_range : IsTrue (option_map_or is_option option true)
  pub has_count : Once TAG_BATCH_COUNT (integer count) parts

-- The item is a Request Message of these questions, which are one to eight, with the header's option. Nothing
-- is to be undone.
pub record IsBatch (batch : Batch) (item : Node) : Type 0 where
  pub message : List Node
  pub is_message : item ≡ node TAG_REQUEST_MESSAGE (inside message)
  pub header : IsHeader message batch.option (pos (length batch.items))
  pub within : IsTrue (may_have (length batch.items))
  pub keeps : IsTrue (not (is_undo batch.option))
  pub questions : SayEach IsQuestion (contents TAG_BATCH_ITEM message) batch.items

-- The questions of an item, or the first check that fails: of the message, of its header, of the Batch Count,
-- of the option, and then of the Batch Items.
unfoldable pub batch_at : Node → Result Batch MessageFault
batch_at n = do
  message ← message_at TAG_REQUEST_MESSAGE n
  header ← header_format.read message
  counted ← guard BatchCount (is_count header.1 (length (contents TAG_BATCH_ITEM message)))
  keeps ← guard Undo (not (is_undo header.0))
  items ← members_at question_at message
  Ok (record { option = header.0; items = items })

-- the questions of the item that all the bytes spell, or the first check that fails
unfoldable pub batch_read : List ℕ → Result Batch MessageFault
batch_read bytes = do
  n ← item_in bytes
  batch_at n

-- ---- replies

-- The message has one Response Header. It says the version 2 with any minor number, and the Batch Count.
pub record IsReplyHeader (message : List Node) (count : ℤ) : Type 0 where
  pub parts : List Node
  pub stands : Once TAG_RESPONSE_HEADER (inside parts) message
  pub version : List Node
  pub minor : ℤ
  pub has_version : Once TAG_PROTOCOL_VERSION (inside version) parts
  pub has_major : Once TAG_PROTOCOL_VERSION_MAJOR (integer VERSION_MAJOR) version
  pub has_minor : Once TAG_PROTOCOL_VERSION_MINOR (integer minor) version
  pub has_count : Once TAG_BATCH_COUNT (integer count) parts

-- The item is a Response Message of these replies, which are one to eight.
pub record AreReplies (replies : List Reply) (item : Node) : Type 0 where
  pub message : List Node
  pub is_message : item ≡ node TAG_RESPONSE_MESSAGE (inside message)
  pub header : IsReplyHeader message (pos (length replies))
  pub within : IsTrue (may_have (length replies))
  pub answers : SayEach IsAnswer (contents TAG_BATCH_ITEM message) replies

-- The replies of an item, or the first check that fails: of the message, of its header, of the Batch Count,
-- and then of the Batch Items.
unfoldable pub replies_at : Node → Result (List Reply) MessageFault
replies_at n = do
  message ← message_at TAG_RESPONSE_MESSAGE n
  count ← (reply_header_format (pos 0)).read message
  counted ← guard BatchCount (is_count count (length (contents TAG_BATCH_ITEM message)))
  members_at answered_format.read message

-- the replies of the item that all the bytes spell, or the first check that fails
unfoldable pub replies_read : List ℕ → Result (List Reply) MessageFault
replies_read bytes = do
  n ← item_in bytes
  replies_at n

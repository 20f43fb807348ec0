-- What both kinds of message have: their items, the Unique Batch Item ID, Unique Identifiers and the type of
-- a Name.
-- Source: KMIP 2.1, Message Structure and Object Attributes. Own (choice): the ranges.
use Rattle.std.specs.Prelude.{ℕ, ◌==◌, true, List, Option, Some, None, Result, Ok, Err, if◌then◌else◌}
use Rattle.std.specs.Option.{option_map_or}
use Rattle.kmip_ttlv.specs.Node.{Node, tag_of, content_of, as_structure}
use Rattle.kmip_batch_items.specs.declared.message_fault.MessageFault.{MessageFault}
use Rattle.kmip_batch_items.specs.declared.message_fault.MessageFault.TheVariants.{NotMessage, OutOfRange}
use Rattle.kmip_batch_items.specs.Formats.{Format, enumerations, texts, bytes, required, optional, ranged, fixed}
use Rattle.kmip_batch_items.specs.declared.standard.TheConstants.{TAG_UNIQUE_BATCH_ITEM_ID, TAG_UNIQUE_IDENTIFIER, TAG_NAME_TYPE, NAME_TYPE_UNINTERPRETED_TEXT_STRING}
use Rattle.kmip_objects.specs.Ranges.{is_identifier}
use Rattle.kmip_batch_items.specs.Ranges.{is_batch_id}

-- the items of a Structure, where its own tag is this one; else it is no message
abbrev pub message_in : ℕ → ℕ → Option (List Node) → Result (List Node) MessageFault
message_in tag own None = Err NotMessage
message_in tag own (Some items) = if own == tag then Ok items else Err NotMessage

-- The items of a message of this tag. What is no Structure, or has another tag, is no such message.
unfoldable pub message_at : ℕ → Node → Result (List Node) MessageFault
message_at tag n = message_in tag (tag_of n) (as_structure (content_of n))

-- the Unique Batch Item ID, which may be there once, in its range
unfoldable pub id_format : Format (Option (List ℕ))
id_format = ranged TAG_UNIQUE_BATCH_ITEM_ID (λ o. option_map_or is_batch_id o true) (optional bytes TAG_UNIQUE_BATCH_ITEM_ID)

-- the Unique Identifier, which has to be there, in its range
unfoldable pub identifier_format : Format (List ℕ)
identifier_format = ranged TAG_UNIQUE_IDENTIFIER is_identifier (required texts TAG_UNIQUE_IDENTIFIER)

-- the Name Type, which has to be there and to be that of an uninterpreted text
abbrev pub plain_format : Format (Unit {0})
plain_format = fixed (OutOfRange TAG_NAME_TYPE) (λ n. n == NAME_TYPE_UNINTERPRETED_TEXT_STRING) NAME_TYPE_UNINTERPRETED_TEXT_STRING
    (required enumerations TAG_NAME_TYPE)

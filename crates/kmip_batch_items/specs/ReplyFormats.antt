-- Each part of a reply, described once: how it is written, how it is read, in which order of checks, and what
-- it says.
-- Source: KMIP 2.1, Tags, Enumerations, Message Structure (Response Message), Operations (Create, Locate, Get
-- Attributes, Activate, Revoke, Destroy), Object Attributes and Message Data, Result Status. Own (order): the
-- order in which items are written and checked, as the standard says none, and one fault is to be named. Own
-- (choice): the ranges.
use Rattle.std.specs.Prelude.{ℕ, Bool, ◌==◌, ◌||◌, List, [], ◌∷◌, Option, Some, None}
use Rattle.std.specs.Option.{option_map_or}
use Rattle.std.specs.Ordering.{int_eq}
use Rattle.kmip_ttlv.specs.Node.{enumeration}
use Rattle.kmip_batch_items.specs.declared.message_fault.MessageFault.TheVariants.{Version, Missing, UnknownOperation}
use Rattle.kmip_batch_items.specs.Formats.{Format, integers, enumerations, texts, required, optional, unread, repeated, structure_of, optional_structure, ranged, fixed, as_record, as_case, ◌⊗◌, ◌⊗ʳ◌, ◌◁◌, ◌▷◌, followed, told, told_by, choose}
use Rattle.kmip_objects.specs.declared.attrs.Attrs.{Attrs}
use Rattle.kmip_objects.specs.declared.standard.TheConstants.{OBJECT_TYPE_SYMMETRIC_KEY}
use Rattle.kmip_objects.specs.Ranges.{is_identifier}
use Rattle.kmip_batch_items.specs.declared.operation.Operation.{Operation}
use Rattle.kmip_batch_items.specs.declared.operation.Operation.TheVariants as operations
use Rattle.kmip_batch_items.specs.declared.outcome.Outcome.{Outcome}
use Rattle.kmip_batch_items.specs.declared.outcome.Outcome.TheVariants.{Created, Located, Attributes, Activated, Revoked, Destroyed, Failed}
use Rattle.kmip_batch_items.specs.declared.reply.Reply.{Reply}
use Rattle.kmip_batch_items.specs.declared.standard.TheConstants.{TAG_PROTOCOL_VERSION_MAJOR, TAG_PROTOCOL_VERSION_MINOR, TAG_OPERATION, TAG_RESULT_STATUS, TAG_RESULT_REASON, TAG_RESPONSE_PAYLOAD, TAG_OBJECT_TYPE, TAG_ATTRIBUTES, TAG_NAME, TAG_NAME_VALUE, TAG_UNIQUE_IDENTIFIER, VERSION_MAJOR, VERSION_MINOR, STATUS_SUCCESS, STATUS_OPERATION_FAILED, OPERATION_CREATE, OPERATION_LOCATE, OPERATION_GET_ATTRIBUTES, OPERATION_ACTIVATE, OPERATION_REVOKE, OPERATION_DESTROY}
use Rattle.kmip_batch_items.specs.Attributes.{attrs_with}
use Rattle.kmip_batch_items.specs.Operations.{operation_with}
use Rattle.kmip_batch_items.specs.Parts.{id_format, identifier_format, plain_format}

-- ---- a Batch Item of a reply, item by item

-- The items stand in the order in which they are written. A reader takes them in any order, and skips items
-- that are not listed. "1" is just once among its siblings, "0 or 1" at most once; an item that stands more
-- often is a fault. `IsAnswer` says this line by line.
--
-- · Batch Item, 42000F, Structure.
-- · · Operation, 42005C, Enumeration, 0 or 1, and 1 of a success: that of the request.
-- · · Unique Batch Item ID, 420093, Byte String, 0 or 1: at most 128 bytes.
-- · · Result Status, 42007F, Enumeration, 1: 0, Success, or 1, Operation Failed.
-- · · Result Reason, 42007E, Enumeration, of a failure 0 or 1: any. Of a success not looked at.
-- · · Response Payload, 42007C, Structure, of a success 1, of Locate 0 or 1. Of a failure not looked at.
--
-- The payload of Create:
-- · Object Type, 420057, Enumeration: 2, Symmetric Key, is written, and not looked at.
-- · Unique Identifier, 420094, Text String, 1: 1 to 64 bytes.
--
-- The payload of Locate:
-- · Unique Identifier, 420094, Text String, any number: 1 to 64 bytes each.
--
-- The payload of Get Attributes:
-- · Unique Identifier, 420094, Text String, 1: 1 to 64 bytes.
-- · Attributes, 420125, Structure, 1.
-- · · Object Type, 420057, Enumeration, 0 or 1: any.
-- · · Name, 420053, Structure, 0 or 1.
-- · · · Name Value, 420055, Text String, 1: any text.
-- · · · Name Type, 420054, Enumeration, 1: 1, Uninterpreted Text String.
-- · · Cryptographic Algorithm, 420028, Enumeration, 0 or 1: any.
-- · · Cryptographic Length, 42002A, Integer, 0 or 1: any.
-- · · Cryptographic Usage Mask, 42002C, Integer, 0 or 1: any.
-- · · State, 42008D, Enumeration, 0 or 1: any.
--
-- The payload of Activate, of Revoke and of Destroy:
-- · Unique Identifier, 420094, Text String, 1: 1 to 64 bytes.

-- ---- attributes

-- what is in a Name: any value, and the type of an uninterpreted text
unfoldable pub any_name_parts_format : Format (List ℕ)
any_name_parts_format = required texts TAG_NAME_VALUE ◁ plain_format

-- a Name of any value, which may be there once
abbrev pub any_name_format : Format (Option (List ℕ))
any_name_format = optional_structure TAG_NAME any_name_parts_format

-- The attributes that are given, each of any value. Others are skipped.
unfoldable pub attrs_format : Format Attrs
attrs_format = attrs_with any_name_format

-- ---- payloads

-- what a Create says, where the outcome is one
abbrev pub in_created : Outcome → Option (List ℕ)
in_created (Created uid) = Some uid
in_created outcome = None

-- what a Locate says, where the outcome is one
abbrev pub in_located : Outcome → Option (Option (List (List ℕ)))
in_located (Located uids) = Some (Some uids)
in_located outcome = None

-- what a Get Attributes says, where the outcome is one
abbrev pub in_attributes : Outcome → Option (List ℕ × Attrs)
in_attributes (Attributes uid attrs) = Some (uid, attrs)
in_attributes outcome = None

-- what an Activate says, where the outcome is one
abbrev pub in_activated : Outcome → Option (List ℕ)
in_activated (Activated uid) = Some uid
in_activated outcome = None

-- what a Revoke says, where the outcome is one
abbrev pub in_revoked : Outcome → Option (List ℕ)
in_revoked (Revoked uid) = Some uid
in_revoked outcome = None

-- what a Destroy says, where the outcome is one
abbrev pub in_destroyed : Outcome → Option (List ℕ)
in_destroyed (Destroyed uid) = Some uid
in_destroyed outcome = None

-- what a failure says, where the outcome is one
abbrev pub in_failed : Outcome → Option (Option ℕ)
in_failed (Failed reason) = Some reason
in_failed outcome = None

-- Create: the identifier, after the type of the object, which is not looked at
unfoldable pub created_format : Format (List ℕ)
created_format = unread TAG_OBJECT_TYPE (enumeration OBJECT_TYPE_SYMMETRIC_KEY) ▷ identifier_format

-- Locate: the identifiers, any number of them
unfoldable pub identifiers_format : Format (List (List ℕ))
identifiers_format = repeated texts TAG_UNIQUE_IDENTIFIER is_identifier

-- Get Attributes: the identifier, and the attributes of its object
unfoldable pub object_format : Format (List ℕ × Attrs)
object_format = identifier_format ⊗ structure_of TAG_ATTRIBUTES attrs_format

-- the identifier alone, in the payload, which has to be there
unfoldable pub named_format : Format (List ℕ)
named_format = structure_of TAG_RESPONSE_PAYLOAD identifier_format

-- The payload of a Locate, which may be there. Without it nothing was found.
unfoldable pub located_format : Format Outcome
located_format = as_case (λ found. Located (option_map_or (λ uids. uids) found [])) in_located
    (optional_structure TAG_RESPONSE_PAYLOAD identifiers_format)

-- the Response Payload of a success of an operation
unfoldable pub answer_format : Operation → Format Outcome
answer_format operations.Create = as_case Created in_created (structure_of TAG_RESPONSE_PAYLOAD created_format)
answer_format operations.Locate = located_format
answer_format operations.GetAttributes = as_case (λ p. Attributes p.0 p.1) in_attributes (structure_of TAG_RESPONSE_PAYLOAD object_format)
answer_format operations.Activate = as_case Activated in_activated named_format
answer_format operations.Revoke = as_case Revoked in_revoked named_format
answer_format operations.Destroy = as_case Destroyed in_destroyed named_format

-- ---- outcomes

-- the operation of which an outcome is a success; of a failure 0, which is no operation
abbrev pub succeeded : Outcome → ℕ
succeeded (Created uid) = OPERATION_CREATE
succeeded (Located uids) = OPERATION_LOCATE
succeeded (Attributes uid attrs) = OPERATION_GET_ATTRIBUTES
succeeded (Activated uid) = OPERATION_ACTIVATE
succeeded (Revoked uid) = OPERATION_REVOKE
succeeded (Destroyed uid) = OPERATION_DESTROY
succeeded (Failed reason) = 0

-- The Response Payload of a success of the operation of this number. There has to be such an operation, or it
-- is unknown.
unfoldable pub success_of_format : ℕ → Format Outcome
success_of_format number = told UnknownOperation (operation_with number) (TAG_RESPONSE_PAYLOAD ∷ []) answer_format

-- The Response Payload of a success of the operation that the Batch Item names. Where it names none, the
-- Operation is missing.
unfoldable pub success_format : Option ℕ → Format Outcome
success_format asked = told_by (Missing TAG_OPERATION) succeeded asked (TAG_RESPONSE_PAYLOAD ∷ []) success_of_format

-- The Result Reason of a failure, where there is one. No payload is looked at.
unfoldable pub failed_format : Format Outcome
failed_format = as_case Failed in_failed (optional enumerations TAG_RESULT_REASON)

-- whether this is a Result Status of the profile: Success or Operation Failed
abbrev pub is_status : ℕ → Bool
is_status status = status == STATUS_SUCCESS || status == STATUS_OPERATION_FAILED

-- the Result Status of an outcome
abbrev pub status_of : Outcome → ℕ
status_of (Failed reason) = STATUS_OPERATION_FAILED
status_of outcome = STATUS_SUCCESS

-- the Result Status, and then the payload or the reason
unfoldable pub outcome_format : Option ℕ → Format Outcome
outcome_format asked = as_record (λ p. p.1) (λ o. (status_of o, o))
    (followed (TAG_RESPONSE_PAYLOAD ∷ TAG_RESULT_REASON ∷ [])
    (ranged TAG_RESULT_STATUS is_status (required enumerations TAG_RESULT_STATUS))
    (λ status. choose (status == STATUS_SUCCESS) (success_format asked) failed_format))

-- ---- the version, and the Batch Item

-- What is in the Protocol Version of a reply: 2 with any minor number is read, and 2.1 is written.
unfoldable pub any_version_parts_format : Format (Unit {0})
any_version_parts_format = fixed Version (λ p. int_eq p.0 VERSION_MAJOR) (VERSION_MAJOR, VERSION_MINOR)
    (required integers TAG_PROTOCOL_VERSION_MAJOR ⊗ required integers TAG_PROTOCOL_VERSION_MINOR)

-- The Batch Item of a reply: the Unique Batch Item ID, then the Operation, then the outcome are read. The
-- Operation is written first.
unfoldable pub answered_format : Format Reply
answered_format = as_record (λ p. record { operation = p.0.0; id = p.0.1; outcome = p.1 }) (λ r. ((r.operation, r.id), r.outcome))
    (followed (TAG_RESULT_STATUS ∷ TAG_RESPONSE_PAYLOAD ∷ TAG_RESULT_REASON ∷ [])
    (optional enumerations TAG_OPERATION ⊗ʳ id_format) (λ known. outcome_format known.0))

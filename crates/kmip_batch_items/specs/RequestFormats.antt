-- Each part of a request, described once: how it is written, how it is read, in which order of checks, and
-- what it says.
-- Source: KMIP 2.1, Tags, Enumerations, Message Structure (Request Message), Operations (Create, Locate, Get
-- Attributes, Activate, Revoke, Destroy) and Object Attributes. Own (order): the order in which items are
-- written and checked, as the standard says none, and one fault is to be named. Own (choice): the ranges, and
-- what is refused in Attributes.
use Rattle.std.specs.Prelude.{ℕ, ℤ, ◌==◌, ◌&&◌, List, [], ◌∷◌, Option, Some, None}
use Rattle.std.specs.Ordering.{int_eq}
use Rattle.kmip_batch_items.specs.declared.message_fault.MessageFault.TheVariants.{Version, OutOfRange, UnknownOperation}
use Rattle.kmip_batch_items.specs.Formats.{Format, integers, enumerations, texts, required, optional, structure_of, ranged, fixed, present, as_record, as_case, ◌⊗◌, ◌⊗ʳ◌, ◌◁◌, ◌▷◌, followed, told, closed}
use Rattle.kmip_objects.specs.declared.key_attrs.KeyAttrs.{KeyAttrs}
use Rattle.kmip_objects.specs.declared.attrs.Attrs.{Attrs}
use Rattle.kmip_objects.specs.declared.standard.TheConstants.{OBJECT_TYPE_SYMMETRIC_KEY}
use Rattle.kmip_objects.specs.Ranges.{is_name, is_algorithm, is_length, is_usage, is_revocation_code}
use Rattle.kmip_batch_items.specs.declared.operation.Operation.{Operation}
use Rattle.kmip_batch_items.specs.declared.operation.Operation.TheVariants as operations
use Rattle.kmip_batch_items.specs.declared.ask.Ask.{Ask}
use Rattle.kmip_batch_items.specs.declared.ask.Ask.TheVariants.{Create, Locate, GetAttributes, Activate, Revoke, Destroy}
use Rattle.kmip_batch_items.specs.declared.request.Request.{Request}
use Rattle.kmip_batch_items.specs.declared.standard.TheConstants.{TAG_PROTOCOL_VERSION_MAJOR, TAG_PROTOCOL_VERSION_MINOR, TAG_OPERATION, TAG_REQUEST_PAYLOAD, TAG_OBJECT_TYPE, TAG_ATTRIBUTES, TAG_NAME, TAG_NAME_VALUE, TAG_CRYPTOGRAPHIC_ALGORITHM, TAG_CRYPTOGRAPHIC_LENGTH, TAG_CRYPTOGRAPHIC_USAGE_MASK, TAG_STORAGE_STATUS_MASK, TAG_REVOCATION_REASON, TAG_REVOCATION_REASON_CODE, VERSION_MAJOR, VERSION_MINOR}
use Rattle.kmip_batch_items.specs.Operations.{operation_with, operation_of}
use Rattle.kmip_batch_items.specs.Attributes.{attrs_with}
use Rattle.kmip_batch_items.specs.Parts.{id_format, identifier_format, plain_format}

-- ---- a Batch Item of a request, item by item

-- The items stand in the order in which they are written. A reader takes them in any order, and skips items
-- that are not listed, but where it says "no others": there an item of another tag is out of range. "1" is
-- just once among its siblings, "0 or 1" at most once; an item that stands more often is a fault.
-- `IsQuestion` says this line by line.
--
-- · Batch Item, 42000F, Structure.
-- · · Operation, 42005C, Enumeration, 1: one of the six below.
-- · · Unique Batch Item ID, 420093, Byte String, 0 or 1: at most 128 bytes.
-- · · Request Payload, 420079, Structure, 1.
--
-- The payload of Create, 1:
-- · Object Type, 420057, Enumeration, 1: 2, Symmetric Key.
-- · Attributes, 420125, Structure, 1, with no others.
-- · · Name, 420053, Structure, 1.
-- · · · Name Value, 420055, Text String, 1: 1 to 64 bytes of 21 to 7E.
-- · · · Name Type, 420054, Enumeration, 1: 1, Uninterpreted Text String.
-- · · Cryptographic Algorithm, 420028, Enumeration, 1: 3, AES, or 9, HMAC-SHA256.
-- · · Cryptographic Length, 42002A, Integer, 1: 128, 192 or 256 of AES, 256 of HMAC-SHA256.
-- · · Cryptographic Usage Mask, 42002C, Integer, 1: 1 to 1FF.
--
-- The payload of Locate, 8:
-- · Storage Status Mask, 42008E, Integer, 0 or 1: any.
-- · Attributes, 420125, Structure, 1, with no others.
-- · · Object Type, 420057, Enumeration, 0 or 1: any.
-- · · Name, 420053, Structure, 1: as above.
-- · · Cryptographic Algorithm, 420028, Enumeration, 0 or 1: any.
-- · · Cryptographic Length, 42002A, Integer, 0 or 1: any.
-- · · Cryptographic Usage Mask, 42002C, Integer, 0 or 1: any.
-- · · State, 42008D, Enumeration, 0 or 1: any.
--
-- The payload of Get Attributes, B, of Activate, 12, and of Destroy, 14:
-- · Unique Identifier, 420094, Text String, 1: 1 to 64 bytes.
--
-- The payload of Revoke, 13:
-- · Unique Identifier, 420094, Text String, 1: 1 to 64 bytes.
-- · Revocation Reason, 420081, Structure, 1.
-- · · Revocation Reason Code, 420082, Enumeration, 1: 1 to 7.

-- ---- attributes

-- what is in a Name: its value, in its range, and the type of an uninterpreted text
unfoldable pub name_parts_format : Format (List ℕ)
name_parts_format =
    ranged TAG_NAME_VALUE is_name (required texts TAG_NAME_VALUE)
    ◁ plain_format

-- the Name, which has to be there
abbrev pub name_format : Format (List ℕ)
name_format = structure_of TAG_NAME name_parts_format

-- The attributes of a new key, all four of them and no others. First the tags are checked, and then the name,
-- the algorithm, the length and the usage are read.
unfoldable pub key_attrs_format : Format KeyAttrs
key_attrs_format = closed (as_record
    (λ (called, ((kind, bits), mask)). record { name = called; algorithm = kind; length = bits; usage = mask })
    (λ k. (k.name, ((k.algorithm, k.length), k.usage)))
    (name_format
    ⊗ ranged TAG_CRYPTOGRAPHIC_LENGTH (λ p. is_length p.0 p.1)
    (ranged TAG_CRYPTOGRAPHIC_ALGORITHM is_algorithm (required enumerations TAG_CRYPTOGRAPHIC_ALGORITHM)
    ⊗ required integers TAG_CRYPTOGRAPHIC_LENGTH)
    ⊗ ranged TAG_CRYPTOGRAPHIC_USAGE_MASK is_usage (required integers TAG_CRYPTOGRAPHIC_USAGE_MASK)))

-- The attributes to look for, of which the Name has to be there, and no others. The tags are checked first.
unfoldable pub filter_format : Format Attrs
filter_format = closed (attrs_with (present name_format))

-- ---- payloads

-- what a Create asks, where it is one
abbrev pub in_create : Ask → Option KeyAttrs
in_create (Create k) = Some k
in_create ask = None

-- what a Locate asks, where it is one
abbrev pub in_locate : Ask → Option (Option ℤ × Attrs)
in_locate (Locate storage filter) = Some (storage, filter)
in_locate ask = None

-- what a Get Attributes asks, where it is one
abbrev pub in_get_attributes : Ask → Option (List ℕ)
in_get_attributes (GetAttributes uid) = Some uid
in_get_attributes ask = None

-- what an Activate asks, where it is one
abbrev pub in_activate : Ask → Option (List ℕ)
in_activate (Activate uid) = Some uid
in_activate ask = None

-- what a Revoke asks, where it is one
abbrev pub in_revoke : Ask → Option (List ℕ × ℕ)
in_revoke (Revoke uid code) = Some (uid, code)
in_revoke ask = None

-- what a Destroy asks, where it is one
abbrev pub in_destroy : Ask → Option (List ℕ)
in_destroy (Destroy uid) = Some uid
in_destroy ask = None

-- Create: a symmetric key with these attributes
unfoldable pub create_format : Format KeyAttrs
create_format =
    fixed (OutOfRange TAG_OBJECT_TYPE) (λ n. n == OBJECT_TYPE_SYMMETRIC_KEY) OBJECT_TYPE_SYMMETRIC_KEY (required enumerations TAG_OBJECT_TYPE)
    ▷ structure_of TAG_ATTRIBUTES key_attrs_format

-- Locate: the storage to look in, where it is said, and the attributes to look for
unfoldable pub locate_format : Format Ask
locate_format = as_case (λ p. Locate p.0 p.1) in_locate
    (optional integers TAG_STORAGE_STATUS_MASK ⊗ structure_of TAG_ATTRIBUTES filter_format)

-- what is in a Revocation Reason: its code, in its range
unfoldable pub reason_format : Format ℕ
reason_format = ranged TAG_REVOCATION_REASON_CODE is_revocation_code (required enumerations TAG_REVOCATION_REASON_CODE)

-- Revoke: the key and the reason's code
unfoldable pub revoke_format : Format Ask
revoke_format = as_case (λ p. Revoke p.0 p.1) in_revoke (identifier_format ⊗ structure_of TAG_REVOCATION_REASON reason_format)

-- the payload of an operation
unfoldable pub payload_format : Operation → Format Ask
payload_format operations.Create = as_case Create in_create create_format
payload_format operations.Locate = locate_format
payload_format operations.GetAttributes = as_case GetAttributes in_get_attributes identifier_format
payload_format operations.Activate = as_case Activate in_activate identifier_format
payload_format operations.Revoke = revoke_format
payload_format operations.Destroy = as_case Destroy in_destroy identifier_format

-- ---- the version, and the Batch Item

-- what is in the Protocol Version of a request: 2.1
unfoldable pub version_parts_format : Format (Unit {0})
version_parts_format = fixed Version (λ p. int_eq p.0 VERSION_MAJOR && int_eq p.1 VERSION_MINOR) (VERSION_MAJOR, VERSION_MINOR)
    (required integers TAG_PROTOCOL_VERSION_MAJOR ⊗ required integers TAG_PROTOCOL_VERSION_MINOR)

-- The Operation and the Unique Batch Item ID, which the answer to a refused request carries. The Unique Batch
-- Item ID is read first, and the Operation is written first.
unfoldable pub known_format : Format (ℕ × Option (List ℕ))
known_format = required enumerations TAG_OPERATION ⊗ʳ id_format

-- The Request Payload of the operation of this number. There has to be such an operation, or it is unknown.
unfoldable pub asked_format : ℕ → Format Ask
asked_format number = told UnknownOperation (operation_with number) (TAG_REQUEST_PAYLOAD ∷ [])
    (λ operation. structure_of TAG_REQUEST_PAYLOAD (payload_format operation))

-- The Batch Item of a request: its Operation and Unique Batch Item ID, and then its payload.
unfoldable pub item_format : Format Request
item_format = as_record (λ p. record { id = p.0.1; ask = p.1 }) (λ r. ((operation_of r.ask, r.id), r.ask))
    (followed (TAG_REQUEST_PAYLOAD ∷ []) known_format (λ known. asked_format known.0))

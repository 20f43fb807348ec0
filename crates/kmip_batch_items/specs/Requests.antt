-- What a request says, whatever the order of its items: no faults, and no reading.
-- Each used item stands once among its siblings, in any order, and others are skipped but in Attributes.
-- Source: KMIP 2.1, Message Structure (Request Message), Operations (Create, Locate, Get Attributes,
-- Activate, Revoke, Destroy) and Object Attributes. Own (choice): the ranges, and that other items in
-- Attributes are refused.
use Rattle.std.specs.Prelude.{ℕ, ℤ, List, Option, IsTrue}
use Rattle.std.specs.Option.{option_map}
use Rattle.kmip_ttlv.specs.Node.{Node, integer, enumeration}
use Rattle.kmip_objects.specs.declared.key_attrs.KeyAttrs.{KeyAttrs}
use Rattle.kmip_objects.specs.declared.attrs.Attrs.{Attrs}
use Rattle.kmip_batch_items.specs.declared.ask.Ask.{Ask}
use Rattle.kmip_batch_items.specs.declared.ask.Ask.TheVariants.{Create, Locate, GetAttributes, Activate, Revoke, Destroy}
use Rattle.kmip_batch_items.specs.declared.standard.TheConstants.{
  KEY_TAGS,
  TAG_PROTOCOL_VERSION,
  TAG_PROTOCOL_VERSION_MAJOR,
  TAG_PROTOCOL_VERSION_MINOR,
  TAG_OPERATION,
  TAG_REQUEST_PAYLOAD,
  TAG_OBJECT_TYPE,
  TAG_ATTRIBUTES,
  TAG_CRYPTOGRAPHIC_ALGORITHM,
  TAG_CRYPTOGRAPHIC_LENGTH,
  TAG_CRYPTOGRAPHIC_USAGE_MASK,
  TAG_STORAGE_STATUS_MASK,
  TAG_REVOCATION_REASON,
  TAG_REVOCATION_REASON_CODE,
  VERSION_MAJOR,
  VERSION_MINOR,
}
use Rattle.kmip_objects.specs.declared.standard.TheConstants.{OBJECT_TYPE_SYMMETRIC_KEY}
use Rattle.kmip_objects.specs.Ranges.{is_algorithm, is_length, is_usage, is_revocation_code}
use Rattle.kmip_batch_items.specs.Operations.{operation_of}
use Rattle.kmip_batch_items.specs.Occurrences.{Once, AtMostOnce, HaveTags}
use Rattle.kmip_batch_items.specs.Attributes.{IsName, IsFilter}
use Rattle.kmip_batch_items.specs.Marks.{IsIdentifier}
use Rattle.kmip_batch_items.specs.Formats.{inside}

-- The header has one Protocol Version, and it is 2.1.
pub record IsVersion (header : List Node) : Type 0 where
  pub parts : List Node
  pub stands : Once TAG_PROTOCOL_VERSION (inside parts) header
  pub major : Once TAG_PROTOCOL_VERSION_MAJOR (integer VERSION_MAJOR) parts
  pub minor : Once TAG_PROTOCOL_VERSION_MINOR (integer VERSION_MINOR) parts

-- The attributes are those of a new key, all four of them in their ranges, and no others.
pub record IsKeyAttrs (attributes : List Node) (key : KeyAttrs) : Type 0 where
  pub no_others : HaveTags KEY_TAGS attributes
  pub called : IsName attributes key.name
  pub algorithm : Once TAG_CRYPTOGRAPHIC_ALGORITHM (enumeration key.algorithm) attributes
  pub algorithm_in_range : IsTrue (is_algorithm key.algorithm)
  pub bits : Once TAG_CRYPTOGRAPHIC_LENGTH (integer key.length) attributes
  pub bits_in_range : IsTrue (is_length key.algorithm key.length)
  pub mask : Once TAG_CRYPTOGRAPHIC_USAGE_MASK (integer key.usage) attributes
  pub mask_in_range : IsTrue (is_usage key.usage)

-- The payload of a Create asks for a symmetric key with these attributes.
pub record IsCreate (payload : List Node) (key : KeyAttrs) : Type 0 where
  pub object_type : Once TAG_OBJECT_TYPE (enumeration OBJECT_TYPE_SYMMETRIC_KEY) payload
  pub attributes : List Node
  pub stands : Once TAG_ATTRIBUTES (inside attributes) payload
  pub are : IsKeyAttrs attributes key

-- The payload of a Locate says in which storage to look, where it says so, and which attributes to look for.
pub record IsLocate (payload : List Node) (storage : Option ℤ) (filter : Attrs) : Type 0 where
  pub mask : AtMostOnce TAG_STORAGE_STATUS_MASK (option_map integer storage) payload
  pub attributes : List Node
  pub stands : Once TAG_ATTRIBUTES (inside attributes) payload
  pub are : IsFilter attributes filter

-- The payload of a Revoke says the key and the reason's code.
pub record IsRevoke (payload : List Node) (uid : List ℕ) (code : ℕ) : Type 0 where
  pub identifier : IsIdentifier payload uid
  pub reason : List Node
  pub stands : Once TAG_REVOCATION_REASON (inside reason) payload
  pub says : Once TAG_REVOCATION_REASON_CODE (enumeration code) reason
  pub in_range : IsTrue (is_revocation_code code)

-- The items of a Request Payload ask this.
abbrev pub IsPayload : List Node → Ask → Type 0
IsPayload payload (Create key) = IsCreate payload key
IsPayload payload (Locate storage filter) = IsLocate payload storage filter
IsPayload payload (GetAttributes uid) = IsIdentifier payload uid
IsPayload payload (Activate uid) = IsIdentifier payload uid
IsPayload payload (Revoke uid code) = IsRevoke payload uid code
IsPayload payload (Destroy uid) = IsIdentifier payload uid

-- The items of a Batch Item ask this, by one Operation and one Request Payload.
pub record IsAsk (batch : List Node) (ask : Ask) : Type 0 where
  pub operation : Once TAG_OPERATION (enumeration (operation_of ask)) batch
  pub payload : List Node
  pub stands : Once TAG_REQUEST_PAYLOAD (inside payload) batch
  pub says : IsPayload payload ask

-- What a reply says: each item that is used stands once among its siblings, in any order, and other items are
-- skipped.
-- Source: KMIP 2.1, Message Structure, Operations and Object Attributes. Own (choice): the ranges.
use Rattle.std.specs.Prelude.{◌≡◌, ℕ, List, [], map, Option, Some, None, IsTrue}
use Rattle.std.specs.List.{list_all}
use Rattle.std.specs.Option.{option_map}
use Rattle.kmip_ttlv.specs.Node.{Node, enumeration, text_string}
use Rattle.kmip_objects.specs.declared.attrs.Attrs.{Attrs}
use Rattle.kmip_batch_items.specs.declared.outcome.Outcome.{Outcome}
use Rattle.kmip_batch_items.specs.declared.outcome.Outcome.TheVariants.{Created, Located, Attributes, Activated, Revoked, Destroyed, Failed}
use Rattle.kmip_batch_items.specs.declared.standard.TheConstants.{TAG_RESULT_STATUS, TAG_RESULT_REASON, TAG_RESPONSE_PAYLOAD, TAG_ATTRIBUTES, TAG_UNIQUE_IDENTIFIER, STATUS_SUCCESS, STATUS_OPERATION_FAILED, OPERATION_CREATE, OPERATION_LOCATE, OPERATION_GET_ATTRIBUTES, OPERATION_ACTIVATE, OPERATION_REVOKE, OPERATION_DESTROY}
use Rattle.kmip_objects.specs.Ranges.{is_identifier}
use Rattle.kmip_batch_items.specs.Siblings.{contents}
use Rattle.kmip_batch_items.specs.Occurrences.{Once, AtMostOnce}
use Rattle.kmip_batch_items.specs.Attributes.{AreAttrs}
use Rattle.kmip_batch_items.specs.Marks.{IsIdentifier}
use Rattle.kmip_batch_items.specs.Formats.{inside}

-- The payload has these Unique Identifiers and no others, in their order, each in its range.
pub record AreIdentifiers (payload : List Node) (uids : List (List ℕ)) : Type 0 where
  pub stand : contents TAG_UNIQUE_IDENTIFIER payload ≡ map text_string uids
  pub in_range : IsTrue (list_all is_identifier uids)

-- The payload of Get Attributes says this identifier, and these attributes of its object.
pub record IsObject (payload : List Node) (uid : List ℕ) (attrs : Attrs) : Type 0 where
  pub attributes : List Node
  pub is_identifier : IsIdentifier payload uid
  pub has_attributes : Once TAG_ATTRIBUTES (inside attributes) payload
  pub are : AreAttrs attributes attrs

-- A success of this operation, which is the one that was asked. It has one payload, of which this holds.
pub record IsSuccess (batch : List Node) (asked : Option ℕ) (operation : ℕ) (Says : List Node → Type 0) : Type 0 where
  pub is_own : asked ≡ Some operation
  pub has_status : Once TAG_RESULT_STATUS (enumeration STATUS_SUCCESS) batch
  pub payload : List Node
  pub has_payload : Once TAG_RESPONSE_PAYLOAD (inside payload) batch
  pub says : Says payload

-- The payload of a Locate says these identifiers. No payload says what an empty one does.
abbrev pub AreFound : Option (List Node) → List (List ℕ) → Type 0
AreFound None uids = uids ≡ []
AreFound (Some payload) uids = AreIdentifiers payload uids

-- A success of Locate, which is the operation that was asked. It may have a payload, and says these
-- identifiers.
pub record IsLocated (batch : List Node) (asked : Option ℕ) (uids : List (List ℕ)) : Type 0 where
  pub is_own : asked ≡ Some OPERATION_LOCATE
  pub has_status : Once TAG_RESULT_STATUS (enumeration STATUS_SUCCESS) batch
  pub payload : Option (List Node)
  pub has_payload : AtMostOnce TAG_RESPONSE_PAYLOAD (option_map inside payload) batch
  pub says : AreFound payload uids

-- A failure, with its reason where there is one. No payload is looked at.
pub record IsFailed (batch : List Node) (reason : Option ℕ) : Type 0 where
  pub has_status : Once TAG_RESULT_STATUS (enumeration STATUS_OPERATION_FAILED) batch
  pub has_reason : AtMostOnce TAG_RESULT_REASON (option_map enumeration reason) batch

-- The items of a Batch Item say how the operation that was asked went.
abbrev pub IsOutcome : List Node → Option ℕ → Outcome → Type 0
IsOutcome batch asked (Created uid) = IsSuccess batch asked OPERATION_CREATE (λ payload. IsIdentifier payload uid)
IsOutcome batch asked (Located uids) = IsLocated batch asked uids
IsOutcome batch asked (Attributes uid attrs) = IsSuccess batch asked OPERATION_GET_ATTRIBUTES (λ payload. IsObject payload uid attrs)
IsOutcome batch asked (Activated uid) = IsSuccess batch asked OPERATION_ACTIVATE (λ payload. IsIdentifier payload uid)
IsOutcome batch asked (Revoked uid) = IsSuccess batch asked OPERATION_REVOKE (λ payload. IsIdentifier payload uid)
IsOutcome batch asked (Destroyed uid) = IsSuccess batch asked OPERATION_DESTROY (λ payload. IsIdentifier payload uid)
IsOutcome batch asked (Failed reason) = IsFailed batch reason

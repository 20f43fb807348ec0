-- What the formats of requests say is what specs/Requests says by hand, in both directions.
use Rattle.std.proofs.Common.{◌≡◌, ℤ, true, List, refl, subst}
use Rattle.std.proofs.lemmas.Bool.{eqb-true, and_parts}
use Rattle.std.proofs.lemmas.Bool.Decides.{Decides-int_eq}
use Rattle.std.specs.Ordering.{int_eq}
use Rattle.kmip_ttlv.specs.Node.{Node, integer, enumeration}
use Rattle.kmip_batch_items.specs.Formats.{structure_of, SaysTold}
use Rattle.kmip_batch_items.specs.Occurrences.{Once}
use Rattle.kmip_objects.specs.declared.key_attrs.KeyAttrs.{KeyAttrs}
use Rattle.kmip_objects.specs.declared.standard.TheConstants.{OBJECT_TYPE_SYMMETRIC_KEY}
use Rattle.kmip_batch_items.specs.declared.ask.Ask.{Ask}
use Rattle.kmip_batch_items.specs.declared.ask.Ask.TheVariants.{Create, Locate, GetAttributes, Activate, Revoke, Destroy}
use Rattle.kmip_batch_items.specs.declared.standard.TheConstants.{TAG_OPERATION, TAG_REQUEST_PAYLOAD, TAG_PROTOCOL_VERSION, TAG_PROTOCOL_VERSION_MAJOR, TAG_PROTOCOL_VERSION_MINOR, TAG_OBJECT_TYPE, VERSION_MAJOR, VERSION_MINOR}
use Rattle.kmip_batch_items.specs.Operations.{ask_operation, operation_of}
use Rattle.kmip_batch_items.specs.RequestFormats.{key_attrs_format, create_format, locate_format, reason_format, revoke_format, payload_format, version_parts_format, asked_format}
use Rattle.kmip_batch_items.specs.Requests.{IsVersion, IsKeyAttrs, IsCreate, IsPayload, IsAsk}
use Rattle.kmip_batch_items.proofs.Readers.{identifier_is, is_identifier_said}
use Rattle.kmip_batch_items.proofs.AttributeLaws.{name_is, is_name_said, filter_is, is_filter}
use Rattle.kmip_batch_items.proofs.RequestLaws.{number_with}

-- two numbers that were tested
same_number : (x y : ℤ) → int_eq x y ≡ true → x ≡ y
same_number x y h = (Decides-int_eq x y).0 h

-- ---- attributes

key_is : (attributes : List Node) (k : KeyAttrs) → key_attrs_format.Says attributes k → IsKeyAttrs attributes k
unfolding key_attrs_format
key_is attributes k (no_others, (called, ((((kind, kind_fits), bits), bits_fit), (mask, mask_fits)))) = record {
  no_others = no_others;
  called = name_is attributes k.name called;
  algorithm = kind;
  algorithm_in_range = kind_fits;
  bits = bits;
  bits_in_range = bits_fit;
  mask = mask;
  mask_in_range = mask_fits;
}

is_key : (attributes : List Node) (k : KeyAttrs) → IsKeyAttrs attributes k → key_attrs_format.Says attributes k
unfolding key_attrs_format
is_key attributes k p =
    (p.no_others, (is_name_said attributes k.name p.called, ((((p.algorithm, p.algorithm_in_range), p.bits), p.bits_in_range), (p.mask, p.mask_in_range))))

-- ---- payloads

create_is : (payload : List Node) (k : KeyAttrs) → create_format.Says payload k → IsCreate payload k
unfolding create_format
create_is payload k ((object, has_object, symmetric), (attributes, stands, are)) = record {
  object_type = subst (λ t. Once TAG_OBJECT_TYPE (enumeration t) payload) (eqb-true object OBJECT_TYPE_SYMMETRIC_KEY symmetric) has_object;
  attributes = attributes;
  stands = stands;
  are = key_is attributes k are;
}

is_create : (payload : List Node) (k : KeyAttrs) → IsCreate payload k → create_format.Says payload k
unfolding create_format
is_create payload k p = ((OBJECT_TYPE_SYMMETRIC_KEY, p.object_type, refl), (p.attributes, p.stands, is_key p.attributes k p.are))

-- what the payload of its own operation says
payload_is : (payload : List Node) (a : Ask) → (payload_format (ask_operation a)).Says payload a → IsPayload payload a
unfolding payload_format locate_format revoke_format reason_format
payload_is payload (Create k) (x, says, same) = subst (IsPayload payload) same (create_is payload x says)
payload_is payload (Locate storage filter) (x, (mask, (attributes, stands, are)), same) =
    subst (IsPayload payload) same (record { mask = mask; attributes = attributes; stands = stands; are = filter_is attributes x.1 are })
payload_is payload (Revoke uid code) (x, (identifier, (reason, stands, (says, in_range))), same) =
    subst (IsPayload payload) same (record { identifier = identifier_is payload x.0 identifier; reason = reason; stands = stands; says = says; in_range = in_range })
payload_is payload a says = subst (IsPayload payload) says.2 (identifier_is payload says.0 says.1)

is_payload : (payload : List Node) (a : Ask) → IsPayload payload a → (payload_format (ask_operation a)).Says payload a
unfolding payload_format locate_format revoke_format reason_format
is_payload payload (Create k) p = (k, is_create payload k p, refl)
is_payload payload (Locate storage filter) p = ((storage, filter), (p.mask, (p.attributes, p.stands, is_filter p.attributes filter p.are)), refl)
is_payload payload (GetAttributes uid) p = (uid, is_identifier_said payload uid p, refl)
is_payload payload (Activate uid) p = (uid, is_identifier_said payload uid p, refl)
is_payload payload (Revoke uid code) p = ((uid, code), (is_identifier_said payload uid p.identifier, (p.reason, p.stands, (p.says, p.in_range))), refl)
is_payload payload (Destroy uid) p = (uid, is_identifier_said payload uid p, refl)

-- ---- the version, and the Batch Item

pub version_is : (header : List Node) → (structure_of TAG_PROTOCOL_VERSION version_parts_format).Says header tt → IsVersion header
unfolding version_parts_format
version_is header (version, stands, (numbers, (has_major, has_minor), same)) =
    let each = and_parts (int_eq numbers.0 VERSION_MAJOR) (int_eq numbers.1 VERSION_MINOR) same in
    record {
      parts = version;
      stands = stands;
      major = subst (λ z. Once TAG_PROTOCOL_VERSION_MAJOR (integer z) version) (same_number numbers.0 VERSION_MAJOR each.0) has_major;
      minor = subst (λ z. Once TAG_PROTOCOL_VERSION_MINOR (integer z) version) (same_number numbers.1 VERSION_MINOR each.1) has_minor;
    }

pub is_version : (header : List Node) → IsVersion header → (structure_of TAG_PROTOCOL_VERSION version_parts_format).Says header tt
unfolding version_parts_format
is_version header p = (p.parts, p.stands, ((VERSION_MAJOR, VERSION_MINOR), (p.major, p.minor), refl))

pub ask_is : (batch : List Node) (a : Ask) → (asked_format (operation_of a)).Says batch a
    → Once TAG_OPERATION (enumeration (operation_of a)) batch → IsAsk batch a
unfolding asked_format
ask_is batch a told operation =
    let says = subst (λ known. SaysTold (λ o. structure_of TAG_REQUEST_PAYLOAD (payload_format o)) known batch a) (number_with (ask_operation a)) told in
    record { operation = operation; payload = says.0; stands = says.1; says = payload_is says.0 a says.2 }

pub is_ask : (batch : List Node) (a : Ask) → IsAsk batch a → (asked_format (operation_of a)).Says batch a
unfolding asked_format
is_ask batch a p = rw (number_with (ask_operation a)) (p.payload, p.stands, is_payload p.payload a p.says)

-- The attributes of the profile: the law of their format, and that what it says is what specs/Attributes says by hand, in both
-- directions.
use Rattle.std.proofs.Common.{◌≡◌, ℕ, List, [], ◌∷◌, ◌++◌, Option, Some, None, refl, ap}
use Rattle.kmip_ttlv.specs.Node.{Node}
use Rattle.kmip_batch_items.specs.Formats.{Format, integers, enumerations, SaysIfAny}
use Rattle.kmip_batch_items.specs.PrivateFormatLaws.{apart, IsPart}
use Rattle.kmip_batch_items.proofs.ItemReads.{integer_kind, enumeration_kind}
use Rattle.kmip_batch_items.proofs.FormatParts.{optional-part, as_record-part, both-part}
use Rattle.kmip_objects.specs.declared.attrs.Attrs.{Attrs}
use Rattle.kmip_batch_items.specs.declared.standard.TheConstants.{TAG_OBJECT_TYPE, TAG_NAME, TAG_CRYPTOGRAPHIC_ALGORITHM, TAG_CRYPTOGRAPHIC_LENGTH, TAG_CRYPTOGRAPHIC_USAGE_MASK, TAG_STATE, NAME_TYPE_UNINTERPRETED_TEXT_STRING}
use Rattle.kmip_batch_items.specs.Attributes.{IsName, IsNameIfAny, IsFilter, AreAttrs, attrs_with}
use Rattle.kmip_batch_items.specs.RequestFormats.{name_parts_format, name_format, filter_format}
use Rattle.kmip_batch_items.specs.ReplyFormats.{any_name_parts_format, attrs_format}
use Rattle.kmip_batch_items.proofs.Readers.{plain_is}

-- ---- the Name

pub name_is : (attributes : List Node) (text : List ℕ) → name_format.Says attributes text → IsName attributes text
unfolding name_parts_format
name_is attributes text (parts, stands, ((value, in_range), plain)) = record {
  parts = parts;
  stands = stands;
  value = value;
  in_range = in_range;
  plain = plain_is parts plain;
}

pub is_name_said : (attributes : List Node) (text : List ℕ) → IsName attributes text → name_format.Says attributes text
unfolding name_parts_format
is_name_said attributes text p = (p.parts, p.stands, ((p.value, p.in_range), (NAME_TYPE_UNINTERPRETED_TEXT_STRING, p.plain, refl)))

any_name_is : (attributes : List Node) (o : Option (List ℕ)) → SaysIfAny TAG_NAME any_name_parts_format.Says attributes o → IsNameIfAny attributes o
unfolding any_name_parts_format
any_name_is attributes None says = says
any_name_is attributes (Some text) (parts, stands, (value, plain)) =
    record { parts = parts; has_name = stands; has_value = value; has_type = plain_is parts plain }

is_any_name : (attributes : List Node) (o : Option (List ℕ)) → IsNameIfAny attributes o → SaysIfAny TAG_NAME any_name_parts_format.Says attributes o
unfolding any_name_parts_format
is_any_name attributes None is = is
is_any_name attributes (Some text) is = (is.parts, is.has_name, (is.has_value, (NAME_TYPE_UNINTERPRETED_TEXT_STRING, is.has_type, refl)))

-- ---- each attribute

abbrev others : List ℕ
others = TAG_CRYPTOGRAPHIC_ALGORITHM ∷ TAG_CRYPTOGRAPHIC_LENGTH ∷ TAG_CRYPTOGRAPHIC_USAGE_MASK ∷ TAG_STATE ∷ []

pub attrs_with-part : (name : Format (Option (List ℕ))) → name.tags ≡ TAG_NAME ∷ [] → IsPart name → IsPart (attrs_with name)
attrs_with-part name own part = as_record-part _ _ _ (λ p. refl) (λ a. refl)
    (both-part _ _ (ap (λ tags. apart (TAG_OBJECT_TYPE ∷ []) (tags ++ others)) own) (optional-part enumerations _ enumeration_kind)
    (both-part _ _ (ap (λ tags. apart tags others) own) part
    (both-part _ _ refl (optional-part enumerations _ enumeration_kind)
    (both-part _ _ refl (optional-part integers _ integer_kind)
    (both-part _ _ refl (optional-part integers _ integer_kind) (optional-part enumerations _ enumeration_kind))))))

pub filter_is : (attributes : List Node) (a : Attrs) → filter_format.Says attributes a → IsFilter attributes a
unfolding filter_format
filter_is attributes a (no_others, (object, ((text, called, same), (kind, (bits, (mask, stage)))))) = record {
  no_others = no_others;
  object_type = object;
  text = text;
  has_name = same;
  called = name_is attributes text called;
  algorithm = kind;
  bits = bits;
  mask = mask;
  stage = stage;
}

pub is_filter : (attributes : List Node) (a : Attrs) → IsFilter attributes a → filter_format.Says attributes a
unfolding filter_format
is_filter attributes a p =
    (p.no_others, (p.object_type, ((p.text, is_name_said attributes p.text p.called, p.has_name), (p.algorithm, (p.bits, (p.mask, p.stage))))))

pub attrs_are : (attributes : List Node) (a : Attrs) → attrs_format.Says attributes a → AreAttrs attributes a
unfolding attrs_format
attrs_are attributes a (object, (called, (kind, (bits, (mask, stage))))) = record {
  object_type = object;
  name = any_name_is attributes a.name called;
  algorithm = kind;
  length = bits;
  usage = mask;
  state = stage;
}

pub are_attrs : (attributes : List Node) (a : Attrs) → AreAttrs attributes a → attrs_format.Says attributes a
unfolding attrs_format
are_attrs attributes a p = (p.object_type, (is_any_name attributes a.name p.name, (p.algorithm, (p.length, (p.usage, p.state)))))

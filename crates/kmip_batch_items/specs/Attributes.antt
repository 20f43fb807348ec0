-- The attributes of the profile in a message: what it is for them to stand there, and how they are written
-- and read.
-- Source: KMIP 2.1, Message Structure, Object Attributes, and Operations, Locate and Get Attributes. Own
-- (choice): the range of a name in a request, and that other items in Attributes of a request are refused.
-- Own (order): the order in which attributes are written and read.
use Rattle.std.specs.Prelude.{◌≡◌, ℕ, List, Option, Some, None, IsTrue}
use Rattle.std.specs.Option.{option_map}
use Rattle.kmip_ttlv.specs.Node.{Node, integer, enumeration, text_string}
use Rattle.kmip_batch_items.specs.Formats.{Format, inside, integers, enumerations, optional, as_record, ◌⊗◌}
use Rattle.kmip_batch_items.specs.Occurrences.{Once, AtMostOnce, HaveTags}
use Rattle.kmip_objects.specs.Ranges.{is_name}
use Rattle.kmip_objects.specs.declared.attrs.Attrs.{Attrs}
use Rattle.kmip_batch_items.specs.declared.standard.TheConstants.{
  FILTER_TAGS,
  TAG_OBJECT_TYPE,
  TAG_NAME,
  TAG_NAME_VALUE,
  TAG_NAME_TYPE,
  TAG_CRYPTOGRAPHIC_ALGORITHM,
  TAG_CRYPTOGRAPHIC_LENGTH,
  TAG_CRYPTOGRAPHIC_USAGE_MASK,
  TAG_STATE,
  NAME_TYPE_UNINTERPRETED_TEXT_STRING,
}

-- ---- the Name

-- The attributes of a request have one Name, which is an uninterpreted text in its range.
pub record IsName (attributes : List Node) (text : List ℕ) : Type 0 where
  pub parts : List Node
  pub stands : Once TAG_NAME (inside parts) attributes
  pub value : Once TAG_NAME_VALUE (text_string text) parts
  pub in_range : IsTrue (is_name text)
  pub plain : Once TAG_NAME_TYPE (enumeration NAME_TYPE_UNINTERPRETED_TEXT_STRING) parts

-- The attributes of a reply have one Name, which is an uninterpreted text of any value.
pub record IsAnyName (attributes : List Node) (name : List ℕ) : Type 0 where
  pub parts : List Node
  pub has_name : Once TAG_NAME (inside parts) attributes
  pub has_value : Once TAG_NAME_VALUE (text_string name) parts
  pub has_type : Once TAG_NAME_TYPE (enumeration NAME_TYPE_UNINTERPRETED_TEXT_STRING) parts

-- The attributes of a reply have no Name, or one of any value.
abbrev pub IsNameIfAny : List Node → Option (List ℕ) → Type 0
IsNameIfAny attributes None = AtMostOnce TAG_NAME None attributes
IsNameIfAny attributes (Some name) = IsAnyName attributes name

-- ---- each attribute

-- The attributes of a Locate say what to look for. The Name has to be there, each other may be there once,
-- and no attribute outside the profile is.
pub record IsFilter (attributes : List Node) (filter : Attrs) : Type 0 where
  pub no_others : HaveTags FILTER_TAGS attributes
  pub object_type : AtMostOnce TAG_OBJECT_TYPE (option_map enumeration filter.object_type) attributes
  pub text : List ℕ
  pub has_name : Some text ≡ filter.name
  pub called : IsName attributes text
  pub algorithm : AtMostOnce TAG_CRYPTOGRAPHIC_ALGORITHM (option_map enumeration filter.algorithm) attributes
  pub bits : AtMostOnce TAG_CRYPTOGRAPHIC_LENGTH (option_map integer filter.length) attributes
  pub mask : AtMostOnce TAG_CRYPTOGRAPHIC_USAGE_MASK (option_map integer filter.usage) attributes
  pub stage : AtMostOnce TAG_STATE (option_map enumeration filter.state) attributes

-- The attributes of a reply, each there at most once and of any value; others are skipped.
pub record AreAttrs (attributes : List Node) (attrs : Attrs) : Type 0 where
  pub object_type : AtMostOnce TAG_OBJECT_TYPE (option_map enumeration attrs.object_type) attributes
  pub name : IsNameIfAny attributes attrs.name
  pub algorithm : AtMostOnce TAG_CRYPTOGRAPHIC_ALGORITHM (option_map enumeration attrs.algorithm) attributes
  pub length : AtMostOnce TAG_CRYPTOGRAPHIC_LENGTH (option_map integer attrs.length) attributes
  pub usage : AtMostOnce TAG_CRYPTOGRAPHIC_USAGE_MASK (option_map integer attrs.usage) attributes
  pub state : AtMostOnce TAG_STATE (option_map enumeration attrs.state) attributes

-- The attributes of an object, each of which may be there once. The Name among them has this format.
abbrev pub attrs_with : Format (Option (List ℕ)) → Format Attrs
attrs_with name = as_record
    (λ (object, (called, (kind, (bits, (mask, stage))))). record { object_type = object; name = called; algorithm = kind; length = bits; usage = mask; state = stage })
    (λ a. (a.object_type, (a.name, (a.algorithm, (a.length, (a.usage, a.state))))))
    (optional enumerations TAG_OBJECT_TYPE
    ⊗ name
    ⊗ optional enumerations TAG_CRYPTOGRAPHIC_ALGORITHM
    ⊗ optional integers TAG_CRYPTOGRAPHIC_LENGTH
    ⊗ optional integers TAG_CRYPTOGRAPHIC_USAGE_MASK
    ⊗ optional enumerations TAG_STATE)

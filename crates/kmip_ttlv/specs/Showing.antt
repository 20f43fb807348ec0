-- The text that an item is shown as: a line for each item, and below a Structure's line those of its
-- items, two spaces further to the right.
-- Source: KMIP 2.1, TTLV Encoding, Type: the names of the types. Own (text): all else, as a person reads it.
use Rattle.std.specs.Prelude.{ℕ, ◌==◌, ◌&&◌, not, nat_le, nat_lt, Bool, true, false, if◌then◌else◌, List, [], ◌∷◌, ◌++◌, codes}
use Rattle.std.specs.List.{flat_map}
use Rattle.std.specs.Fmt.{decimal, signed_decimal}
use Rattle.byteorder.specs.Endian.{big_bytes}
use Rattle.hex.specs.Hex.{encode_upper}
use Rattle.kmip_ttlv.specs.declared.item_type.ItemType.{ItemType}
use Rattle.kmip_ttlv.specs.declared.item_type.ItemType.TheVariants.{
  Structure,
  Integer,
  LongInteger,
  BigInteger,
  Enumeration,
  Boolean,
  TextString,
  ByteString,
  DateTime,
  Interval,
  DateTimeExtended,
}
use Rattle.kmip_ttlv.specs.Node.{
  Node,
  node,
  Content,
  structure,
  integer,
  long_integer,
  big_integer,
  enumeration,
  boolean,
  text_string,
  byte_string,
  date_time,
  interval,
  date_time_extended,
  Nodes,
  no_more,
  more,
}
use Rattle.kmip_ttlv.specs.Spelling.{type_of}

-- the name of a type, as it is shown
abbrev pub type_name : ItemType → List ℕ
type_name Structure = codes "Structure"
type_name Integer = codes "Integer"
type_name LongInteger = codes "LongInteger"
type_name BigInteger = codes "BigInteger"
type_name Enumeration = codes "Enumeration"
type_name Boolean = codes "Boolean"
type_name TextString = codes "TextString"
type_name ByteString = codes "ByteString"
type_name DateTime = codes "DateTime"
type_name Interval = codes "Interval"
type_name DateTimeExtended = codes "DateTimeExtended"

-- Whether a byte of a text stands for itself: from 20 to 7E hexadecimal, but for the quotation mark and the
-- backslash.
abbrev pub is_plain : ℕ → Bool
is_plain b = nat_le 32 b && nat_lt b 127 && not (b == 34) && not (b == 92)

-- A byte of a text: itself where it is plain, else a backslash and its two digits in hexadecimal.
unfoldable pub shown_byte : ℕ → List ℕ
shown_byte b = if is_plain b then b ∷ [] else 92 ∷ encode_upper (b ∷ [])

-- a text in plain characters, byte by byte as `shown_byte` shows it
abbrev pub plain_text : List ℕ → List ℕ
plain_text text = flat_map shown_byte text

-- a text in plain characters between quotation marks
abbrev pub quoted : List ℕ → List ℕ
quoted text = 34 ∷ plain_text text ++ 34 ∷ []

-- the word for a Boolean
abbrev pub shown_truth : Bool → List ℕ
shown_truth true = codes "true"
shown_truth false = codes "false"

-- bytes in hexadecimal, and a dash for none
abbrev pub shown_bytes : List ℕ → List ℕ
shown_bytes [] = codes "-"
shown_bytes (b ∷ bs) = encode_upper (b ∷ bs)

-- what stands after the type's name: nothing for a Structure, else a space and the value
abbrev pub shown_value : Content → List ℕ
shown_value (structure items) = []
shown_value (integer z) = 32 ∷ signed_decimal z
shown_value (long_integer z) = 32 ∷ signed_decimal z
shown_value (big_integer octets) = 32 ∷ shown_bytes octets
shown_value (enumeration n) = 32 ∷ encode_upper (big_bytes 4 n)
shown_value (boolean b) = 32 ∷ shown_truth b
shown_value (text_string text) = 32 ∷ quoted text
shown_value (byte_string octets) = 32 ∷ shown_bytes octets
shown_value (date_time z) = 32 ∷ signed_decimal z
shown_value (interval n) = 32 ∷ decimal n
shown_value (date_time_extended z) = 32 ∷ signed_decimal z

-- An item's own line: the indentation, the tag in hexadecimal, a space, the type's name, the value and a line
-- feed.
unfoldable pub line : List ℕ → ℕ → Content → List ℕ
line indent tag content =
    indent ++ encode_upper (big_bytes 3 tag) ++ 32 ∷ type_name (type_of content) ++ shown_value content ++ 10 ∷ []

-- The lines of an item after this indentation: its own line, and then those of its children, each of which
-- begins with two spaces more.
abbrev mutual
  pub shown_lines : List ℕ → Node → List ℕ
  shown_lines indent (node tag content) = line indent tag content ++ shown_children (indent ++ codes "  ") content

  -- the lines of the children of a content, each after this indentation
  pub shown_children : List ℕ → Content → List ℕ
  shown_children indent (structure items) = shown_all indent items
  shown_children indent leaf = []

  -- the lines of some items, each after this indentation
  pub shown_all : List ℕ → Nodes → List ℕ
  shown_all indent no_more = []
  shown_all indent (more n ns) = shown_lines indent n ++ shown_all indent ns

-- the text that an item is shown as: its lines without indentation
abbrev pub shown_text : Node → List ℕ
shown_text n = shown_lines [] n

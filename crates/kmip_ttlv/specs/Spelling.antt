-- How an item is spelled in bytes: a tag, a type, a length, a value and padding.
-- Source: KMIP 2.1, TTLV Encoding. Own (limit): 16 levels and 8,192 bytes. Own (choice): a reader takes any
-- padding bytes, as the standard asks only writers for zeros.
use Rattle.kmip_ttlv.specs.Limits.{most_bytes, most_levels}
use Rattle.std.specs.Prelude.{◌≡◌, ℕ, ◌-◌, ◌%◌, ◌^◌, ◌<◌, ◌≤◌, List, [], ◌∷◌, ◌++◌, length, replicate}
use Rattle.std.specs.Int.{w32, w64, cast_unsigned, from_bool}
use Rattle.byteorder.specs.Endian.{big_bytes}
use Rattle.kmip_ttlv.specs.declared.item_type.ItemType.{ItemType}
use Rattle.kmip_ttlv.specs.declared.item_type.ItemType.TheVariants.{
  Structure,
  Integer,
  LongInteger,
  BigInteger,
  Enumeration,
  Boolean,
  TextString,
  ByteString,
  DateTime,
  Interval,
  DateTimeExtended,
}
use Rattle.kmip_ttlv.specs.Node.{
  Node,
  node,
  Content,
  structure,
  integer,
  long_integer,
  big_integer,
  enumeration,
  boolean,
  text_string,
  byte_string,
  date_time,
  interval,
  date_time_extended,
  Nodes,
  no_more,
  more,
}
use Rattle.kmip_ttlv.specs.Types.{byte_of_type}
use Rattle.kmip_ttlv.specs.Fitting.{IsContentInRange, depth}

-- how many bytes of padding follow a value of this length: the fewest that make it a multiple of eight
abbrev pub padding : ℕ → ℕ
padding len = (8 - len % 8) % 8

-- the head of an item: the tag in three bytes, the type in one, and the length of the value in four
unfoldable pub head : ℕ → ItemType → ℕ → List ℕ
head tag type len = big_bytes 3 tag ++ byte_of_type type ∷ big_bytes 4 len

-- the bytes of an item: its head, its value and its padding
abbrev pub item_bytes : ℕ → ItemType → List ℕ → List ℕ → List ℕ
item_bytes tag type value pad = head tag type (length value) ++ value ++ pad

-- this many bytes, all of them zero
abbrev pub zeros : ℕ → List ℕ
zeros n = replicate n 0

-- the type of a content
abbrev pub type_of : Content → ItemType
type_of (structure items) = Structure
type_of (integer z) = Integer
type_of (long_integer z) = LongInteger
type_of (big_integer octets) = BigInteger
type_of (enumeration n) = Enumeration
type_of (boolean b) = Boolean
type_of (text_string text) = TextString
type_of (byte_string octets) = ByteString
type_of (date_time z) = DateTime
type_of (interval n) = Interval
type_of (date_time_extended z) = DateTimeExtended

-- The one spelling that is written, the written form of an item: its padding is zero.
abbrev mutual
  pub canon : Node → List ℕ
  canon (node tag content) = item_bytes tag (type_of content) (value_bytes content) (zeros (padding (length (value_bytes content))))

  -- the value of a content, without padding: numbers with their highest byte first
  pub value_bytes : Content → List ℕ
  value_bytes (structure items) = canons items
  value_bytes (integer z) = big_bytes 4 (cast_unsigned w32 z)
  value_bytes (long_integer z) = big_bytes 8 (cast_unsigned w64 z)
  value_bytes (big_integer octets) = octets
  value_bytes (enumeration n) = big_bytes 4 n
  value_bytes (boolean b) = big_bytes 8 (from_bool b)
  value_bytes (text_string text) = text
  value_bytes (byte_string octets) = octets
  value_bytes (date_time z) = big_bytes 8 (cast_unsigned w64 z)
  value_bytes (interval n) = big_bytes 4 n
  value_bytes (date_time_extended z) = big_bytes 8 (cast_unsigned w64 z)

  -- the written forms of some items, one after the other
  pub canons : Nodes → List ℕ
  canons no_more = []
  canons (more n ns) = canon n ++ canons ns

-- The bytes spell the item as `canon` has it, but that the padding may be any bytes. Its tag has three bytes,
-- and its values are in their ranges.
abbrev mutual
  pub Spelled : Node → List ℕ → Type 0
  Spelled (node tag content) bytes =
      (tag < 2 ^ 24) × (value : List ℕ) × (pad : List ℕ) × SpelledValue content value
      × (length pad ≡ padding (length value)) × (bytes ≡ item_bytes tag (type_of content) value pad)

  -- The bytes are a value of this content, which is in its range.
  pub SpelledValue : Content → List ℕ → Type 0
  SpelledValue (structure items) value = SpelledAll items value
  SpelledValue leaf value = IsContentInRange leaf × (value ≡ value_bytes leaf)

  -- The bytes spell these items, one after the other.
  pub SpelledAll : Nodes → List ℕ → Type 0
  SpelledAll no_more bytes = bytes ≡ []
  SpelledAll (more n ns) bytes =
      (first : List ℕ) × (others : List ℕ) × Spelled n first × SpelledAll ns others × (bytes ≡ first ++ others)

-- Every spelling that is read: the bytes spell the item, and they are at most 8,192. The item has at most 16
-- levels.
abbrev pub Spells : Node → List ℕ → Type 0
Spells n bytes = Spelled n bytes × (depth n ≤ most_levels) × (length bytes ≤ most_bytes)

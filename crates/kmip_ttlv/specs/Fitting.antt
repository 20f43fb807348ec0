-- The ranges of bytes and values, and how deep an item is.
-- Source: KMIP 2.1, TTLV Encoding, Type and Value. Own (choice): the standard asks that the length of a Big
-- Integer is a multiple of eight, and here it is not zero.
use Rattle.std.specs.Prelude.{◌≡◌, ℕ, ◌+◌, ◌%◌, ◌^◌, ◌<◌, max, List, length, get_or, FitsSigned, IsUtf8}
use Rattle.std.specs.Int.{w32, w64}
use Rattle.kmip_ttlv.specs.Node.{
  Node,
  node,
  Content,
  structure,
  integer,
  long_integer,
  big_integer,
  enumeration,
  boolean,
  text_string,
  byte_string,
  date_time,
  interval,
  date_time_extended,
  Nodes,
  no_more,
  more,
}

-- Each of the numbers is a byte.
abbrev pub IsBytes : List ℕ → Type 0
IsBytes bytes = (i : ℕ) → get_or bytes i 0 < 256

-- The item is in range: a tag has three bytes, and each value is in the range of its type. A Big Integer is
-- made of groups of eight bytes, of which there is at least one. The items of a Structure are in range too.
abbrev mutual
  pub IsInRange : Node → Type 0
  IsInRange (node tag content) = (tag < 2 ^ 24) × IsContentInRange content

  -- The content is in the range of its type.
  pub IsContentInRange : Content → Type 0
  IsContentInRange (structure items) = AreInRange items
  IsContentInRange (integer z) = FitsSigned w32 z
  IsContentInRange (long_integer z) = FitsSigned w64 z
  IsContentInRange (big_integer octets) = (0 < length octets) × (length octets % 8 ≡ 0)
  IsContentInRange (enumeration n) = n < 2 ^ 32
  IsContentInRange (boolean b) = Unit {0}
  IsContentInRange (text_string text) = IsUtf8 text
  IsContentInRange (byte_string octets) = Unit {0}
  IsContentInRange (date_time z) = FitsSigned w64 z
  IsContentInRange (interval n) = n < 2 ^ 32
  IsContentInRange (date_time_extended z) = FitsSigned w64 z

  -- Each of the items is in range.
  pub AreInRange : Nodes → Type 0
  AreInRange no_more = Unit {0}
  AreInRange (more n ns) = IsInRange n × AreInRange ns

-- Each Big Integer in the item is made of groups of eight bytes, of which there is at least one. The types of
-- the code say all else of `IsInRange`, and do not say this.
abbrev mutual
  pub HasWholeGroups : Node → Type 0
  HasWholeGroups (node tag content) = IsMadeOfWholeGroups content

  -- If the content is a Big Integer, it is made of whole groups, and so is each in it.
  pub IsMadeOfWholeGroups : Content → Type 0
  IsMadeOfWholeGroups (structure items) = HaveWholeGroups items
  IsMadeOfWholeGroups (big_integer octets) = (0 < length octets) × (length octets % 8 ≡ 0)
  IsMadeOfWholeGroups leaf = Unit {0}

  -- Each Big Integer in these items is made of whole groups.
  pub HaveWholeGroups : Nodes → Type 0
  HaveWholeGroups no_more = Unit {0}
  HaveWholeGroups (more n ns) = HasWholeGroups n × HaveWholeGroups ns

-- how many levels an item has: one without children, else one more than the deepest child has
abbrev mutual
  pub depth : Node → ℕ
  depth (node tag content) = 1 + content_depth content

  -- how many levels are below the item with this content
  pub content_depth : Content → ℕ
  content_depth (structure items) = depths items
  content_depth leaf = 0

  -- as many levels as the deepest of the items has, none where there are no items
  pub depths : Nodes → ℕ
  depths no_more = 0
  depths (more n ns) = max (depth n) (depths ns)

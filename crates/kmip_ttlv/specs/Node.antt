-- An item as a pure value: its tag, and what it contains.
-- Source: KMIP 2.1, TTLV Encoding. Own (view): the functions that take an item apart, by which a contract
-- sees it.
use Rattle.std.specs.Prelude.{ℕ, ℤ, Bool, List, [], ◌∷◌, Option, Some, None}

-- An item is a tag with a content, and a content is that of one of the types.
mutual
  -- a tag with a content
  pub data Node : Type 0 where
    node : ℕ → Content → Node

  -- one case for each type, in the order of the types 01 to 0B
  pub data Content : Type 0 where
    structure : Nodes → Content
    integer : ℤ → Content
    long_integer : ℤ → Content
    big_integer : List ℕ → Content
    enumeration : ℕ → Content
    boolean : Bool → Content
    text_string : List ℕ → Content
    byte_string : List ℕ → Content
    date_time : ℤ → Content
    interval : ℕ → Content
    date_time_extended : ℤ → Content

  -- the items of a Structure
  pub data Nodes : Type 0 where
    no_more : Nodes
    more : Node → Nodes → Nodes

-- the tag of an item
abbrev pub tag_of : Node → ℕ
tag_of (node tag content) = tag

-- what an item contains
abbrev pub content_of : Node → Content
content_of (node tag content) = content

-- a list of items as the items of a Structure
abbrev pub nodes_of : List Node → Nodes
nodes_of [] = no_more
nodes_of (n ∷ ns) = more n (nodes_of ns)

-- the items of a Structure as a list
abbrev pub list_of : Nodes → List Node
list_of no_more = []
list_of (more n ns) = n ∷ list_of ns

-- the items of a Structure, none for another type
abbrev pub as_structure : Content → Option (List Node)
as_structure (structure ns) = Some (list_of ns)
as_structure _ = None

-- the number of an Integer, none for another type
abbrev pub as_integer : Content → Option ℤ
as_integer (integer z) = Some z
as_integer _ = None

-- the number of an Enumeration, none for another type
abbrev pub as_enumeration : Content → Option ℕ
as_enumeration (enumeration n) = Some n
as_enumeration _ = None

-- the bytes of a Text String, none for another type
abbrev pub as_text_string : Content → Option (List ℕ)
as_text_string (text_string codes) = Some codes
as_text_string _ = None

-- the bytes of a Byte String, none for another type
abbrev pub as_byte_string : Content → Option (List ℕ)
as_byte_string (byte_string codes) = Some codes
as_byte_string _ = None

-- the seconds of a Date-Time, none for another type
abbrev pub as_date_time : Content → Option ℤ
as_date_time (date_time z) = Some z
as_date_time _ = None

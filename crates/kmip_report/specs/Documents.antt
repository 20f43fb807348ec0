-- The document of some members.
-- Source: RFC 8259, sections 2 to 4; the order of the members and the line feed are own (text).
use Rattle.std.specs.Prelude.{ℕ, List, [], ◌∷◌, ◌++◌, codes, Option, Some, None}
use Rattle.serde_json.specs.Data.{Data, null, number, unsigned, string, array, object, Items, no_items, item, Members, no_members, member}
use Rattle.serde_json.specs.Written.{compact_text}

-- A document: an object with no space, and a line feed, so that each is a line.
unfoldable pub document : Members → List ℕ
document ms = compact_text (object ms) ++ codes "\n"

-- Names with their values as the members of an object, in this order.
abbrev pub members : List (List ℕ × Data) → Members
members [] = no_members
members (pair ∷ pairs) = member pair.0 pair.1 (members pairs)

-- A number from 0.
abbrev pub count : ℕ → Data
count n = number (unsigned n)

-- A number from 0, or null where there is none.
abbrev pub count_or_null : Option ℕ → Data
count_or_null None = null
count_or_null (Some n) = count n

-- A text, or null where there is none.
abbrev pub text_or_null : Option (List ℕ) → Data
text_or_null None = null
text_or_null (Some text) = string text

-- Texts as the items of an array.
abbrev pub strings : List (List ℕ) → Items
strings [] = no_items
strings (word ∷ words) = item (string word) (strings words)

-- An array of texts.
abbrev pub words_of : List (List ℕ) → Data
words_of words = array (strings words)

-- Numbers from 0 as the items of an array.
abbrev pub counts : List ℕ → Items
counts [] = no_items
counts (n ∷ ns) = item (count n) (counts ns)

-- An array of numbers from 0.
abbrev pub numbers_of : List ℕ → Data
numbers_of ns = array (counts ns)

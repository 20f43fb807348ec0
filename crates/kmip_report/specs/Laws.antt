-- What holds of the text of every value.
-- Source: RFC 8259, sections 2 to 7.
use Rattle.std.specs.Prelude.{⊤, ℕ, ◌≡◌, ◌≢◌, ◌≤◌, ◌<◌, ◌^◌, List, All, Some}
use Rattle.serde_json.specs.Data.{Num, unsigned, negative, float, Data, null, boolean, number, string, array, object, Items, no_items, item, Members, no_members, member, put, depth}
use Rattle.serde_json.specs.Read.{max_depth, read}
use Rattle.serde_json.specs.Written.{compact_text}

-- The number is a count of 64 bits: no fraction, and not below 0.
abbrev pub IsCount : Num → Type 0
IsCount (unsigned n) = n < 2 ^ 64
IsCount (negative z) = ⊥
IsCount (float x) = ⊥

-- Each number in the value, in its items and in its members is a count of 64 bits.
abbrev mutual
  pub HasCounts : Data → Type 0
  HasCounts null = ⊤
  HasCounts (boolean b) = ⊤
  HasCounts (number n) = IsCount n
  HasCounts (string s) = ⊤
  HasCounts (array ds) = ItemsHaveCounts ds
  HasCounts (object ms) = MembersHaveCounts ms

  pub ItemsHaveCounts : Items → Type 0
  ItemsHaveCounts no_items = ⊤
  ItemsHaveCounts (item d ds) = HasCounts d × ItemsHaveCounts ds

  pub MembersHaveCounts : Members → Type 0
  MembersHaveCounts no_members = ⊤
  MembersHaveCounts (member k d ms) = HasCounts d × MembersHaveCounts ms

-- The value as a reader keeps it: the members of each object are put in one after the other, at their names.
abbrev mutual
  pub kept : Data → Data
  kept null = null
  kept (boolean b) = boolean b
  kept (number n) = number n
  kept (string s) = string s
  kept (array ds) = array (kept_items ds)
  kept (object ms) = object (put_all ms no_members)

  pub kept_items : Items → Items
  kept_items no_items = no_items
  kept_items (item d ds) = item (kept d) (kept_items ds)

  pub put_all : Members → Members → Members
  put_all no_members found = found
  put_all (member k d ms) found = put_all ms (put k (kept d) found)

-- The text of a value reads as that value, as a reader keeps it.
abbrev pub DocumentsReadBack : Type 0
DocumentsReadBack =
    (d : Data) → HasCounts d → depth d ≤ max_depth → read (compact_text d) ≡ Some (kept d)

-- No byte of the text is a line feed.
abbrev pub IsOneLine : List ℕ → Type 0
IsOneLine text = All (λ byte. byte ≢ 0x0A) text

-- The text of a value is one line.
abbrev pub DocumentsAreLines : Type 0
DocumentsAreLines = (d : Data) → HasCounts d → IsOneLine (compact_text d)

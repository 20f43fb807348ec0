-- What is in a table of TOML, as its reader has it: the members of a table ascend by their keys.
-- Source: TOML 1.1, as the crate `toml` parses it; the names of the fields are own (text).
use Rattle.std.specs.Prelude.{ℕ, suc, ◌+◌, ℤ, Bool, true, false, ◌&&◌, ◌||◌, cond, List, codes, Option, Some, None, option_and_then}
use Rattle.std.specs.Option.{option_map_or}
use Rattle.toml.specs.Data.{Data, table, Items, no_items, item, Members, no_members, member, get_member, as_str, as_integer, as_array}
use Rattle.kmip_plan.specs.TargetWords.{is_text}

-- The text at a key of a table; a value of another type is none.
abbrev pub text_at : List ℕ → Members → Option (List ℕ)
text_at key ms = option_and_then as_str (get_member key ms)

-- The integer at a key of a table; a value of another type is none.
abbrev pub integer_at : List ℕ → Members → Option ℤ
integer_at key ms = option_and_then as_integer (get_member key ms)

-- The array at a key of a table; a value of another type is none.
abbrev pub array_at : List ℕ → Members → Option Items
array_at key ms = option_and_then as_array (get_member key ms)

-- The members of an element of an array; an element that is no table is read as an empty table.
abbrev pub fields_of : Data → Members
fields_of (table ms) = ms
fields_of d = no_members

-- The word is the one key of the outermost table, which has the array of keys.
abbrev pub is_top_field : List ℕ → Bool
is_top_field word = is_text word (codes "key")

-- The word is a field that the table of a key may have.
abbrev pub is_key_field : List ℕ → Bool
is_key_field word =
    is_text word (codes "name")
    || is_text word (codes "algorithm")
    || is_text word (codes "length")
    || is_text word (codes "usage")
    || is_text word (codes "target")
    || is_text word (codes "reason")

-- Each key of a table passes the test.
abbrev pub has_only : (List ℕ → Bool) → Members → Bool
has_only known no_members = true
has_only known (member word d ms) = known word && has_only known ms

-- The first key of a table that does not pass the test.
abbrev pub first_other : (List ℕ → Bool) → Members → Option (List ℕ)
first_other known no_members = None
first_other known (member word d ms) = cond (known word) (first_other known ms) (Some word)

-- How many items there are.
abbrev pub count : Items → ℕ
count no_items = 0
count (item d ds) = suc (count ds)

-- The value is this word.
abbrev pub is_word : List ℕ → Data → Bool
is_word word d = option_map_or (λ text. is_text text word) (as_str d) false

-- How often the word is among the items.
abbrev pub times : List ℕ → Items → ℕ
times word no_items = 0
times word (item d ds) = cond (is_word word d) (1 + times word ds) (times word ds)

-- Each item is a word that passes the test.
abbrev pub all_words : (List ℕ → Bool) → Items → Bool
all_words test no_items = true
all_words test (item d ds) = option_map_or test (as_str d) false && all_words test ds

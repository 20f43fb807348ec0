-- The text next to a progress file that says against which server it was saved, and for the attributes of which keys.
-- Source: own (text): docs/OPERATING.md has the file.
use Rattle.std.specs.Prelude.{◌≡◌, ◌≢◌, ◌≤◌, ◌<◌, ℕ, List, [], ◌∷◌, ◌++◌, codes, length, take, Option, Some, None, get_or}
use Rattle.std.specs.Fmt.{signed_decimal}
use Rattle.std.specs.Int.{cast_unsigned, w32}
use Rattle.std.specs.Option.{unwrap_or}
use Rattle.kmip_plan.specs.Words.{algorithm_word}
use Rattle.kmip_plan.specs.declared.key.Key.{Key}
use Rattle.kmip_report.specs.Pieces.{mask_digits}

-- The text before the time: the name of the format, and the server.
abbrev pub origin_head : List ℕ → List ℕ
origin_head server = codes "kmipctl origin 1\nserver " ++ server ++ codes "\nkept "

-- The word of a plan for an algorithm; nothing for one outside the profile.
abbrev pub algorithm_text : ℕ → List ℕ
algorithm_text algorithm = unwrap_or (algorithm_word algorithm) []

-- The name of a key, and the attributes that its object has.
abbrev pub key_words : Key → List ℕ
key_words key =
    key.attrs.name ++ codes " " ++ algorithm_text key.attrs.algorithm ++ codes " " ++ signed_decimal key.attrs.length
    ++ codes " " ++ mask_digits (cast_unsigned w32 key.attrs.usage)

-- The line of a key.
abbrev pub key_line : Key → List ℕ
key_line key = codes "key " ++ key_words key ++ codes "\n"

-- The lines of keys, in their order.
abbrev pub key_lines : List Key → List ℕ
key_lines [] = []
key_lines (key ∷ keys) = key_line key ++ key_lines keys

-- The text of a progress that was saved against this server, at this time, for these keys.
abbrev pub origin_text : List ℕ → List ℕ → List Key → List ℕ
origin_text server kept keys = origin_head server ++ kept ++ 10 ∷ key_lines keys

-- No byte is a line feed.
abbrev pub HasNoLineFeed : List ℕ → Type 0
HasNoLineFeed bytes = (place : ℕ) → place < length bytes → get_or bytes place 0 ≢ 10

-- The text is that of a progress that was saved against this server, at some time, for the first of these keys, as many
-- as this.
abbrev pub IsSavedFor : List ℕ → List Key → ℕ → List ℕ → Type 0
IsSavedFor server keys count text =
    (kept : List ℕ) × HasNoLineFeed kept × (count ≤ length keys) × (text ≡ origin_text server kept (take count keys))

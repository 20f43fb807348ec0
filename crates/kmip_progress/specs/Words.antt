-- The words of a progress text, and what they stand for.
-- Source: own (text); the reasons are Revocation Reason Codes of KMIP 2.1.
use Rattle.std.specs.Prelude.{ℕ, ◌==◌, nat_le, Bool, not, ◌&&◌, ◌||◌, List, [], ◌∷◌, length, codes, decimal, Option, Some, None, option_map, option_and_then, slice_index, if◌then◌else◌}
use Rattle.std.specs.List.{list_all}
use Rattle.std.specs.Result.{result_ok}
use Rattle.std.specs.Str.{is_utf8}
use Rattle.hex.specs.Hex.{encode_lower, decode_of}
use Rattle.kmip_objects.specs.Ranges.{is_identifier}
use Rattle.kmip_plan.specs.Chains.{is_revoked}
use Rattle.kmip_plan.specs.Fields.{if_so}
use Rattle.kmip_plan.specs.TargetWords.{is_text}
use Rattle.kmip_plan.specs.declared.target.Target.{Target}

-- The word of a value that may be missing: a hyphen stands for none.
abbrev pub word_or_hyphen : Option (List ℕ) → List ℕ
word_or_hyphen None = codes "-"
word_or_hyphen (Some word) = word

-- A reason in decimal, a hyphen for none.
abbrev pub reason_word : Option ℕ → List ℕ
reason_word reason = word_or_hyphen (option_map decimal reason)

-- An identifier in lower-case hexadecimal, a hyphen for none.
abbrev pub identifier_word : Option (List ℕ) → List ℕ
identifier_word identifier = word_or_hyphen (option_map encode_lower identifier)

-- How many steps are done: one digit, 0 to 4.
abbrev pub done_of_word : List ℕ → Option ℕ
done_of_word word =
    if is_text word (codes "0") then Some 0
    else if is_text word (codes "1") then Some 1
    else if is_text word (codes "2") then Some 2
    else if is_text word (codes "3") then Some 3
    else if is_text word (codes "4") then Some 4
    else None

-- The reason of a Revoke that is no compromise: one digit, 1, 4, 5, 6 or 7.
abbrev pub reason_of_word : List ℕ → Option ℕ
reason_of_word word =
    if is_text word (codes "1") then Some 1
    else if is_text word (codes "4") then Some 4
    else if is_text word (codes "5") then Some 5
    else if is_text word (codes "6") then Some 6
    else if is_text word (codes "7") then Some 7
    else None

-- A reason where a Revoke leads to the target, else a hyphen.
abbrev pub reason_in : Target → List ℕ → Option (Option ℕ)
reason_in target word =
    if is_revoked target then option_map Some (reason_of_word word)
    else if is_text word (codes "-") then Some None
    else None

-- The bytes are an identifier and UTF-8, and the word is their lower-case hexadecimal.
abbrev pub is_spelt : List ℕ → List ℕ → Bool
is_spelt word bytes = is_text (encode_lower bytes) word && is_identifier bytes && is_utf8 bytes

-- The identifier whose lower-case hexadecimal the word is.
abbrev pub identifier_of_word : List ℕ → Option (List ℕ)
identifier_of_word word = option_and_then (if_so (is_spelt word)) (result_ok (decode_of word))

-- An identifier in lower-case hexadecimal, or a hyphen for none.
abbrev pub identifier_in : List ℕ → Option (Option (List ℕ))
identifier_in word = if is_text word (codes "-") then Some None else option_map Some (identifier_of_word word)

-- The byte is a decimal digit.
abbrev pub is_digit : ℕ → Bool
is_digit byte = nat_le 0x30 byte && nat_le byte 0x39

-- The word is a decimal number without leading zeros; `0` is one.
abbrev pub is_number : List ℕ → Bool
is_number word =
    nat_le 1 (length word) && list_all is_digit word && (length word == 1 || not (slice_index word 0 == 0x30))

-- The number of a line of two words, `end` and a number.
abbrev pub number_in : List (List ℕ) → Option (List ℕ)
number_in (word ∷ number ∷ []) = if is_text word (codes "end") && is_number number then Some number else None
number_in words = None

-- A usage mask in words.
-- Source: own (text). The bits are KMIP 2.1, Enumerations and Masks, Cryptographic Usage Mask.
use Rattle.std.specs.Prelude.{ℕ, ℤ, ◌==◌, List, [], ◌∷◌, ◌++◌, take, drop, codes, bit_and, if◌then◌else◌}
use Rattle.std.specs.Int.{w32, cast_unsigned, to_be_bytes}
use Rattle.std.specs.List.{flat_map}
use Rattle.hex.specs.Hex.{encode_lower}
use Rattle.kmip_objects.specs.Ranges.{is_usage}
use Rattle.kmip_plan.specs.Words.{usages}

-- The usages that have a word, each with its bit of the Cryptographic Usage Mask, in the order of the bits: those
-- of plans, and Export, which is of KMIP 1.
abbrev pub named_usages : List (List ℕ × ℕ)
named_usages = take 6 usages ++ (codes "export", 64) ∷ drop 6 usages

-- A space and the word of a usage, if its bit is in the mask; else nothing.
abbrev pub usage_word : ℕ → List ℕ × ℕ → List ℕ
usage_word bits usage = if bit_and bits usage.1 == 0 then [] else 32 ∷ usage.0

-- The whole mask in eight hexadecimal digits, if it has a bit that no usage has, or no bit; else nothing.
abbrev pub mask_text : ℤ → List ℕ
mask_text mask =
    if is_usage mask then [] else codes " of mask " ++ encode_lower (to_be_bytes w32 (cast_unsigned w32 mask))

-- A usage mask in words, a space before each.
abbrev pub usage_text : ℤ → List ℕ
usage_text mask = flat_map (usage_word (cast_unsigned w32 mask)) named_usages ++ mask_text mask

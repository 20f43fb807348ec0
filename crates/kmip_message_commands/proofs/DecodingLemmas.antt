-- Pairs of digits that are read one after the other to the end, whether or not all are digits.
use Rattle.std.proofs.Common.{◌≡◌, ℕ, ◌+◌, ◌*◌, ◌%◌, ◌<◌, ◌≤◌, ltb, Bool, true, false, ◌&&◌, List, length, take, drop, slice_index, slice_set, Option, Some, None, unwrap_or, Ok, Err, refl, sym, subst, ◌∙◌, arith}
use Rattle.std.specs.Prelude.{IsErr}
use Rattle.std.proofs.lemmas.Bool.Decides.{nat_tests}
use Rattle.hex.specs.Hex.{decode_of, decode_pairs, hex_digit_value, pair_value}
use Rattle.hex.specs.declared.error.FromHexError.TheVariants.{InvalidHexCharacter}
use Rattle.hex.proofs.Pairs.{prepend, decode_step, decode_err, decode_done}
use Rattle.hex.proofs.HexLemmas.{decode_of-even}

-- the pairs before the place `i` are read, or one of them is no pair of digits
abbrev pub IsRead : List ℕ → List ℕ → ℕ → Bool → Type 0
IsRead digits bytes i true = decode_pairs 0 digits ≡ prepend (take i bytes) (decode_pairs (2 * i) (drop (2 * i) digits))
IsRead digits bytes i false = IsErr (decode_pairs 0 digits)

below_sixteen : (digit value : ℕ) → hex_digit_value digit ≡ Some value → value < 16
below_sixteen digit value is = grind (arith)

-- a pair more, by what its digits stand for
pair_more : (digits bytes : List ℕ) (i : ℕ) → 2 * i + 1 < length digits → i < length bytes → (high low : Option ℕ)
    → hex_digit_value (slice_index digits (2 * i)) ≡ high → hex_digit_value (slice_index digits (2 * i + 1)) ≡ low
    → IsRead digits bytes i true
    → IsRead digits (slice_set bytes i ((unwrap_or high 255 * 16 % 256 + unwrap_or low 255) % 256)) (i + 1) (ltb (unwrap_or high 255) 16 && ltb (unwrap_or low 255) 16)
pair_more digits bytes i fits room (Some high) (Some low) is_high is_low read =
    let small_high = below_sixteen (slice_index digits (2 * i)) high is_high in
    let small_low = below_sixteen (slice_index digits (2 * i + 1)) low is_low in
    let are : (ltb high 16 && ltb low 16) ≡ true = grind (arith, nat_tests) in
    let byte : (high * 16 % 256 + low) % 256 ≡ high * 16 + low = omega arith in
    let pair : pair_value (slice_index digits (2 * i)) (slice_index digits (2 * i + 1)) (2 * i) ≡ Ok (high * 16 + low) = rw (is_high, is_low) refl in
    rw (are, byte) (decode_step digits bytes i (high * 16 + low) fits room pair read)
pair_more digits bytes i fits room (Some high) None is_high is_low read =
    let are : (ltb high 16 && ltb 255 16) ≡ false = grind (arith, nat_tests) in
    let bad : pair_value (slice_index digits (2 * i)) (slice_index digits (2 * i + 1)) (2 * i)
    ≡ Err (InvalidHexCharacter (slice_index digits (2 * i + 1)) (2 * i + 1)) = rw (is_high, is_low) refl in
    rw (are, decode_err digits bytes i _ fits bad read) refl
pair_more digits bytes i fits room None low is_high is_low read =
    let bad : pair_value (slice_index digits (2 * i)) (slice_index digits (2 * i + 1)) (2 * i)
    ≡ Err (InvalidHexCharacter (slice_index digits (2 * i)) (2 * i)) = rw is_high refl in
    rw (decode_err digits bytes i _ fits bad read) refl

-- a pair more, by the values that were found
pub read_more : (digits bytes : List ℕ) (i high low : ℕ) (are : Bool) → 2 * i + 1 < length digits → i < length bytes
    → high ≡ unwrap_or (hex_digit_value (slice_index digits (2 * i))) 255 → low ≡ unwrap_or (hex_digit_value (slice_index digits (2 * i + 1))) 255
    → IsRead digits bytes i are
    → IsRead digits (slice_set bytes i ((high * 16 % 256 + low) % 256)) (i + 1) ((are && ltb high 16) && ltb low 16)
read_more digits bytes i high low true fits room is_high is_low read =
    rw (is_high, is_low) (pair_more digits bytes i fits room _ _ refl refl read)
read_more digits bytes i high low false fits room is_high is_low read = read

-- every pair is read
pub read_all : (digits bytes : List ℕ) (i : ℕ) (are : Bool) → length bytes ≤ i → length digits ≡ 2 * length bytes
    → IsRead digits bytes i are → are ≡ true → decode_of digits ≡ Ok bytes
read_all digits bytes i true all twice read are =
    decode_of-even digits (omega (arith, twice)) ∙ decode_done digits bytes i all (omega (arith, twice)) read
read_all digits bytes i false all twice read are = cc

-- a byte is no digit
pub refused_one : (digits bytes : List ℕ) (i : ℕ) (are : Bool) → length digits ≡ 2 * length bytes
    → IsRead digits bytes i are → are ≡ false → IsErr (decode_of digits)
refused_one digits bytes i true twice read are = cc
refused_one digits bytes i false twice read are = subst IsErr (sym (decode_of-even digits (omega (arith, twice)))) read

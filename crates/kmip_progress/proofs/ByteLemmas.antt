-- The bytes of words: none is a space or a line feed.
use Rattle.std.proofs.Common.{rules, ◌≡◌, ◌+◌, ◌/◌, ◌%◌, ◌^◌, ◌<◌, ◌≤◌, ◌==◌, ℕ, zero, suc, nat_le, nat_lt, Bool, true, not, ◌&&◌, ◌||◌, List, [], ◌∷◌, ◌++◌, length, slice_index, Some, None, refl, sym, ap, ◌∙◌, inl, inr, arith, lit<}
use Rattle.std.specs.Fmt.{decimal}
use Rattle.std.specs.List.{list_all}
use Rattle.std.specs.Str.{is_utf8}
use Rattle.std.specs.Str.Parse.{digits_value}
use Rattle.std.proofs.Math.Utf8.{encode, encodes, scalar, scalars, scalar_cases}
use Rattle.std.proofs.lemmas.Bool.{cases_Bool, cases_lt, and_parts, and_from, leb-true, le-leb, lt-ltb, le-ltb, ltb-true, ne_eqb, not_from_false, or_right}
use Rattle.std.proofs.lemmas.Fmt.{digits_decimal, decimal_digit, decimal_nonempty, first_decimal}
use Rattle.std.proofs.lemmas.Str.{IsUtf8-from_is_utf8}
use Rattle.std.proofs.lemmas.Str.Parse.{IsNumeralModel, numerals_by_value}
use Rattle.hex.specs.Hex.{lower_digits, encode_with, encode_lower, hex_digit_value}
use Rattle.hex.proofs.HexLemmas.{IsDigits-lower_digits}
use Rattle.kmip_objects.specs.Ranges.{is_name_byte}
use Rattle.kmip_progress.specs.Words.{is_digit, is_number}

-- ---- lists that pass a test

pub all_from : {A : Type 0} (f : A → Bool) (xs ys : List A) → list_all f xs ≡ true → list_all f ys ≡ true → list_all f (xs ++ ys) ≡ true
all_from f [] ys a b = b
all_from f (x ∷ xs) ys a b =
    let p = and_parts (f x) (list_all f xs) a in
    and_from (f x) (list_all f (xs ++ ys)) p.0 (all_from f xs ys p.1 b)

pub all_parts : {A : Type 0} (f : A → Bool) (xs ys : List A) → list_all f (xs ++ ys) ≡ true → (list_all f xs ≡ true) × (list_all f ys ≡ true)
all_parts f [] ys a = (refl, a)
all_parts f (x ∷ xs) ys a =
    let p = and_parts (f x) (list_all f (xs ++ ys)) a in
    let q = all_parts f xs ys p.1 in
    (and_from (f x) (list_all f xs) p.0 q.0, q.1)

pub all_weaker : {A : Type 0} (f g : A → Bool) → ((x : A) → f x ≡ true → g x ≡ true) → (xs : List A) → list_all f xs ≡ true → list_all g xs ≡ true
all_weaker f g h [] a = refl
all_weaker f g h (x ∷ xs) a =
    let p = and_parts (f x) (list_all f xs) a in
    and_from (g x) (list_all g xs) (h x p.0) (all_weaker f g h xs p.1)

-- ---- printable bytes

-- the bytes of a word are printable, and none is a space
abbrev pub is_word : List ℕ → Bool
is_word word = list_all is_name_byte word

in_range : (low high b : ℕ) → (nat_le low b && nat_le b high) ≡ true → 0x21 ≤ low → high ≤ 0x7E → is_name_byte b ≡ true
in_range low high b is l h =
    let p = and_parts (nat_le low b) (nat_le b high) is in
    let above = leb-true low b p.0 in
    let below = leb-true b high p.1 in
    and_from (nat_le 0x21 b) (nat_le b 0x7E) (le-leb 0x21 b (omega (arith, above, l))) (le-leb b 0x7E (omega (arith, below, h)))

pub digits_printable : (word : List ℕ) → list_all is_digit word ≡ true → is_word word ≡ true
digits_printable word h = all_weaker is_digit is_name_byte (λ b d. in_range 0x30 0x39 b d (omega arith) (omega arith)) word h

no_value : {X : Type 0} (d : ℕ) → None ≡ Some d → X
no_value d e = absurd cc

hex_printable : (c d : ℕ) → hex_digit_value c ≡ Some d → is_name_byte c ≡ true
hex_printable c d is =
    elim (cases_Bool (nat_le 65 c && nat_le c 70)) [
      | inl upper ↦ in_range 65 70 c upper (omega arith) (omega arith)
      | inr not_upper ↦
          elim (cases_Bool (nat_le 97 c && nat_le c 102)) [
            | inl lower ↦ in_range 97 102 c lower (omega arith) (omega arith)
            | inr not_lower ↦
                elim (cases_Bool (nat_le 48 c && nat_le c 57)) [
                  | inl digit ↦ in_range 48 57 c digit (omega arith) (omega arith)
                  | inr no_digit ↦ no_value d (rw (not_upper, not_lower, no_digit) at is)
                ]
          ]
    ]

-- bytes are below 256
abbrev pub are_bytes : List ℕ → Bool
are_bytes bytes = list_all (λ b. nat_lt b 256) bytes

pub hex_word : (bytes : List ℕ) → are_bytes bytes ≡ true → is_word (encode_lower bytes) ≡ true
unfolding encode_with
hex_word [] h = refl
hex_word (b ∷ bytes) h =
    let p = and_parts (nat_lt b 256) (are_bytes bytes) h in
    let small = ltb-true b 256 p.0 in
    let high = hex_printable (slice_index lower_digits (b / 16)) (b / 16) (IsDigits-lower_digits (b / 16) (omega (arith, small))) in
    let low = hex_printable (slice_index lower_digits (b % 16)) (b % 16) (IsDigits-lower_digits (b % 16) (omega arith)) in
    and_from (is_name_byte (slice_index lower_digits (b / 16))) (is_word (slice_index lower_digits (b % 16) ∷ encode_lower bytes)) high (
    and_from (is_name_byte (slice_index lower_digits (b % 16))) (is_word (encode_lower bytes)) low (hex_word bytes p.1))

pub bytes_at : (bytes : List ℕ) → are_bytes bytes ≡ true → (i : ℕ) → slice_index bytes i < 256
bytes_at [] h zero = lit< tt
bytes_at [] h (suc i) = lit< tt
bytes_at (b ∷ bytes) h zero = ltb-true b 256 (and_parts (nat_lt b 256) (are_bytes bytes) h).0
bytes_at (b ∷ bytes) h (suc i) = bytes_at bytes (and_parts (nat_lt b 256) (are_bytes bytes) h).1 i

-- ---- UTF-8

one_byte : (a : ℕ) → a < 256 → are_bytes (a ∷ []) ≡ true
one_byte a h = rw (lt-ltb a 256 h) refl

more_bytes : (a : ℕ) (bytes : List ℕ) → a < 256 → are_bytes bytes ≡ true → are_bytes (a ∷ bytes) ≡ true
more_bytes a bytes h rest = and_from (nat_lt a 256) (are_bytes bytes) (lt-ltb a 256 h) rest

two_bytes : (a b : ℕ) → a < 256 → b < 256 → are_bytes (a ∷ b ∷ []) ≡ true
two_bytes a b h k = more_bytes a (b ∷ []) h (one_byte b k)

three_bytes : (a b c : ℕ) → a < 256 → b < 256 → c < 256 → are_bytes (a ∷ b ∷ c ∷ []) ≡ true
three_bytes a b c h k l = more_bytes a (b ∷ c ∷ []) h (two_bytes b c k l)

four_bytes : (a b c d : ℕ) → a < 256 → b < 256 → c < 256 → d < 256 → are_bytes (a ∷ b ∷ c ∷ d ∷ []) ≡ true
four_bytes a b c d h k l m = more_bytes a (b ∷ c ∷ d ∷ []) h (three_bytes b c d k l m)

encode_bytes : (c : ℕ) → c < 1114112 → are_bytes (encode c) ≡ true
unfolding encode
encode_bytes c top =
    elim (cases_lt c 128) [
      | inl one ↦ rw (lt-ltb c 128 one) (one_byte c (omega (arith, one)))
      | inr some ↦
          elim (cases_lt c 2048) [
            | inl two ↦ rw (le-ltb c 128 some, lt-ltb c 2048 two) (two_bytes (192 + c / 64) (128 + c % 64) (omega (arith, two)) (omega arith))
            | inr more ↦
                elim (cases_lt c 65536) [
                  | inl three ↦ rw (le-ltb c 128 some, le-ltb c 2048 more, lt-ltb c 65536 three) (
                      three_bytes (224 + c / 4096) (128 + c / 64 % 64) (128 + c % 64) (omega (arith, three)) (omega arith) (omega arith))
                  | inr four ↦ rw (le-ltb c 128 some, le-ltb c 2048 more, le-ltb c 65536 four) (
                      four_bytes (240 + c / 262144) (128 + c / 4096 % 64) (128 + c / 64 % 64) (128 + c % 64)
                      (omega (arith, top)) (omega arith) (omega arith) (omega arith))
                ]
          ]
    ]

below_top : (c : ℕ) → scalar c ≡ true → c < 1114112
below_top c is = elim (scalar_cases c is) [
  | inl low ↦ omega (arith, low)
  | inr high ↦ high.1
]

encodes_bytes : (cs : List ℕ) → scalars cs ≡ true → are_bytes (encodes cs) ≡ true
encodes_bytes [] h = refl
encodes_bytes (c ∷ cs) h =
    let p = and_parts (scalar c) (scalars cs) h in
    all_from (λ b. nat_lt b 256) (encode c) (encodes cs) (encode_bytes c (below_top c p.0)) (encodes_bytes cs p.1)

pub utf8_bytes : (bytes : List ℕ) → is_utf8 bytes ≡ true → are_bytes bytes ≡ true
utf8_bytes bytes h =
    let u = IsUtf8-from_is_utf8 bytes h in
    ap are_bytes (sym u.1.1) ∙ encodes_bytes u.0 u.1.0

-- ---- decimal numbers

own : IsNumeralModel (λ ds. list_all is_digit ds ≡ true) (digits_value 10)
own = numerals_by_value (λ ds. list_all is_digit ds ≡ true) (search rules)

pub decimal_digits : (n : ℕ) → n < 2 ^ 64 → list_all is_digit (decimal n) ≡ true
decimal_digits n small = digits_decimal own n small

-- `0`, or a number that begins with another digit
no_zero : (n : ℕ) → n < 2 ^ 64 → (length (decimal n) == 1 || not (slice_index (decimal n) 0 == 0x30)) ≡ true
no_zero zero small = ap (λ (ds : List ℕ). length ds == 1 || not (slice_index ds 0 == 0x30)) (decimal_digit 0 (lit< tt))
no_zero (suc n) small =
    let first = first_decimal (suc n) (omega arith) small in
    or_right (length (decimal (suc n)) == 1) (not (slice_index (decimal (suc n)) 0 == 0x30))
    (not_from_false (slice_index (decimal (suc n)) 0 == 0x30) (ne_eqb (slice_index (decimal (suc n)) 0) 0x30 (λ e. omega (arith, first, e))))

pub decimal_number : (n : ℕ) → n < 2 ^ 64 → is_number (decimal n) ≡ true
decimal_number n small =
    let long = le-leb 1 (length (decimal n)) (omega (arith, decimal_nonempty n small)) in
    and_from (nat_le 1 (length (decimal n)) && list_all is_digit (decimal n)) (length (decimal n) == 1 || not (slice_index (decimal n) 0 == 0x30))
    (and_from (nat_le 1 (length (decimal n))) (list_all is_digit (decimal n)) long (decimal_digits n small)) (no_zero n small)

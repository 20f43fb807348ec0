-- Numbers as bytes, and bytes as numbers.
use Rattle.std.proofs.Common.{◌≡◌, ℕ, ◌+◌, ◌*◌, ◌/◌, ◌%◌, ◌^◌, ◌<◌, ◌≤◌, List, [], ◌∷◌, ◌++◌, length, take, drop, slice_index, refl, sym, ap, ◌∙◌, inl, inr, arith}
use Rattle.std.proofs.lemmas.Bool.{cases_lt}
use Rattle.std.proofs.lemmas.List.{append-nil, length-take, get_or-drop, get_or-take, get_or_past}
use Rattle.std.proofs.lemmas.Nat.{be_bytes_4, be_bytes_8}
use Rattle.byteorder.specs.Endian.{big_bytes, big_number}
use Rattle.byteorder.specs.Numbers.{big_number-reads_back, big_from-lt}
use Rattle.kmip_ttlv.specs.declared.item_type.ItemType.{ItemType}
use Rattle.kmip_ttlv.specs.Types.{byte_of_type}
use Rattle.kmip_ttlv.specs.Fitting.{IsBytes}
use Rattle.kmip_ttlv.specs.Spelling.{head}

pub IsBytes-drop : (n : ℕ) (bytes : List ℕ) → IsBytes bytes → IsBytes (drop n bytes)
IsBytes-drop n bytes h i = rw get_or-drop (h (n + i))

pub IsBytes-take : (n : ℕ) (bytes : List ℕ) → IsBytes bytes → IsBytes (take n bytes)
IsBytes-take n bytes h i =
    elim (cases_lt i n) [
      | inl lt ↦ rw (get_or-take n bytes i 0 lt) (h i)
      | inr le ↦ rw (get_or_past (take n bytes) i 0 (omega (arith, length-take n bytes))) (omega arith)
    ]

pub back_4 : (bytes : List ℕ) → length bytes ≡ 4 → IsBytes bytes → big_bytes 4 (big_number 4 bytes) ≡ bytes
back_4 bytes len fits = be_bytes_4 bytes (big_number 4 bytes) len fits (omega arith)

pub back_8 : (bytes : List ℕ) → length bytes ≡ 8 → IsBytes bytes → big_bytes 8 (big_number 8 bytes) ≡ bytes
back_8 bytes len fits = be_bytes_8 bytes (big_number 8 bytes) len fits (omega arith)

pub below_4 : (bytes : List ℕ) → IsBytes bytes → big_number 4 bytes < 2 ^ 32
below_4 bytes fits = big_from-lt 0 4 bytes fits

pub below_8 : (bytes : List ℕ) → IsBytes bytes → big_number 8 bytes < 2 ^ 64
below_8 bytes fits = big_from-lt 0 8 bytes fits

pub below_3 : (bytes : List ℕ) → IsBytes bytes → big_number 3 bytes < 2 ^ 24
below_3 bytes fits = big_from-lt 0 3 bytes fits

pub again_4 : (n : ℕ) → n < 2 ^ 32 → big_number 4 (big_bytes 4 n) ≡ n
again_4 n fits = ap (big_number 4) (sym (append-nil (big_bytes 4 n))) ∙ big_number-reads_back 4 n [] fits

pub again_8 : (n : ℕ) → n < 2 ^ 64 → big_number 8 (big_bytes 8 n) ≡ n
again_8 n fits = ap (big_number 8) (sym (append-nil (big_bytes 8 n))) ∙ big_number-reads_back 8 n [] fits

-- ---- heads

pub head-length : (tag : ℕ) (type : ItemType) (len : ℕ) (rest : List ℕ) → 8 ≤ length (head tag type len ++ rest)
unfolding head
head-length tag type len rest = omega arith

pub head-tag : (tag : ℕ) (type : ItemType) (len : ℕ) (rest : List ℕ) → tag < 2 ^ 24 → big_number 3 (head tag type len ++ rest) ≡ tag
unfolding head
head-tag tag type len rest fits = big_number-reads_back 3 tag (byte_of_type type ∷ big_bytes 4 len ++ rest) fits

pub head-type : (tag : ℕ) (type : ItemType) (len : ℕ) (rest : List ℕ) → slice_index (head tag type len ++ rest) 3 ≡ byte_of_type type
unfolding head
head-type tag type len rest = refl

pub head-len : (tag : ℕ) (type : ItemType) (len : ℕ) (rest : List ℕ) → len < 2 ^ 32 → big_number 4 (drop 4 (head tag type len ++ rest)) ≡ len
unfolding head
head-len tag type len rest fits = big_number-reads_back 4 len rest fits

pub drop-head : (tag : ℕ) (type : ItemType) (len : ℕ) (rest : List ℕ) → drop 8 (head tag type len ++ rest) ≡ rest
unfolding head
drop-head tag type len rest = refl

-- three bytes of a number
three_bytes : (a b c : ℕ) → a < 256 → b < 256 → c < 256 → big_bytes 3 (a * 65536 + (b * 256 + (c * 1 + 0))) ≡ a ∷ b ∷ c ∷ []
three_bytes a b c la lb lc =
    let n = a * 65536 + (b * 256 + (c * 1 + 0)) in
    let one : n / 65536 % 256 ≡ a = omega arith in
    let two : n / 256 % 256 ≡ b = omega arith in
    let three : n % 256 ≡ c = omega arith in
    rw (one, two, three) refl

-- a head is the first eight bytes of what it was read from
pub head_back : (bytes : List ℕ) (type : ItemType) → IsBytes bytes → 8 ≤ length bytes → byte_of_type type ≡ slice_index bytes 3
    → head (big_number 3 bytes) type (big_number 4 (drop 4 bytes)) ≡ take 8 bytes
unfolding head
head_back [] type fits long is = absurd (omega arith)
head_back (a ∷ []) type fits long is = absurd (omega arith)
head_back (a ∷ b ∷ []) type fits long is = absurd (omega arith)
head_back (a ∷ b ∷ c ∷ []) type fits long is = absurd (omega arith)
head_back (a ∷ b ∷ c ∷ d ∷ []) type fits long is = absurd (omega arith)
head_back (a ∷ b ∷ c ∷ d ∷ e ∷ []) type fits long is = absurd (omega arith)
head_back (a ∷ b ∷ c ∷ d ∷ e ∷ f ∷ []) type fits long is = absurd (omega arith)
head_back (a ∷ b ∷ c ∷ d ∷ e ∷ f ∷ g ∷ []) type fits long is = absurd (omega arith)
head_back (a ∷ b ∷ c ∷ d ∷ e ∷ f ∷ g ∷ h ∷ rest) type fits long is =
    let front : big_bytes 3 (big_number 3 (a ∷ b ∷ c ∷ [])) ≡ a ∷ b ∷ c ∷ [] = three_bytes a b c (fits 0) (fits 1) (fits 2) in
    let last : big_bytes 4 (big_number 4 (e ∷ f ∷ g ∷ h ∷ [])) ≡ e ∷ f ∷ g ∷ h ∷ [] =
    back_4 (e ∷ f ∷ g ∷ h ∷ []) refl (λ i. IsBytes-take 4 (e ∷ f ∷ g ∷ h ∷ rest) (IsBytes-drop 4 (a ∷ b ∷ c ∷ d ∷ e ∷ f ∷ g ∷ h ∷ rest) fits) i) in
    ap (λ (x : List ℕ). x ++ byte_of_type type ∷ big_bytes 4 (big_number 4 (e ∷ f ∷ g ∷ h ∷ []))) front
    ∙ ap (λ (x : List ℕ). a ∷ b ∷ c ∷ byte_of_type type ∷ x) last
    ∙ ap (λ (x : ℕ). a ∷ b ∷ c ∷ x ∷ e ∷ f ∷ g ∷ h ∷ []) is

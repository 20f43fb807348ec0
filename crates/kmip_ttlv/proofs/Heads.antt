-- The head of an item: what is read of it, and that it is read so.
use Rattle.std.proofs.Common.{◌≡◌, ℕ, zero, suc, ◌+◌, ◌≤◌, ◌<◌, ◌^◌, Bool, true, false, cond, not, ltb, List, ◌++◌, length, take, drop, slice_index, Option, Some, None, Result, Ok, Err, refl, sym, ap, subst, ◌∙◌, append_assoc, take-add, arith}
use Rattle.std.specs.Prelude.{◌&&◌}
use Rattle.std.proofs.lemmas.Bool.{ltb-false, le-ltb, not-false, not_from_true}
use Rattle.std.proofs.lemmas.List.{length-append, length-take, length-drop, take_at}
use Rattle.byteorder.specs.Endian.{big_number}
use Rattle.kmip_ttlv.specs.declared.ttlv_fault.TtlvFault.{TtlvFault}
use Rattle.kmip_ttlv.specs.declared.ttlv_fault.TtlvFault.TheVariants as faults
use Rattle.kmip_ttlv.specs.declared.item_type.ItemType.{ItemType}
use Rattle.kmip_ttlv.specs.declared.item_type.ItemType.TheVariants as types
use Rattle.kmip_ttlv.specs.Types.{byte_of_type, type_of_byte, is_allowed}
use Rattle.kmip_ttlv.specs.Spelling.{padding, head, item_bytes}
use Rattle.kmip_ttlv.specs.Sizes.{padded}
use Rattle.kmip_ttlv.specs.Heads.{overrun, typed_head_at, head_at}
use Rattle.kmip_ttlv.proofs.Lengths.{length-item_bytes}
use Rattle.kmip_ttlv.specs.Fitting.{IsBytes}
use Rattle.kmip_ttlv.proofs.Numbers.{below_3, head-tag, head-type, head-len, drop-head, head_back}

-- the bytes begin with a head that passes each check
pub record HasHead (outermost : Bool) (bytes : List ℕ) (tag : ℕ) (type : ItemType) (len : ℕ) : Type 0 where
  pub tag_is : big_number 3 bytes ≡ tag
  pub type_is : type_of_byte (slice_index bytes 3) ≡ Some type
  pub len_is : big_number 4 (drop 4 bytes) ≡ len
  pub allowed : is_allowed type len ≡ true
  pub short : outermost ≡ true → 8 + padded len ≤ 8192
  pub fits : 8 + padded len ≤ length bytes

-- a test that did not fail
guard_ok : {A : Type 0} (b : Bool) (e : TtlvFault) (r : Result A TtlvFault) (x : A) → cond b (Err e) r ≡ Ok x → (b ≡ false) × (r ≡ Ok x)
guard_ok true e r x is = absurd cc
guard_ok false e r x is = (refl, is)

abbrev Found : Type 0
Found = ℕ × ItemType × ℕ

found : ℕ → ItemType → ℕ → Result Found TtlvFault
found tag type len = Ok (tag, type, len)

-- a number and a bound, where both are not at fault
below : (outermost : Bool) (n : ℕ) → (outermost && ltb 8192 n) ≡ false → outermost ≡ true → n ≤ 8192
below true n is same = ltb-false 8192 n is
below false n is same = absurd cc

typed_takes : (outermost : Bool) (at : ℕ) (bytes : List ℕ) (o : Option ItemType) (len : ℕ) (x : Found) → type_of_byte (slice_index bytes 3) ≡ o
    → big_number 4 (drop 4 bytes) ≡ len → typed_head_at outermost at bytes o len ≡ Ok x → HasHead outermost bytes x.0 x.1 x.2
unfolding typed_head_at
typed_takes outermost at bytes None len x type_is len_is e = absurd cc
typed_takes outermost at bytes (Some type) len x type_is len_is e =
    let whole : Result Found TtlvFault = Ok (big_number 3 bytes, type, len) in
    let fits = cond (ltb (length bytes) (8 + padded len)) (Err (overrun outermost at)) whole in
    let short = cond (outermost && ltb 8192 (8 + padded len)) (Err (faults.TooLong at)) fits in
    let one = guard_ok (not (is_allowed type len)) (faults.BadLength at) short x e in
    let two = guard_ok (outermost && ltb 8192 (8 + padded len)) (faults.TooLong at) fits x one.1 in
    let three = guard_ok (ltb (length bytes) (8 + padded len)) (overrun outermost at) whole x two.1 in
    let same : (big_number 3 bytes, type, len) ≡ x = cc in
    subst (λ (y : Found). HasHead outermost bytes y.0 y.1 y.2) same
    (record {
      tag_is = refl;
      type_is = type_is;
      len_is = len_is;
      allowed = not-false _ one.0;
      short = below outermost (8 + padded len) two.0;
      fits = ltb-false _ _ three.0;
    })

pub head_takes : (outermost : Bool) (at : ℕ) (bytes : List ℕ) (x : Found) → head_at outermost at bytes ≡ Ok x → HasHead outermost bytes x.0 x.1 x.2
unfolding head_at
head_takes outermost at bytes x e =
    let typed = typed_head_at outermost at bytes (type_of_byte (slice_index bytes 3)) (big_number 4 (drop 4 bytes)) in
    let one = guard_ok (ltb (length bytes) 8) (overrun outermost at) typed x e in
    typed_takes outermost at bytes (type_of_byte (slice_index bytes 3)) (big_number 4 (drop 4 bytes)) x refl refl one.1

not_long : (outermost : Bool) (n : ℕ) → (outermost ≡ true → n ≤ 8192) → (outermost && ltb 8192 n) ≡ false
not_long true n h = le-ltb 8192 n (h refl)
not_long false n h = refl

pub head_found : (outermost : Bool) (at : ℕ) (bytes : List ℕ) (tag : ℕ) (type : ItemType) (len : ℕ) → HasHead outermost bytes tag type len
    → head_at outermost at bytes ≡ Ok (tag, type, len)
unfolding head_at typed_head_at
head_found outermost at bytes tag type len h =
    let long : ltb (length bytes) 8 ≡ false = le-ltb _ _ (omega (arith, h.fits)) in
    let right : not (is_allowed type len) ≡ false = not_from_true _ h.allowed in
    let short : (outermost && ltb 8192 (8 + padded len)) ≡ false = not_long outermost (8 + padded len) h.short in
    let fits : ltb (length bytes) (8 + padded len) ≡ false = le-ltb _ _ h.fits in
    rw (long, h.type_is, h.len_is, right, short, fits, h.tag_is) refl

-- ---- a type and its number

type_is_of : (known type : ItemType) → Some known ≡ Some type → byte_of_type type ≡ byte_of_type known
type_is_of known type e = let same : known ≡ type = cc in ap byte_of_type (sym same)

pub byte_of_type-of : (byte : ℕ) (type : ItemType) → type_of_byte byte ≡ Some type → byte_of_type type ≡ byte
byte_of_type-of zero type is = absurd cc
byte_of_type-of (suc zero) type is = type_is_of types.Structure type is
byte_of_type-of (suc (suc zero)) type is = type_is_of types.Integer type is
byte_of_type-of (suc (suc (suc zero))) type is = type_is_of types.LongInteger type is
byte_of_type-of (suc (suc (suc (suc zero)))) type is = type_is_of types.BigInteger type is
byte_of_type-of (suc (suc (suc (suc (suc zero))))) type is = type_is_of types.Enumeration type is
byte_of_type-of (suc (suc (suc (suc (suc (suc zero)))))) type is = type_is_of types.Boolean type is
byte_of_type-of (suc (suc (suc (suc (suc (suc (suc zero))))))) type is = type_is_of types.TextString type is
byte_of_type-of (suc (suc (suc (suc (suc (suc (suc (suc zero)))))))) type is = type_is_of types.ByteString type is
byte_of_type-of (suc (suc (suc (suc (suc (suc (suc (suc (suc zero))))))))) type is = type_is_of types.DateTime type is
byte_of_type-of (suc (suc (suc (suc (suc (suc (suc (suc (suc (suc zero)))))))))) type is = type_is_of types.Interval type is
byte_of_type-of (suc (suc (suc (suc (suc (suc (suc (suc (suc (suc (suc zero))))))))))) type is = type_is_of types.DateTimeExtended type is
byte_of_type-of (suc (suc (suc (suc (suc (suc (suc (suc (suc (suc (suc (suc n)))))))))))) type is = absurd cc

pub type_of_byte-of : (type : ItemType) → type_of_byte (byte_of_type type) ≡ Some type
type_of_byte-of types.Structure = refl
type_of_byte-of types.Integer = refl
type_of_byte-of types.LongInteger = refl
type_of_byte-of types.BigInteger = refl
type_of_byte-of types.Enumeration = refl
type_of_byte-of types.Boolean = refl
type_of_byte-of types.TextString = refl
type_of_byte-of types.ByteString = refl
type_of_byte-of types.DateTime = refl
type_of_byte-of types.Interval = refl
type_of_byte-of types.DateTimeExtended = refl

-- ---- the parts of an item

abbrev pub value_in : ℕ → List ℕ → List ℕ
value_in len bytes = take len (drop 8 bytes)

abbrev pub pad_in : ℕ → List ℕ → List ℕ
pad_in len bytes = take (padding len) (drop len (drop 8 bytes))

pub length-value : (outermost : Bool) (bytes : List ℕ) (tag : ℕ) (type : ItemType) (len : ℕ) → HasHead outermost bytes tag type len → length (value_in len bytes) ≡ len
length-value outermost bytes tag type len h = omega (arith, h.fits, length-take len (drop 8 bytes), length-drop 8 bytes)

pub length-pad : (outermost : Bool) (bytes : List ℕ) (tag : ℕ) (type : ItemType) (len : ℕ) → HasHead outermost bytes tag type len → length (pad_in len bytes) ≡ padding len
length-pad outermost bytes tag type len h =
    omega (arith, h.fits, length-take (padding len) (drop len (drop 8 bytes)), length-drop len (drop 8 bytes), length-drop 8 bytes)

pub tag_below : (outermost : Bool) (bytes : List ℕ) (tag : ℕ) (type : ItemType) (len : ℕ) → IsBytes bytes → HasHead outermost bytes tag type len → tag < 2 ^ 24
tag_below outermost bytes tag type len fits h = omega (arith, below_3 bytes fits, h.tag_is)

pub parts : (outermost : Bool) (bytes : List ℕ) (tag : ℕ) (type : ItemType) (len : ℕ) → IsBytes bytes → HasHead outermost bytes tag type len
    → take (8 + padded len) bytes ≡ item_bytes tag type (value_in len bytes) (pad_in len bytes)
parts outermost bytes tag type len fits h =
    let front : head tag type len ≡ take 8 bytes =
    ap (λ (k : ℕ). head k type len) (sym h.tag_is) ∙ ap (λ (k : ℕ). head (big_number 3 bytes) type k) (sym h.len_is)
    ∙ head_back bytes type fits (omega (arith, h.fits)) (byte_of_type-of (slice_index bytes 3) type h.type_is) in
    let here : head tag type (length (value_in len bytes)) ≡ take 8 bytes = ap (head tag type) (length-value outermost bytes tag type len h) ∙ front in
    let rest = drop 8 bytes in
    take-add 8 (padded len) bytes ∙ ap (λ (x : List ℕ). take 8 bytes ++ x) (take-add len (padding len) rest)
    ∙ sym (append_assoc (take 8 bytes) (value_in len bytes) (pad_in len bytes))
    ∙ ap (λ (x : List ℕ). x ++ value_in len bytes ++ pad_in len bytes) (sym here)

-- what begins so has a head
pub has_head : (outermost : Bool) (tag : ℕ) (type : ItemType) (value pad rest : List ℕ) → tag < 2 ^ 24 → length value < 2 ^ 32
    → is_allowed type (length value) ≡ true → length pad ≡ padding (length value) → (outermost ≡ true → length (item_bytes tag type value pad) ≤ 8192)
    → HasHead outermost (item_bytes tag type value pad ++ rest) tag type (length value)
has_head outermost tag type value pad rest tag_fits len_fits allowed is_pad short =
    let len = length value in
    let more = value ++ pad ++ rest in
    let is : item_bytes tag type value pad ++ rest ≡ head tag type len ++ more =
    append_assoc (head tag type len ++ value) pad rest ∙ append_assoc (head tag type len) value (pad ++ rest) ∙ ap (λ (x : List ℕ). head tag type len ++ x) (sym (append_assoc value pad rest)) in
    let size = length-item_bytes tag type value pad in
    record {
      tag_is = ap (big_number 3) is ∙ head-tag tag type len more tag_fits;
      type_is = ap (λ (x : List ℕ). type_of_byte (slice_index x 3)) is ∙ ap type_of_byte (head-type tag type len more) ∙ type_of_byte-of type;
      len_is = ap (λ (x : List ℕ). big_number 4 (drop 4 x)) is ∙ head-len tag type len more len_fits;
      allowed = allowed;
      short = λ e. omega (arith, short e, size, is_pad);
      fits = omega (arith, size, is_pad, length-append (item_bytes tag type value pad) rest);
    }

-- its value is the value
pub value_again : (tag : ℕ) (type : ItemType) (value pad rest : List ℕ) → value_in (length value) (item_bytes tag type value pad ++ rest) ≡ value
value_again tag type value pad rest =
    let len = length value in
    let is : item_bytes tag type value pad ++ rest ≡ head tag type len ++ (value ++ (pad ++ rest)) =
    append_assoc (head tag type len ++ value) pad rest ∙ append_assoc (head tag type len) value (pad ++ rest) in
    ap (λ (x : List ℕ). value_in len x) is ∙ ap (take len) (drop-head tag type len (value ++ (pad ++ rest))) ∙ take_at value (pad ++ rest) len refl

-- Values of one item without children: what is read is spelled so, and what is spelled so is read.
use Rattle.std.proofs.Common.{◌≡◌, ℕ, zero, suc, ◌<◌, ◌^◌, ◌%◌, ℤ, Bool, true, false, cond, eqb, ltb, List, length, Result, Ok, Err, refl, sym, ap, subst, ◌∙◌, arith}
use Rattle.std.specs.Prelude.{IsUtf8, FitsSigned}
use Rattle.std.specs.Int.{w32, w64, cast_signed, cast_unsigned, from_bool}
use Rattle.std.specs.Str.{is_utf8}
use Rattle.std.proofs.lemmas.Int.{of_z-to_z, to_z-of_z}
use Rattle.std.proofs.lemmas.Bool.{eqb-true, eq-eqb, ltb-true, lt-ltb, and_parts, and_from}
use Rattle.std.proofs.lemmas.Str.{IsUtf8-from_is_utf8}
use borrow.Author.Gap.{read_sfits}
use mir.Facts.{Fits-of_z}
use Rattle.byteorder.specs.Endian.{big_bytes, big_number}
use Rattle.kmip_ttlv.specs.declared.ttlv_fault.TtlvFault.{TtlvFault}
use Rattle.kmip_ttlv.specs.declared.ttlv_fault.TtlvFault.TheVariants as faults
use Rattle.kmip_ttlv.specs.declared.item_type.ItemType.{ItemType}
use Rattle.kmip_ttlv.specs.declared.item_type.ItemType.TheVariants as types
use Rattle.kmip_ttlv.specs.Node.{
  Content,
  integer,
  long_integer,
  big_integer,
  enumeration,
  boolean,
  text_string,
  byte_string,
  date_time,
  interval,
  date_time_extended,
}
use Rattle.kmip_ttlv.specs.Types.{is_allowed}
use Rattle.kmip_ttlv.specs.Fitting.{IsBytes, content_depth}
use Rattle.kmip_ttlv.specs.Spelling.{type_of, value_bytes, SpelledValue}
use Rattle.kmip_ttlv.specs.Binding.{◌>>=◌}
use Rattle.kmip_ttlv.specs.Reading.{Reader, boolean_value_at, text_value_at, value_at}
use Rattle.kmip_ttlv.proofs.Numbers.{back_4, back_8, below_4, below_8, again_4, again_8}
use Rattle.kmip_ttlv.proofs.Steps.{text_right}

abbrev done : {A : Type 0} → A → Result A TtlvFault
done x = Ok x

pub ok_is : {A : Type 0} (x y : A) → done x ≡ done y → x ≡ y
ok_is x y e = cc

-- the value of a step that did not fail
pub bind_ok : {A B : Type 0} (r : Result A TtlvFault) (f : A → Result B TtlvFault) (y : B) → (r >>= f) ≡ Ok y → (x : A) × (r ≡ Ok x) × (f x ≡ Ok y)
bind_ok (Ok x) f y e = (x, refl, e)
bind_ok (Err d) f y e = absurd cc

-- content is a value of this type, without children
pub record IsLeaf (type : ItemType) (value : List ℕ) (content : Content) : Type 0 where
  pub type_is : type_of content ≡ type
  pub spelled : SpelledValue content value
  pub flat : content_depth content ≡ 0

-- ---- numbers

abbrev cast_4 : List ℕ → ℤ
cast_4 value = cast_signed w32 (big_number 4 value)

abbrev cast_8 : List ℕ → ℤ
cast_8 value = cast_signed w64 (big_number 8 value)

signed_4 : (value : List ℕ) → IsBytes value → length value ≡ 4 → FitsSigned w32 (cast_4 value) × (value ≡ big_bytes 4 (cast_unsigned w32 (cast_4 value)))
signed_4 value bytes len =
    (read_sfits w32 (big_number 4 value), sym (back_4 value len bytes) ∙ ap (big_bytes 4) (sym (of_z-to_z w32 (big_number 4 value) (below_4 value bytes))))

signed_8 : (value : List ℕ) → IsBytes value → length value ≡ 8 → FitsSigned w64 (cast_8 value) × (value ≡ big_bytes 8 (cast_unsigned w64 (cast_8 value)))
signed_8 value bytes len =
    (read_sfits w64 (big_number 8 value), sym (back_8 value len bytes) ∙ ap (big_bytes 8) (sym (of_z-to_z w64 (big_number 8 value) (below_8 value bytes))))

again_signed_4 : (z : ℤ) → FitsSigned w32 z → cast_4 (big_bytes 4 (cast_unsigned w32 z)) ≡ z
again_signed_4 z fits = ap (cast_signed w32) (again_4 (cast_unsigned w32 z) (Fits-of_z {w = w32} {z = z} fits).fits) ∙ to_z-of_z w32 z fits

again_signed_8 : (z : ℤ) → FitsSigned w64 z → cast_8 (big_bytes 8 (cast_unsigned w64 z)) ≡ z
again_signed_8 z fits = ap (cast_signed w64) (again_8 (cast_unsigned w64 z) (Fits-of_z {w = w64} {z = z} fits).fits) ∙ to_z-of_z w64 z fits

-- ---- truths and texts

boolean_takes : (at n : ℕ) (b : Bool) → boolean_value_at at n ≡ Ok b → n ≡ from_bool b
unfolding boolean_value_at
boolean_takes at zero b e = ap from_bool (ok_is false b e)
boolean_takes at (suc zero) b e = ap from_bool (ok_is true b e)
boolean_takes at (suc (suc n)) b e = absurd cc

small : (b : Bool) → from_bool b < 2 ^ 64
small false = omega arith
small true = omega arith

boolean_again : (at : ℕ) (b : Bool) → boolean_value_at at (from_bool b) ≡ Ok b
unfolding boolean_value_at
boolean_again at false = refl
boolean_again at true = refl

text_checked : (test : Bool) (fault : TtlvFault) (value text : List ℕ) → is_utf8 value ≡ test → cond test (done value) (Err fault) ≡ Ok text → (value ≡ text) × IsUtf8 text
text_checked true fault value text is e =
    let same : value ≡ text = ok_is value text e in (same, subst IsUtf8 same (IsUtf8-from_is_utf8 value is))
text_checked false fault value text is e = absurd cc

text_takes : (at : ℕ) (value text : List ℕ) → text_value_at at value ≡ Ok text → (value ≡ text) × IsUtf8 text
unfolding text_value_at
text_takes at value text e = text_checked (is_utf8 value) (faults.BadText at) value text refl e

-- ---- what is read is spelled so

leaf_is : (type : ItemType) (value : List ℕ) (leaf content : Content) → IsLeaf type value leaf → done leaf ≡ Ok content → IsLeaf type value content
leaf_is type value leaf content is e = subst (λ (c : Content). IsLeaf type value c) (ok_is leaf content e) is

pub leaf_takes : (reader : Reader) (at : ℕ) (type : ItemType) (value : List ℕ) (content : Content) → IsBytes value → is_allowed type (length value) ≡ true
    → (type ≡ types.Structure → ⊥) → value_at reader at type value ≡ Ok content → IsLeaf type value content
unfolding value_at
leaf_takes reader at types.Structure value content bytes allowed leaf e = absurd (leaf refl)
leaf_takes reader at types.Integer value content bytes allowed leaf e =
    leaf_is types.Integer value (integer (cast_4 value)) content
    (record { type_is = refl; spelled = signed_4 value bytes (eqb-true _ _ allowed); flat = refl }) e
leaf_takes reader at types.LongInteger value content bytes allowed leaf e =
    leaf_is types.LongInteger value (long_integer (cast_8 value)) content
    (record { type_is = refl; spelled = signed_8 value bytes (eqb-true _ _ allowed); flat = refl }) e
leaf_takes reader at types.BigInteger value content bytes allowed leaf e =
    let parts = and_parts (ltb 0 (length value)) (eqb (length value % 8) 0) allowed in
    leaf_is types.BigInteger value (big_integer value) content
    (record { type_is = refl; spelled = ((ltb-true _ _ parts.0, eqb-true _ _ parts.1), refl); flat = refl }) e
leaf_takes reader at types.Enumeration value content bytes allowed leaf e =
    leaf_is types.Enumeration value (enumeration (big_number 4 value)) content
    (record { type_is = refl; spelled = (below_4 value bytes, sym (back_4 value (eqb-true _ _ allowed) bytes)); flat = refl }) e
leaf_takes reader at types.Boolean value content bytes allowed leaf e =
    let b = bind_ok (boolean_value_at at (big_number 8 value)) (λ truth. Ok (boolean truth)) content e in
    let number : big_number 8 value ≡ from_bool b.0 = boolean_takes at (big_number 8 value) b.0 b.1 in
    leaf_is types.Boolean value (boolean b.0) content
    (record { type_is = refl; spelled = (tt, sym (back_8 value (eqb-true _ _ allowed) bytes) ∙ ap (big_bytes 8) number); flat = refl }) b.2
leaf_takes reader at types.TextString value content bytes allowed leaf e =
    let b = bind_ok (text_value_at at value) (λ text. Ok (text_string text)) content e in
    let text = text_takes at value b.0 b.1 in
    leaf_is types.TextString value (text_string b.0) content
    (record { type_is = refl; spelled = (text.1, text.0); flat = refl }) b.2
leaf_takes reader at types.ByteString value content bytes allowed leaf e =
    leaf_is types.ByteString value (byte_string value) content
    (record { type_is = refl; spelled = (tt, refl); flat = refl }) e
leaf_takes reader at types.DateTime value content bytes allowed leaf e =
    leaf_is types.DateTime value (date_time (cast_8 value)) content
    (record { type_is = refl; spelled = signed_8 value bytes (eqb-true _ _ allowed); flat = refl }) e
leaf_takes reader at types.Interval value content bytes allowed leaf e =
    leaf_is types.Interval value (interval (big_number 4 value)) content
    (record { type_is = refl; spelled = (below_4 value bytes, sym (back_4 value (eqb-true _ _ allowed) bytes)); flat = refl }) e
leaf_takes reader at types.DateTimeExtended value content bytes allowed leaf e =
    leaf_is types.DateTimeExtended value (date_time_extended (cast_8 value)) content
    (record { type_is = refl; spelled = signed_8 value bytes (eqb-true _ _ allowed); flat = refl }) e

-- ---- what is spelled so is read

-- the content of this value is read, and its length is allowed
pub record IsReadAgain (reader : Reader) (at : ℕ) (content : Content) (value : List ℕ) : Type 0 where
  pub read : value_at reader at (type_of content) value ≡ Ok content
  pub allowed : is_allowed (type_of content) (length value) ≡ true

-- the content of its own value is
read_of : (reader : Reader) (at : ℕ) (content : Content) (value : List ℕ) → value ≡ value_bytes content → value_at reader at (type_of content) (value_bytes content) ≡ Ok content
    → is_allowed (type_of content) (length (value_bytes content)) ≡ true → IsReadAgain reader at content value
read_of reader at content value is read allowed =
    record { read = ap (value_at reader at (type_of content)) is ∙ read; allowed = ap (λ (v : List ℕ). is_allowed (type_of content) (length v)) is ∙ allowed }

pub integer_again : (reader : Reader) (at : ℕ) (z : ℤ) (value : List ℕ) → SpelledValue (integer z) value → IsReadAgain reader at (integer z) value
unfolding value_at
integer_again reader at z value spelled = read_of reader at (integer z) value spelled.1 (ap (λ (y : ℤ). Ok (integer y)) (again_signed_4 z spelled.0)) refl

pub long_integer_again : (reader : Reader) (at : ℕ) (z : ℤ) (value : List ℕ) → SpelledValue (long_integer z) value → IsReadAgain reader at (long_integer z) value
unfolding value_at
long_integer_again reader at z value spelled =
    read_of reader at (long_integer z) value spelled.1 (ap (λ (y : ℤ). Ok (long_integer y)) (again_signed_8 z spelled.0)) refl

pub big_integer_again : (reader : Reader) (at : ℕ) (octets value : List ℕ) → SpelledValue (big_integer octets) value → IsReadAgain reader at (big_integer octets) value
unfolding value_at
big_integer_again reader at octets value spelled =
    read_of reader at (big_integer octets) value spelled.1 refl (and_from _ _ (lt-ltb _ _ spelled.0.0) (eq-eqb _ _ spelled.0.1))

pub enumeration_again : (reader : Reader) (at n : ℕ) (value : List ℕ) → SpelledValue (enumeration n) value → IsReadAgain reader at (enumeration n) value
unfolding value_at
enumeration_again reader at n value spelled = read_of reader at (enumeration n) value spelled.1 (ap (λ (y : ℕ). Ok (enumeration y)) (again_4 n spelled.0)) refl

pub boolean_read_again : (reader : Reader) (at : ℕ) (b : Bool) (value : List ℕ) → SpelledValue (boolean b) value → IsReadAgain reader at (boolean b) value
unfolding value_at
boolean_read_again reader at b value spelled =
    read_of reader at (boolean b) value spelled.1 (rw (again_8 (from_bool b) (small b), boolean_again at b) refl) refl

pub text_again : (reader : Reader) (at : ℕ) (text value : List ℕ) → SpelledValue (text_string text) value → IsReadAgain reader at (text_string text) value
unfolding value_at
text_again reader at text value spelled = read_of reader at (text_string text) value spelled.1 (rw (text_right at text spelled.0) refl) refl

pub byte_string_again : (reader : Reader) (at : ℕ) (octets value : List ℕ) → SpelledValue (byte_string octets) value → IsReadAgain reader at (byte_string octets) value
unfolding value_at
byte_string_again reader at octets value spelled = read_of reader at (byte_string octets) value spelled.1 refl refl

pub date_time_again : (reader : Reader) (at : ℕ) (z : ℤ) (value : List ℕ) → SpelledValue (date_time z) value → IsReadAgain reader at (date_time z) value
unfolding value_at
date_time_again reader at z value spelled = read_of reader at (date_time z) value spelled.1 (ap (λ (y : ℤ). Ok (date_time y)) (again_signed_8 z spelled.0)) refl

pub interval_again : (reader : Reader) (at n : ℕ) (value : List ℕ) → SpelledValue (interval n) value → IsReadAgain reader at (interval n) value
unfolding value_at
interval_again reader at n value spelled = read_of reader at (interval n) value spelled.1 (ap (λ (y : ℕ). Ok (interval y)) (again_4 n spelled.0)) refl

pub extended_again : (reader : Reader) (at : ℕ) (z : ℤ) (value : List ℕ) → SpelledValue (date_time_extended z) value → IsReadAgain reader at (date_time_extended z) value
unfolding value_at
extended_again reader at z value spelled =
    read_of reader at (date_time_extended z) value spelled.1 (ap (λ (y : ℤ). Ok (date_time_extended y)) (again_signed_8 z spelled.0)) refl

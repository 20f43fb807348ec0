-- The types of TTLV: their numbers, and the lengths that a value of each may have.
-- Source: KMIP 2.1, TTLV Encoding, Type and Length. Own (choice): the standard asks that the length of a Big
-- Integer is a multiple of eight, and here it is not zero.
use Rattle.std.specs.Prelude.{ℕ, zero, suc, Bool, true, ◌==◌, ◌%◌, ◌&&◌, nat_lt, Option, Some, None}
use Rattle.kmip_ttlv.specs.declared.item_type.ItemType.{ItemType}
use Rattle.kmip_ttlv.specs.declared.item_type.ItemType.TheVariants.{
  Structure,
  Integer,
  LongInteger,
  BigInteger,
  Enumeration,
  Boolean,
  TextString,
  ByteString,
  DateTime,
  Interval,
  DateTimeExtended,
}

-- the number of a type
abbrev pub byte_of_type : ItemType → ℕ
byte_of_type Structure = 1
byte_of_type Integer = 2
byte_of_type LongInteger = 3
byte_of_type BigInteger = 4
byte_of_type Enumeration = 5
byte_of_type Boolean = 6
byte_of_type TextString = 7
byte_of_type ByteString = 8
byte_of_type DateTime = 9
byte_of_type Interval = 10
byte_of_type DateTimeExtended = 11

-- the type that has this number, none where there is none
abbrev pub type_of_byte : ℕ → Option ItemType
type_of_byte zero = None
type_of_byte (suc zero) = Some Structure
type_of_byte (suc (suc zero)) = Some Integer
type_of_byte (suc (suc (suc zero))) = Some LongInteger
type_of_byte (suc (suc (suc (suc zero)))) = Some BigInteger
type_of_byte (suc (suc (suc (suc (suc zero))))) = Some Enumeration
type_of_byte (suc (suc (suc (suc (suc (suc zero)))))) = Some Boolean
type_of_byte (suc (suc (suc (suc (suc (suc (suc zero))))))) = Some TextString
type_of_byte (suc (suc (suc (suc (suc (suc (suc (suc zero)))))))) = Some ByteString
type_of_byte (suc (suc (suc (suc (suc (suc (suc (suc (suc zero))))))))) = Some DateTime
type_of_byte (suc (suc (suc (suc (suc (suc (suc (suc (suc (suc zero)))))))))) = Some Interval
type_of_byte (suc (suc (suc (suc (suc (suc (suc (suc (suc (suc (suc zero))))))))))) = Some DateTimeExtended
type_of_byte _ = None

-- Whether a value of this type may have this length. A Big Integer is made of groups of eight bytes, of which
-- there is at least one.
abbrev pub is_allowed : ItemType → ℕ → Bool
is_allowed Structure n = n % 8 == 0
is_allowed Integer n = n == 4
is_allowed LongInteger n = n == 8
is_allowed BigInteger n = nat_lt 0 n && n % 8 == 0
is_allowed Enumeration n = n == 4
is_allowed Boolean n = n == 8
is_allowed TextString n = true
is_allowed ByteString n = true
is_allowed DateTime n = n == 8
is_allowed Interval n = n == 4
is_allowed DateTimeExtended n = n == 8

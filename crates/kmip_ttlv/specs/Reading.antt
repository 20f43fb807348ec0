-- Reading as a function: the item at the front of some bytes, or the first fault.
-- Source: KMIP 2.1, TTLV Encoding. Own (order): the standard says no order of checks, and one fault is to be
-- named. Own (limit): 16 levels and 8,192 bytes.
use Rattle.kmip_ttlv.specs.Limits.{head_size, most_levels}
use Rattle.std.specs.Prelude.{◌≡◌, ℕ, zero, suc, ◌+◌, ◌==◌, ◌⊎◌, Bool, true, false, List, [], ◌∷◌, length, take, drop, if◌then◌else◌, Result, Ok, Err}
use Rattle.std.specs.Int.{w32, w64, cast_signed}
use Rattle.std.specs.Str.{is_utf8}
use Rattle.byteorder.specs.Endian.{big_number}
use Rattle.kmip_ttlv.specs.declared.ttlv_fault.TtlvFault.{TtlvFault}
use Rattle.kmip_ttlv.specs.declared.ttlv_fault.TtlvFault.TheVariants.{BadBoolean, BadText, TooDeep, NoMemory}
use Rattle.kmip_ttlv.specs.declared.item.Item.{Item}
use Rattle.kmip_ttlv.specs.declared.item_type.ItemType.{ItemType}
use Rattle.kmip_ttlv.specs.declared.item_type.ItemType.TheVariants.{Structure, Integer, LongInteger, BigInteger, Enumeration, Boolean, TextString, ByteString, DateTime, Interval, DateTimeExtended}
use Rattle.kmip_ttlv.specs.Node.{Node, node, Content, structure, integer, long_integer, big_integer, enumeration, boolean, text_string, byte_string, date_time, interval, date_time_extended, nodes_of}
use Rattle.kmip_ttlv.specs.View.{view}
use Rattle.kmip_ttlv.specs.Sizes.{padded}
use Rattle.kmip_ttlv.specs.Heads.{head_at}
use Rattle.kmip_ttlv.specs.Binding.{◌>>=◌}

-- A reader: from an offset and the bytes that begin there, the item at their front and its size, or a fault.
abbrev pub Reader : Type 0
Reader = ℕ → List ℕ → Result (Node × ℕ) TtlvFault

-- The items that take up all of the bytes, one after another, or the first fault of one. The first number is
-- the most items that are read. Each has at least one byte, so that as many as there are bytes suffice.
unfoldable pub all_at : Reader → ℕ → ℕ → List ℕ → Result (List Node) TtlvFault
all_at reader zero at bytes = Ok []
all_at reader (suc most) at [] = Ok []
all_at reader (suc most) at (b ∷ bs) = do
  first ← reader at (b ∷ bs)
  others ← all_at reader most (at + first.1) (drop first.1 (b ∷ bs))
  Ok (first.0 ∷ others)

-- The truth that this number of a Boolean is: 0 is false, 1 is true, and another is at fault.
unfoldable pub boolean_value_at : ℕ → ℕ → Result Bool TtlvFault
boolean_value_at at zero = Ok false
boolean_value_at at (suc zero) = Ok true
boolean_value_at at (suc (suc n)) = Err (BadBoolean at)

-- The text that these bytes are, where they are UTF-8.
unfoldable pub text_value_at : ℕ → List ℕ → Result (List ℕ) TtlvFault
text_value_at at text = if is_utf8 text then Ok text else Err (BadText at)

-- The content that the bytes of a value are by its type, or the first fault. The offset is that of the item.
-- A child of a Structure is read by this reader.
unfoldable pub value_at : Reader → ℕ → ItemType → List ℕ → Result Content TtlvFault
value_at reader at Structure value = do
  items ← all_at reader (length value) (at + head_size) value
  Ok (structure (nodes_of items))
value_at reader at Integer value = Ok (integer (cast_signed w32 (big_number 4 value)))
value_at reader at LongInteger value = Ok (long_integer (cast_signed w64 (big_number 8 value)))
value_at reader at BigInteger value = Ok (big_integer value)
value_at reader at Enumeration value = Ok (enumeration (big_number 4 value))
value_at reader at Boolean value = do
  truth ← boolean_value_at at (big_number 8 value)
  Ok (boolean truth)
value_at reader at TextString value = do
  text ← text_value_at at value
  Ok (text_string text)
value_at reader at ByteString value = Ok (byte_string value)
value_at reader at DateTime value = Ok (date_time (cast_signed w64 (big_number 8 value)))
value_at reader at Interval value = Ok (interval (big_number 4 value))
value_at reader at DateTimeExtended value = Ok (date_time_extended (cast_signed w64 (big_number 8 value)))

-- The item at the front of the bytes and its size with the padding, or the first fault. The bytes begin at
-- this offset and end where the item's parent does. The first number counts the levels that are left: 16 for
-- the outermost item.
unfoldable pub item_at : ℕ → ℕ → List ℕ → Result (Node × ℕ) TtlvFault
item_at zero at bytes = Err (TooDeep at)
item_at (suc left) at bytes = do
  found ← head_at (suc left == most_levels) at bytes
  content ← value_at (item_at left) at found.1 (take found.2 (drop head_size bytes))
  Ok (node found.0 content, head_size + padded found.2)

-- ---- what the code returns, unless memory ran out; own (view): how a contract sees the code

-- The code's fault is the fault of reading. Of want of memory nothing is said.
abbrev pub FailsContent : {Y : Type 0} → TtlvFault → Result Y TtlvFault → Type 0
FailsContent NoMemory read = Unit {0}
FailsContent e read = read ≡ Err e

-- The code returned the item and the size that are read, or the fault of reading, unless memory ran out.
abbrev pub ReadsAs : Result (Item × ℕ) TtlvFault → Result (Node × ℕ) TtlvFault → Type 0
ReadsAs (Ok x) read = read ≡ Ok (view x.0, x.1)
ReadsAs (Err e) read = FailsContent e read

-- The code returned this item and this size, unless memory ran out.
abbrev pub IsRead : Result (Item × ℕ) TtlvFault → Node → ℕ → Type 0
IsRead (Ok x) n size = (view x.0 ≡ n) × (x.1 ≡ size)
IsRead (Err e) n size = e ≡ NoMemory

-- The code returned this fault, unless memory ran out. In no case did it return an item.
abbrev pub IsRefused : Result (Item × ℕ) TtlvFault → TtlvFault → Type 0
IsRefused (Ok x) fault = ⊥
IsRefused (Err e) fault = (e ≡ NoMemory) ⊎ (e ≡ fault)

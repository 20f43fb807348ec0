-- What is wrong with bytes at whose front no item stands: the first fault, and where.
-- Source: KMIP 2.1, TTLV Encoding. Own (order): the standard says no order of checks, and one fault is to be
-- named. Own (limit): 16 levels and 8,192 bytes.
use Rattle.kmip_ttlv.specs.Limits.{head_size, most_levels}
use Rattle.std.specs.Prelude.{◌≡◌, ℕ, zero, suc, ◌+◌, ◌<◌, ◌≤◌, ◌==◌, ◌⊎◌, List, ◌++◌, length, take, drop, Ok, Err, IsUtf8}
use Rattle.byteorder.specs.Endian.{big_number}
use Rattle.kmip_ttlv.specs.declared.ttlv_fault.TtlvFault.{TtlvFault}
use Rattle.kmip_ttlv.specs.declared.ttlv_fault.TtlvFault.TheVariants.{BadBoolean, BadText, TooDeep}
use Rattle.kmip_ttlv.specs.declared.item_type.ItemType.{ItemType}
use Rattle.kmip_ttlv.specs.declared.item_type.ItemType.TheVariants.{Structure, Boolean, TextString}
use Rattle.kmip_ttlv.specs.Node.{Nodes}
use Rattle.kmip_ttlv.specs.Fitting.{depths}
use Rattle.kmip_ttlv.specs.Spelling.{SpelledAll}
use Rattle.kmip_ttlv.specs.Heads.{head_at}

-- The fault of the value of a leaf: a Boolean that is neither 0 nor 1, or a text that is not UTF-8.
abbrev pub LeafBreaks : ItemType → ℕ → List ℕ → TtlvFault → Type 0
LeafBreaks Boolean at value fault = (2 ≤ big_number 8 value) × (fault ≡ BadBoolean at)
LeafBreaks TextString at value fault = (IsUtf8 value → ⊥) × (fault ≡ BadText at)
LeafBreaks type at value fault = ⊥

-- The fault is the first one of the item at the front of the bytes. They begin at this offset and end where
-- the item's parent does. The first number counts the levels that are left: 16 for the outermost item.
-- Where no level is left, the item is too deep. Else its head is at fault; or its head is right, and its
-- value is at fault. A leaf's value is at fault as `LeafBreaks` says. A Structure's is at fault where, after
-- none or some whole children, the next child is at fault.
unfoldable pub Breaks : ℕ → ℕ → List ℕ → TtlvFault → Type 0
Breaks zero at bytes fault = fault ≡ TooDeep at
Breaks (suc left) at bytes fault =
    (head_at (suc left == most_levels) at bytes ≡ Err fault)
    ⊎ ((tag : ℕ) × (type : ItemType) × (len : ℕ) × (value : List ℕ)
    × (head_at (suc left == most_levels) at bytes ≡ Ok (tag, type, len)) × (value ≡ take len (drop head_size bytes))
    × (LeafBreaks type at value fault
    ⊎ ((type ≡ Structure) × (children : Nodes) × (front : List ℕ) × (rest : List ℕ)
    × SpelledAll children front × (depths children ≤ left) × (value ≡ front ++ rest) × (0 < length rest)
    × Breaks left (at + head_size + length front) rest fault)))

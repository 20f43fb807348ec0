-- What is spelled so is read.
use Rattle.std.proofs.Common.{◌≡◌, ℕ, ◌+◌, ◌-◌, ◌≤◌, ◌<◌, ◌^◌, ◌%◌, eqb, List, ◌++◌, length, take, drop, Ok, refl, sym, ap, subst, ◌∙◌, arith}
use Rattle.std.proofs.lemmas.Bool.{eq-eqb, eqb-true}
use Rattle.std.proofs.lemmas.List.{length-append, length-replicate, drop_at}
use Rattle.kmip_ttlv.specs.Node.{Node, node, Content, structure, integer, long_integer, big_integer, enumeration, boolean, text_string, byte_string, date_time, interval, date_time_extended, Nodes, no_more, more, list_of}
use Rattle.kmip_ttlv.specs.Fitting.{IsInRange, IsContentInRange, AreInRange, depth, content_depth, depths}
use Rattle.kmip_ttlv.specs.Spelling.{padding, item_bytes, zeros, type_of, canon, value_bytes, canons, Spelled, SpelledValue, SpelledAll}
use Rattle.kmip_ttlv.specs.Sizes.{padded}
use Rattle.kmip_ttlv.specs.Reading.{Reader, all_at, value_at, item_at}
use Rattle.kmip_ttlv.proofs.Views.{nodes_of-list_of}
use Rattle.kmip_ttlv.proofs.Lengths.{length-item_bytes}
use Rattle.kmip_ttlv.proofs.SoFar.{one_at, none_left}
use Rattle.kmip_ttlv.proofs.Steps.{value_next}
use Rattle.kmip_ttlv.proofs.Leaves.{
  IsReadAgain,
  integer_again,
  long_integer_again,
  big_integer_again,
  enumeration_again,
  boolean_read_again,
  text_again,
  byte_string_again,
  date_time_again,
  interval_again,
  extended_again,
}
use Rattle.kmip_ttlv.proofs.Heads.{head_found, has_head, value_again}

-- ---- lengths

pub spelled_whole : (n : Node) (bytes : List ℕ) → Spelled n bytes → length bytes % 8 ≡ 0
spelled_whole (node tag content) bytes spelled =
    omega (arith, ap length spelled.5, length-item_bytes tag (type_of content) spelled.1 spelled.2, spelled.4)

pub spelled_some : (n : Node) (bytes : List ℕ) → Spelled n bytes → 8 ≤ length bytes
spelled_some (node tag content) bytes spelled =
    omega (arith, ap length spelled.5, length-item_bytes tag (type_of content) spelled.1 spelled.2)

pub all_whole : (ns : Nodes) (bytes : List ℕ) → SpelledAll ns bytes → length bytes % 8 ≡ 0
all_whole no_more bytes spelled = ap (λ (x : List ℕ). length x % 8) spelled
all_whole (more n ns) bytes spelled =
    omega (arith, ap length spelled.4, length-append spelled.0 spelled.1, spelled_whole n spelled.0 spelled.2, all_whole ns spelled.1 spelled.3)

-- ---- one step

structure_again : (reader : Reader) (at : ℕ) (ns : Nodes) (value : List ℕ) → length value % 8 ≡ 0 → all_at reader (length value) (at + 8) value ≡ Ok (list_of ns)
    → IsReadAgain reader at (structure ns) value
unfolding value_at
structure_again reader at ns value whole read = record {
  read = rw read (ap (λ (ms : Nodes). Ok (structure ms)) (nodes_of-list_of ns));
  allowed = eq-eqb _ _ whole;
}

item_again_from : (tag : ℕ) (content : Content) (value pad rest : List ℕ) (left at : ℕ) → 0 < left → tag < 2 ^ 24 → length value < 2 ^ 32
    → IsReadAgain (item_at (left - 1)) at content value → length pad ≡ padding (length value)
    → (left ≡ 16 → length (item_bytes tag (type_of content) value pad) ≤ 8192)
    → item_at left at (item_bytes tag (type_of content) value pad ++ rest) ≡ Ok (node tag content, length (item_bytes tag (type_of content) value pad))
item_again_from tag content value pad rest left at some tag_fits len_fits again is_pad short =
    let type = type_of content in
    let bytes = item_bytes tag type value pad in
    let has = has_head (eqb left 16) tag type value pad rest tag_fits len_fits again.allowed is_pad (λ e. short (eqb-true left 16 e)) in
    let here = head_found (eqb left 16) at (bytes ++ rest) tag type (length value) has in
    let read : value_at (item_at (left - 1)) at type (take (length value) (drop 8 (bytes ++ rest))) ≡ Ok content =
    ap (value_at (item_at (left - 1)) at type) (value_again tag type value pad rest) ∙ again.read in
    let size : 8 + padded (length value) ≡ length bytes = omega (arith, length-item_bytes tag type value pad, is_pad) in
    value_next left at (bytes ++ rest) tag type (length value) some here ∙ rw read (ap (λ (k : ℕ). Ok (node tag content, k)) size)

one_again : (left most at : ℕ) (n : Node) (ns : Nodes) (bytes first others : List ℕ) → bytes ≡ first ++ others → 0 < length bytes → 0 < most
    → item_at left at (first ++ others) ≡ Ok (n, length first) → all_at (item_at left) (most - 1) (at + length first) others ≡ Ok (list_of ns)
    → all_at (item_at left) most at bytes ≡ Ok (list_of (more n ns))
one_again left most at n ns bytes first others is full some one all =
    let here : item_at left at bytes ≡ Ok (n, length first) = ap (item_at left at) is ∙ one in
    let after : drop (length first) bytes ≡ others = ap (drop (length first)) is ∙ drop_at first others (length first) refl in
    one_at (item_at left) most at bytes full some ∙ rw (here, after, all) refl

-- ---- all levels

mutual
  pub item_again : (n : Node) (bytes rest : List ℕ) (left at : ℕ) → Spelled n bytes → depth n ≤ left → left ≤ 16 → length bytes < 2 ^ 32
      → (left ≡ 16 → length bytes ≤ 8192) → item_at left at (bytes ++ rest) ≡ Ok (n, length bytes)
  item_again (node tag content) bytes rest left at spelled deep levels wide short =
      let value = spelled.1 in
      let pad = spelled.2 in
      let whole = item_bytes tag (type_of content) value pad in
      let size : length whole ≡ 8 + (length value + length pad) = length-item_bytes tag (type_of content) value pad in
      let same : length bytes ≡ length whole = ap length spelled.5 in
      let again = value_read_again content value (left - 1) at spelled.3 (omega arith) (omega arith) (omega arith) in
      subst (λ (x : List ℕ). item_at left at (x ++ rest) ≡ Ok (node tag content, length x)) (sym spelled.5)
      (item_again_from tag content value pad rest left at (omega arith) spelled.0 (omega arith) again spelled.4 (λ e. omega (arith, short e)))

  value_read_again : (content : Content) (value : List ℕ) (left at : ℕ) → SpelledValue content value → content_depth content ≤ left → left < 16 → length value < 2 ^ 32
      → IsReadAgain (item_at left) at content value
  value_read_again (structure ns) value left at spelled deep levels wide =
      structure_again (item_at left) at ns value (all_whole ns value spelled) (all_again ns value left (length value) (at + 8) spelled deep levels wide (omega arith))
  value_read_again (integer z) value left at spelled deep levels wide = integer_again (item_at left) at z value spelled
  value_read_again (long_integer z) value left at spelled deep levels wide = long_integer_again (item_at left) at z value spelled
  value_read_again (big_integer octets) value left at spelled deep levels wide = big_integer_again (item_at left) at octets value spelled
  value_read_again (enumeration n) value left at spelled deep levels wide = enumeration_again (item_at left) at n value spelled
  value_read_again (boolean b) value left at spelled deep levels wide = boolean_read_again (item_at left) at b value spelled
  value_read_again (text_string text) value left at spelled deep levels wide = text_again (item_at left) at text value spelled
  value_read_again (byte_string octets) value left at spelled deep levels wide = byte_string_again (item_at left) at octets value spelled
  value_read_again (date_time z) value left at spelled deep levels wide = date_time_again (item_at left) at z value spelled
  value_read_again (interval n) value left at spelled deep levels wide = interval_again (item_at left) at n value spelled
  value_read_again (date_time_extended z) value left at spelled deep levels wide = extended_again (item_at left) at z value spelled

  pub all_again : (ns : Nodes) (bytes : List ℕ) (left most at : ℕ) → SpelledAll ns bytes → depths ns ≤ left → left < 16 → length bytes < 2 ^ 32 → length bytes ≤ most
      → all_at (item_at left) most at bytes ≡ Ok (list_of ns)
  all_again no_more bytes left most at spelled deep levels wide enough =
      ap (all_at (item_at left) most at) spelled ∙ none_left (item_at left) most at
  all_again (more n ns) bytes left most at spelled deep levels wide enough =
      let first = spelled.0 in
      let others = spelled.1 in
      let size : length bytes ≡ length first + length others = ap length spelled.4 ∙ length-append first others in
      let some = spelled_some n first spelled.2 in
      one_again left most at n ns bytes first others spelled.4 (omega arith) (omega arith)
      (item_again n first others left at spelled.2 (omega arith) (omega arith) (omega arith) (λ e. omega (arith, e)))
      (all_again ns others left (most - 1) (at + length first) spelled.3 (omega arith) levels (omega arith) (omega arith))

-- ---- the written form is a spelling

mutual
  pub canon_spelled : (n : Node) → IsInRange n → Spelled n (canon n)
  canon_spelled (node tag content) ranges =
      let value = value_bytes content in
      (ranges.0, value, zeros (padding (length value)), value_spelled content ranges.1, length-replicate (padding (length value)) 0, refl)

  value_spelled : (content : Content) → IsContentInRange content → SpelledValue content (value_bytes content)
  value_spelled (structure ns) ranges = canons_spelled ns ranges
  value_spelled (integer z) ranges = (ranges, refl)
  value_spelled (long_integer z) ranges = (ranges, refl)
  value_spelled (big_integer octets) ranges = (ranges, refl)
  value_spelled (enumeration n) ranges = (ranges, refl)
  value_spelled (boolean b) ranges = (ranges, refl)
  value_spelled (text_string text) ranges = (ranges, refl)
  value_spelled (byte_string octets) ranges = (ranges, refl)
  value_spelled (date_time z) ranges = (ranges, refl)
  value_spelled (interval n) ranges = (ranges, refl)
  value_spelled (date_time_extended z) ranges = (ranges, refl)

  pub canons_spelled : (ns : Nodes) → AreInRange ns → SpelledAll ns (canons ns)
  canons_spelled no_more ranges = refl
  canons_spelled (more n ns) ranges = (canon n, canons ns, canon_spelled n ranges.0, canons_spelled ns ranges.1, refl)

-- ---- what is spelled is in range

mutual
  pub spelled_range : (n : Node) (bytes : List ℕ) → Spelled n bytes → IsInRange n
  spelled_range (node tag content) bytes spelled = (spelled.0, value_range content spelled.1 spelled.3)

  value_range : (content : Content) (value : List ℕ) → SpelledValue content value → IsContentInRange content
  value_range (structure ns) value spelled = all_range ns value spelled
  value_range (integer z) value spelled = spelled.0
  value_range (long_integer z) value spelled = spelled.0
  value_range (big_integer octets) value spelled = spelled.0
  value_range (enumeration n) value spelled = spelled.0
  value_range (boolean b) value spelled = spelled.0
  value_range (text_string text) value spelled = spelled.0
  value_range (byte_string octets) value spelled = spelled.0
  value_range (date_time z) value spelled = spelled.0
  value_range (interval n) value spelled = spelled.0
  value_range (date_time_extended z) value spelled = spelled.0

  pub all_range : (ns : Nodes) (bytes : List ℕ) → SpelledAll ns bytes → AreInRange ns
  all_range no_more bytes spelled = tt
  all_range (more n ns) bytes spelled = (spelled_range n spelled.0 spelled.2, all_range ns spelled.1 spelled.3)

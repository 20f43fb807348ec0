-- How long the written form of an item is.
use Rattle.std.proofs.Common.{◌≡◌, ℕ, ◌+◌, ◌%◌, ◌≤◌, List, ◌++◌, length, refl, ap, ◌∙◌, arith}
use Rattle.std.proofs.lemmas.List.{length-append, length-replicate, append-nil}
use Rattle.kmip_ttlv.specs.declared.item_type.ItemType.{ItemType}
use Rattle.kmip_ttlv.specs.declared.item_type.ItemType.TheVariants.{Structure}
use Rattle.kmip_ttlv.specs.Node.{
  Node,
  node,
  Content,
  structure,
  integer,
  long_integer,
  big_integer,
  enumeration,
  boolean,
  text_string,
  byte_string,
  date_time,
  interval,
  date_time_extended,
  Nodes,
  no_more,
  more,
}
use Rattle.kmip_ttlv.specs.Fitting.{IsInRange, IsContentInRange, AreInRange, HasWholeGroups, IsMadeOfWholeGroups, HaveWholeGroups, depth}
use Rattle.kmip_ttlv.specs.Spelling.{padding, head, item_bytes, zeros, type_of, canon, canons, value_bytes}
use Rattle.kmip_ttlv.specs.Sizes.{padded, size, content_size, sizes, Fits, IsWritable}

pub padded_whole : (len : ℕ) → padded len % 8 ≡ 0
padded_whole len = omega arith

pub whole_padded : (len : ℕ) → len % 8 ≡ 0 → padded len ≡ len
whole_padded len whole = omega arith

pub padding_whole : (len : ℕ) → len % 8 ≡ 0 → padding len ≡ 0
padding_whole len whole = omega arith

pub length-head : (tag : ℕ) (type : ItemType) (len : ℕ) → length (head tag type len) ≡ 8
unfolding head
length-head tag type len = refl

pub length-item_bytes : (tag : ℕ) (type : ItemType) (value pad : List ℕ) → length (item_bytes tag type value pad) ≡ 8 + (length value + length pad)
length-item_bytes tag type value pad =
    length-append (head tag type (length value) ++ value) pad
    ∙ omega (arith, length-append (head tag type (length value)) value, length-head tag type (length value))

-- a size is a multiple of eight
mutual
  pub size_whole : (n : Node) → size n % 8 ≡ 0
  size_whole (node tag content) = omega (arith, content_size_whole content)

  pub content_size_whole : (content : Content) → content_size content % 8 ≡ 0
  content_size_whole (structure items) = sizes_whole items
  content_size_whole (integer z) = refl
  content_size_whole (long_integer z) = refl
  content_size_whole (big_integer octets) = padded_whole (length octets)
  content_size_whole (enumeration n) = refl
  content_size_whole (boolean b) = refl
  content_size_whole (text_string text) = padded_whole (length text)
  content_size_whole (byte_string octets) = padded_whole (length octets)
  content_size_whole (date_time z) = refl
  content_size_whole (interval n) = refl
  content_size_whole (date_time_extended z) = refl

  pub sizes_whole : (ns : Nodes) → sizes ns % 8 ≡ 0
  sizes_whole no_more = refl
  sizes_whole (more n ns) = omega (arith, size_whole n, sizes_whole ns)

-- The written form has the size that `size` computes.
mutual
  pub length-canon : (n : Node) → length (canon n) ≡ size n
  length-canon (node tag content) =
      let len = length (value_bytes content) in
      let pad : length (zeros (padding len)) ≡ padding len = length-replicate (padding len) 0 in
      length-item_bytes tag (type_of content) (value_bytes content) (zeros (padding len))
      ∙ omega (arith, pad, length-value_bytes content)

  pub length-value_bytes : (content : Content) → padded (length (value_bytes content)) ≡ content_size content
  length-value_bytes (structure items) = omega (arith, length-canons items, sizes_whole items)
  length-value_bytes (integer z) = refl
  length-value_bytes (long_integer z) = refl
  length-value_bytes (big_integer octets) = refl
  length-value_bytes (enumeration n) = refl
  length-value_bytes (boolean b) = refl
  length-value_bytes (text_string text) = refl
  length-value_bytes (byte_string octets) = refl
  length-value_bytes (date_time z) = refl
  length-value_bytes (interval n) = refl
  length-value_bytes (date_time_extended z) = refl

  pub length-canons : (ns : Nodes) → length (canons ns) ≡ sizes ns
  length-canons no_more = refl
  length-canons (more n ns) = length-append (canon n) (canons ns) ∙ omega (arith, length-canon n, length-canons ns)

-- an item in range, by its depth and its size
pub fits_of : (n : Node) → IsInRange n → depth n ≤ 16 → size n ≤ 8192 → Fits n
fits_of n ranges deep fits = (ranges, deep, omega (arith, length-canon n))

pub size_fits : (n : Node) → Fits n → size n ≤ 8192
size_fits n fits = omega (arith, fits.2, length-canon n)

-- an item in range has whole groups
mutual
  pub groups_in_range : (n : Node) → IsInRange n → HasWholeGroups n
  groups_in_range (node tag content) h = content_groups_in_range content h.1

  content_groups_in_range : (c : Content) → IsContentInRange c → IsMadeOfWholeGroups c
  content_groups_in_range (structure items) h = all_groups_in_range items h
  content_groups_in_range (integer z) h = tt
  content_groups_in_range (long_integer z) h = tt
  content_groups_in_range (big_integer octets) h = h
  content_groups_in_range (enumeration n) h = tt
  content_groups_in_range (boolean b) h = tt
  content_groups_in_range (text_string text) h = tt
  content_groups_in_range (byte_string octets) h = tt
  content_groups_in_range (date_time z) h = tt
  content_groups_in_range (interval n) h = tt
  content_groups_in_range (date_time_extended z) h = tt

  pub all_groups_in_range : (ns : Nodes) → AreInRange ns → HaveWholeGroups ns
  all_groups_in_range no_more h = tt
  all_groups_in_range (more n ns) h = (groups_in_range n h.0, all_groups_in_range ns h.1)

-- an item of the code, by its depth and its size
pub writable_of : (n : Node) → HasWholeGroups n → depth n ≤ 16 → size n ≤ 8192 → IsWritable n
writable_of n groups deep fits = (groups, deep, omega (arith, length-canon n))

pub size_writable : (n : Node) → IsWritable n → size n ≤ 8192
size_writable n writable = omega (arith, writable.2, length-canon n)

-- a Structure is its head and its items
pub canon-structure : (tag : ℕ) (ns : Nodes) → canon (node tag (structure ns)) ≡ head tag Structure (sizes ns) ++ canons ns
canon-structure tag ns =
    let len : length (canons ns) ≡ sizes ns = length-canons ns in
    let none : padding (length (canons ns)) ≡ 0 = omega (arith, len, sizes_whole ns) in
    ap (λ (k : ℕ). head tag Structure (length (canons ns)) ++ canons ns ++ zeros k) none
    ∙ append-nil (head tag Structure (length (canons ns)) ++ canons ns)
    ∙ ap (λ (k : ℕ). head tag Structure k ++ canons ns) len

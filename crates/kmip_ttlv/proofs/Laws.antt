-- The laws of reading and writing whole items.
use Rattle.std.proofs.Common.{◌≡◌, ℕ, ◌≤◌, List, ◌++◌, length, take, drop, Result, Ok, Err, ◌⊎◌, inl, inr, refl, sym, ap, ◌∙◌, take-append-drop, arith}
use Rattle.std.specs.Prelude.{IfOk, IfErr}
use Rattle.std.proofs.lemmas.List.{length-append, length-take}
use Rattle.kmip_ttlv.specs.declared.ttlv_fault.TtlvFault.{TtlvFault}
use Rattle.kmip_ttlv.specs.declared.ttlv_fault.TtlvFault.TheVariants as faults
use Rattle.kmip_ttlv.specs.declared.item.Item.{Item}
use Rattle.kmip_ttlv.specs.Node.{
  Node,
  node,
  Content,
  structure,
  integer,
  long_integer,
  big_integer,
  enumeration,
  boolean,
  text_string,
  byte_string,
  date_time,
  interval,
  date_time_extended,
  Nodes,
  no_more,
  more,
}
use Rattle.kmip_ttlv.specs.View.{view}
use Rattle.kmip_ttlv.specs.Fitting.{IsBytes, IsInRange}
use Rattle.kmip_ttlv.specs.Spelling.{type_of, canon, Spelled, SpelledValue, SpelledAll, Spells}
use Rattle.kmip_ttlv.specs.Sizes.{padded, size, content_size, sizes, Fits, IsWritable}
use Rattle.kmip_ttlv.specs.Reading.{ReadsAs, IsRead, IsRefused, item_at}
use Rattle.kmip_ttlv.specs.Breaks.{Breaks}
use Rattle.kmip_ttlv.proofs.Lengths.{length-item_bytes, fits_of, sizes_whole, groups_in_range}
use Rattle.kmip_ttlv.proofs.Takes.{item_takes}
use Rattle.kmip_ttlv.proofs.Again.{item_again, canon_spelled, spelled_range}
use Rattle.kmip_ttlv.proofs.Faults.{item_breaks, breaks_item}

-- ---- lists

-- Every spelling of an item is as long as its written form.
mutual
  pub spelled_size : (n : Node) (bytes : List ℕ) → Spelled n bytes → length bytes ≡ size n
  spelled_size (node tag content) bytes spelled =
      omega (arith, ap length spelled.5, length-item_bytes tag (type_of content) spelled.1 spelled.2, spelled.4, value_size content spelled.1 spelled.3)

  value_size : (content : Content) (value : List ℕ) → SpelledValue content value → padded (length value) ≡ content_size content
  value_size (structure items) value spelled = omega (arith, all_sizes items value spelled, sizes_whole items)
  value_size (integer z) value spelled = ap (λ (v : List ℕ). padded (length v)) spelled.1
  value_size (long_integer z) value spelled = ap (λ (v : List ℕ). padded (length v)) spelled.1
  value_size (big_integer octets) value spelled = ap (λ (v : List ℕ). padded (length v)) spelled.1
  value_size (enumeration n) value spelled = ap (λ (v : List ℕ). padded (length v)) spelled.1
  value_size (boolean b) value spelled = ap (λ (v : List ℕ). padded (length v)) spelled.1
  value_size (text_string text) value spelled = ap (λ (v : List ℕ). padded (length v)) spelled.1
  value_size (byte_string octets) value spelled = ap (λ (v : List ℕ). padded (length v)) spelled.1
  value_size (date_time z) value spelled = ap (λ (v : List ℕ). padded (length v)) spelled.1
  value_size (interval n) value spelled = ap (λ (v : List ℕ). padded (length v)) spelled.1
  value_size (date_time_extended z) value spelled = ap (λ (v : List ℕ). padded (length v)) spelled.1

  all_sizes : (ns : Nodes) (bytes : List ℕ) → SpelledAll ns bytes → length bytes ≡ sizes ns
  all_sizes no_more bytes spelled = ap length spelled
  all_sizes (more n ns) bytes spelled =
      omega (arith, ap length spelled.4, length-append spelled.0 spelled.1, spelled_size n spelled.0 spelled.2, all_sizes ns spelled.1 spelled.3)

-- What is read is spelled by the front of the bytes that it takes.
pub item_spelled : (bytes : List ℕ) (x : Node × ℕ) → IsBytes bytes → item_at 16 0 bytes ≡ Ok x → (x.1 ≤ length bytes) × Spells x.0 (take x.1 bytes)
item_spelled bytes x fits read =
    let taken = item_takes 16 0 bytes x fits read in
    (taken.fits, (taken.spelled, taken.deep, omega (arith, length-take x.1 bytes, taken.short refl)))

-- It is in range, and has a written form.
pub item_fits : (bytes : List ℕ) (x : Node × ℕ) → IsBytes bytes → item_at 16 0 bytes ≡ Ok x → Fits x.0
item_fits bytes x fits read =
    let spells = (item_spelled bytes x fits read).1 in
    fits_of x.0 (spelled_range x.0 (take x.1 bytes) spells.0) spells.1 (omega (arith, spelled_size x.0 (take x.1 bytes) spells.0, spells.2))

pub item_range : (bytes : List ℕ) (x : Node × ℕ) → IsBytes bytes → item_at 16 0 bytes ≡ Ok x → IsInRange x.0
item_range bytes x fits read = (item_fits bytes x fits read).0

-- What spells an item is read as that item, whatever follows.
pub spelling_again : (n : Node) (bytes rest : List ℕ) → Spells n bytes → item_at 16 0 (bytes ++ rest) ≡ Ok (n, length bytes)
spelling_again n bytes rest spells = item_again n bytes rest 16 0 spells.0 spells.1 (omega arith) (omega (arith, spells.2)) (λ same. spells.2)

pub canon_spells : (n : Node) → Fits n → Spells n (canon n)
canon_spells n fits = (canon_spelled n fits.0, fits.1, fits.2)

-- The written form is read as the item, whatever follows.
pub canon_again : (n : Node) (rest : List ℕ) → Fits n → item_at 16 0 (canon n ++ rest) ≡ Ok (n, length (canon n))
canon_again n rest fits = spelling_again n (canon n) rest (canon_spells n fits)

-- ---- what the code answers

item_at_front : (n : Node) (count : ℕ) (bytes : List ℕ) → count ≤ length bytes → Spells n (take count bytes) → item_at 16 0 bytes ≡ Ok (n, count)
item_at_front n count bytes fits spells =
    ap (item_at 16 0) (sym (take-append-drop count bytes)) ∙ spelling_again n (take count bytes) (drop count bytes) spells
    ∙ ap (λ (k : ℕ). Ok (n, k)) (omega (arith, length-take count bytes))

abbrev failed : TtlvFault → Result (Node × ℕ) TtlvFault
failed e = Err e

abbrev read_of : Node × ℕ → Result (Node × ℕ) TtlvFault
read_of x = Ok x

same_read : (x y : Node × ℕ) → read_of x ≡ read_of y → x ≡ y
same_read x y e = cc

-- the only answer, where an item is read
only_item : (r : Result (Item × ℕ) TtlvFault) (read : Result (Node × ℕ) TtlvFault) (n : Node) (count : ℕ) → ReadsAs r read → read ≡ Ok (n, count) → IsRead r n count
only_item (Ok x) read n count reads is =
    let same = same_read (view x.0, x.1) (n, count) (sym reads ∙ is) in
    (ap (λ (y : Node × ℕ). y.0) same, ap (λ (y : Node × ℕ). y.1) same)
only_item (Err faults.NoMemory) read n count reads is = refl
only_item (Err e) read n count reads is = let apart : read_of (n, count) ≡ Err e = sym is ∙ reads in absurd cc

pub is_found : (bytes : List ℕ) (r : Result (Item × ℕ) TtlvFault) → IsBytes bytes → ReadsAs r (item_at 16 0 bytes)
    → IfOk r (λ x. (x.1 ≤ length bytes) × Spells (view x.0) (take x.1 bytes))
is_found bytes (Ok x) fits reads = item_spelled bytes (view x.0, x.1) fits reads
is_found bytes (Err e) fits reads = tt

pub is_writable : (bytes : List ℕ) (r : Result (Item × ℕ) TtlvFault) → IsBytes bytes → ReadsAs r (item_at 16 0 bytes) → IfOk r (λ x. IsWritable (view x.0))
is_writable bytes (Ok x) fits reads =
    let written = item_fits bytes (view x.0, x.1) fits reads in
    (groups_in_range (view x.0) written.0, written.1, written.2)
is_writable bytes (Err e) fits reads = tt

pub is_only : (bytes : List ℕ) (r : Result (Item × ℕ) TtlvFault) (n : Node) (count : ℕ) → ReadsAs r (item_at 16 0 bytes) → count ≤ length bytes
    → Spells n (take count bytes) → IsRead r n count
is_only bytes r n count reads fits spells = only_item r (item_at 16 0 bytes) n count reads (item_at_front n count bytes fits spells)

pub is_back : (bytes : List ℕ) (r : Result (Item × ℕ) TtlvFault) (n : Node) (rest : List ℕ) → ReadsAs r (item_at 16 0 bytes) → Fits n → bytes ≡ canon n ++ rest
    → IsRead r n (length (canon n))
is_back bytes r n rest reads fits is = only_item r (item_at 16 0 bytes) n (length (canon n)) reads (ap (item_at 16 0) is ∙ canon_again n rest fits)

pub is_fault : (bytes : List ℕ) (r : Result (Item × ℕ) TtlvFault) → IsBytes bytes → ReadsAs r (item_at 16 0 bytes)
    → IfErr r (λ e. (e ≡ faults.NoMemory) ⊎ Breaks 16 0 bytes e)
is_fault bytes (Ok x) fits reads = tt
is_fault bytes (Err faults.NoMemory) fits reads = inl refl
is_fault bytes (Err e) fits reads = inr (item_breaks 16 0 bytes e fits reads)

refused_as : (r : Result (Item × ℕ) TtlvFault) (read : Result (Node × ℕ) TtlvFault) (e : TtlvFault) → ReadsAs r read → read ≡ Err e → IsRefused r e
refused_as (Ok x) read e reads is = let apart : read_of (view x.0, x.1) ≡ Err e = sym reads ∙ is in absurd cc
refused_as (Err faults.NoMemory) read e reads is = inl refl
refused_as (Err d) read e reads is = let same : failed d ≡ Err e = sym reads ∙ is in inr (cc)

pub is_refused : (bytes : List ℕ) (r : Result (Item × ℕ) TtlvFault) (e : TtlvFault) → IsBytes bytes → ReadsAs r (item_at 16 0 bytes) → Breaks 16 0 bytes e → IsRefused r e
is_refused bytes r e fits reads wrong = refused_as r (item_at 16 0 bytes) e reads (breaks_item 16 0 bytes e (omega arith) fits wrong)

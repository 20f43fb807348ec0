-- The items of a Structure, written one after the other.
use Rattle.std.proofs.Common.{◌≡◌, ℕ, ◌+◌, ◌≤◌, ◌<◌, ◌^◌, List, ◌++◌, length, take, drop, Result, Ok, Err, sym, ap, subst, ◌∙◌, append_assoc, arith}
use Rattle.std.specs.Prelude.{OnOk}
use Rattle.std.proofs.lemmas.List.{append-nil, length-append, length-take, take-take, take-replicate}
use Rattle.std.proofs.Math.Seq.{take-append_seam, drop-append-add, drop-append_seam}
use Rattle.kmip_ttlv.specs.declared.item_type.ItemType.TheVariants.{Structure}
use Rattle.kmip_ttlv.specs.Node.{Node, node, structure, Nodes, no_more, more}
use Rattle.kmip_ttlv.specs.Fitting.{IsInRange, AreInRange, HaveWholeGroups, depths}
use Rattle.kmip_ttlv.specs.Spelling.{head, zeros, padding, canon, canons}
use Rattle.kmip_ttlv.specs.Sizes.{IsWritable, sizes}
use Rattle.kmip_ttlv.proofs.Lengths.{canon-structure, length-canons, writable_of, size_writable}

-- before, eight bytes for the head and the items before rest are what was written; each item of rest has a
-- written form, and all are in range where rest is
pub record AreWritten (before out : List ℕ) (rest whole : Nodes) : Type 0 where
  pub written : out ++ canons rest ≡ before ++ (zeros 8 ++ canons whole)
  pub kept : take (length before) out ≡ before
  pub groups : HaveWholeGroups rest
  pub deep : depths rest ≤ 15
  pub fit : sizes rest ≤ 8184
  pub ranges : AreInRange rest → AreInRange whole

-- what stood before a part that was kept is kept
pub still_kept : (before out next : List ℕ) → take (length before) out ≡ before → take (length out) next ≡ out → take (length before) next ≡ before
still_kept before out next kept kept_next =
    let short : length before ≤ length out = omega (arith, length-take (length before) out, ap length kept) in
    sym (take-take (length before) (length out) next short) ∙ ap (take (length before)) kept_next ∙ kept

-- a Structure of items in range is in range
pub structure_in_range : {A E : Type 0} (answer : Result A E) (n : Node) (tag : ℕ) (ns : Nodes) → n ≡ node tag (structure ns) → tag < 2 ^ 24
    → OnOk answer (AreInRange ns) → OnOk answer (IsInRange n)
structure_in_range (Ok a) n tag ns is tag_fits within = subst IsInRange (sym is) (tag_fits, within)
structure_in_range (Err e) n tag ns is tag_fits within = tt

-- at first there is room for the head
pub room_written : (before out : List ℕ) (tag : ℕ) (whole : Nodes) → IsWritable (node tag (structure whole)) → out ≡ before ++ zeros 8 → AreWritten before out whole whole
room_written before out tag whole fits is = record {
  written = ap (λ (o : List ℕ). o ++ canons whole) is ∙ append_assoc before (zeros 8) (canons whole);
  kept = ap (take (length before)) is ∙ take-append_seam before (zeros 8);
  groups = fits.0;
  deep = omega (arith, fits.1);
  fit = omega (arith, size_writable (node tag (structure whole)) fits);
  ranges = λ within. within;
}

pub child_fits : (before out : List ℕ) (n : Node) (rest whole : Nodes) → AreWritten before out (more n rest) whole → IsWritable n
child_fits before out n rest whole so_far = writable_of n so_far.groups.0 (omega (arith, so_far.deep)) (omega (arith, so_far.fit))

pub child_written : (before out next : List ℕ) (n : Node) (rest whole : Nodes) → AreWritten before out (more n rest) whole
    → next ≡ out ++ canon n → take (length out) next ≡ out → IsInRange n → AreWritten before next rest whole
child_written before out next n rest whole so_far is kept in_range = record {
  written = ap (λ (o : List ℕ). o ++ canons rest) is ∙ append_assoc out (canon n) (canons rest) ∙ so_far.written;
  kept = still_kept before out next so_far.kept kept;
  groups = so_far.groups.1;
  deep = omega (arith, so_far.deep);
  fit = omega (arith, so_far.fit);
  ranges = λ within. so_far.ranges (in_range, within);
}

-- when no item is left, the items stand behind the room for the head
pub all_written : (before out : List ℕ) (whole : Nodes) → AreWritten before out no_more whole → out ≡ before ++ (zeros 8 ++ canons whole)
all_written before out whole so_far = sym (append-nil out) ∙ so_far.written

-- so their size is known
pub length_written : (before out : List ℕ) (whole : Nodes) → AreWritten before out no_more whole → length out ≡ length before + (8 + sizes whole)
length_written before out whole so_far =
    ap length (all_written before out whole so_far) ∙ length-append before (zeros 8 ++ canons whole)
    ∙ ap (λ (k : ℕ). length before + k) (length-append (zeros 8) (canons whole)) ∙ ap (λ (k : ℕ). length before + (8 + k)) (length-canons whole)

-- and with the head in the room the Structure is written
pub head_set : (before out next : List ℕ) (tag len at : ℕ) (whole : Nodes) → AreWritten before out no_more whole → at ≡ length before → len ≡ sizes whole
    → next ≡ take at out ++ head tag Structure len ++ drop (at + 8) out → next ≡ before ++ canon (node tag (structure whole))
head_set before out next tag len at whole so_far place size is =
    let behind : drop (length before + 8) out ≡ canons whole =
    ap (drop (length before + 8)) (all_written before out whole so_far)
    ∙ drop-append-add before (zeros 8 ++ canons whole) 8 ∙ drop-append_seam (zeros 8) (canons whole) in
    is ∙ ap (λ (k : ℕ). take k out ++ head tag Structure len ++ drop (k + 8) out) place
    ∙ ap (λ (o : List ℕ). o ++ head tag Structure len ++ drop (length before + 8) out) so_far.kept
    ∙ ap (λ (o : List ℕ). before ++ head tag Structure len ++ o) behind
    ∙ append_assoc before (head tag Structure len) (canons whole)
    ∙ ap (λ (k : ℕ). before ++ (head tag Structure k ++ canons whole)) size
    ∙ ap (λ (o : List ℕ). before ++ o) (sym (canon-structure tag whole))

-- an item without children is its head, its value and a part of eight zeros
pub leaf_written : (before first value one two three : List ℕ) (pad len : ℕ) → one ≡ before ++ first → two ≡ one ++ value
    → three ≡ two ++ take pad (zeros 8) → pad ≡ padding len → three ≡ before ++ (first ++ value ++ zeros (padding len))
leaf_written before first value one two three pad len is_one is_two is_three is_pad =
    let short : pad ≤ 8 = omega (arith, is_pad) in
    let part : take pad (zeros 8) ≡ zeros (padding len) = take-replicate {X = ℕ} pad 8 0 short ∙ ap zeros is_pad in
    is_three ∙ ap (λ (o : List ℕ). two ++ o) part
    ∙ ap (λ (o : List ℕ). o ++ zeros (padding len)) (is_two ∙ ap (λ (o : List ℕ). o ++ value) is_one)
    ∙ simp append_assoc

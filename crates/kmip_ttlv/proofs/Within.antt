-- The sizes of some items, one after the other.
use Rattle.std.proofs.Common.{◌≡◌, ◌↔◌, ℕ, ◌+◌, ◌-◌, ◌≤◌, ◌<◌, ◌^◌, Option, Some, None, is_some, IsTrue, refl, sym, subst, arith}
use Rattle.kmip_ttlv.specs.Node.{Node, node, structure, Nodes, no_more, more}
use Rattle.kmip_ttlv.specs.Fitting.{AreInRange, HaveWholeGroups, depths}
use Rattle.kmip_ttlv.proofs.Lengths.{fits_of, size_fits, groups_in_range, writable_of, size_writable}
use Rattle.kmip_ttlv.specs.Sizes.{sizes, Fits, IsWritable}
use Rattle.kmip_ttlv.specs.Private.{IsSizeWithin, AreSizesWithin, IsStructureWithin}

-- so many bytes are those of the items before rest, all of which are within the limits
pub record AreSoFar (found levels room : ℕ) (rest whole : Nodes) : Type 0 where
  pub sum : found + sizes rest ≡ sizes whole
  pub fit : found ≤ room
  pub ranges : AreInRange rest → AreInRange whole
  pub depths_up : depths rest ≤ levels → depths whole ≤ levels
  pub groups_back : HaveWholeGroups whole → HaveWholeGroups rest
  pub depths_back : depths whole ≤ levels → depths rest ≤ levels

pub none_yet : (levels room : ℕ) (whole : Nodes) → AreSoFar 0 levels room whole whole
none_yet levels room whole = record {
  sum = omega arith;
  fit = omega arith;
  ranges = λ h. h;
  depths_up = λ h. h;
  groups_back = λ h. h;
  depths_back = λ h. h;
}

pub one_more : (found next levels room : ℕ) (n : Node) (rest whole : Nodes) → IsSizeWithin (Some next) n levels (room - found)
    → AreSoFar found levels room (more n rest) whole → AreSoFar (found + next) levels room rest whole
one_more found next levels room n rest whole one so_far = record {
  sum = omega (arith, one.2, so_far.sum);
  fit = omega (arith, one.3, so_far.fit);
  ranges = λ h. so_far.ranges (one.0, h);
  depths_up = λ h. so_far.depths_up (omega (arith, one.1, h));
  groups_back = λ h. (so_far.groups_back h).1;
  depths_back = λ h. omega (arith, so_far.depths_back h);
}

pub one_not : (found levels room : ℕ) (n : Node) (rest whole : Nodes) → IsSizeWithin None n levels (room - found)
    → AreSoFar found levels room (more n rest) whole → AreSizesWithin None whole levels room
one_not found levels room n rest whole one so_far =
    λ groups deep fits. one (so_far.groups_back groups).0 (omega (arith, so_far.depths_back deep)) (omega (arith, so_far.sum))

pub all_so_far : (found levels room : ℕ) (whole : Nodes) → AreSoFar found levels room no_more whole → AreSizesWithin (Some found) whole levels room
all_so_far found levels room whole so_far = (so_far.ranges tt, so_far.depths_up (omega arith), omega (arith, so_far.sum), so_far.fit)

-- a Structure by the sizes of its items
pub structure_size : (found : Option ℕ) (n : Node) (tag : ℕ) (ns : Nodes) (levels room : ℕ) → n ≡ node tag (structure ns) → tag < 2 ^ 24
    → IsStructureWithin found ns levels room → IsSizeWithin found n levels room
structure_size (Some found) n tag ns levels room is tag_fits within =
    subst (λ (m : Node). IsSizeWithin (Some found) m levels room) (sym is) ((tag_fits, within.0), within.1, within.2, within.3)
structure_size None n tag ns levels room is tag_fits within =
    subst (λ (m : Node). IsSizeWithin None m levels room) (sym is) (λ groups deep fits. within groups deep fits)

-- an item with a size within the limits has a written form
pub fits_where_some : (found : Option ℕ) (n : Node) → IsSizeWithin found n 16 8192 → (IsTrue (is_some found)) ↔ Fits n
fits_where_some (Some found) n within =
    (λ h. fits_of n within.0 within.1 (omega (arith, within.2, within.3)), λ h. refl)
fits_where_some None n within =
    (λ h. absurd cc, λ h. absurd (within (groups_in_range n h.0) h.1 (size_fits n h)))

-- and is an item that can be written
pub writable_where_some : (found : Option ℕ) (n : Node) → IsSizeWithin found n 16 8192 → (IsTrue (is_some found)) ↔ IsWritable n
writable_where_some (Some found) n within =
    (λ h. writable_of n (groups_in_range n within.0) within.1 (omega (arith, within.2, within.3)), λ h. refl)
writable_where_some None n within =
    (λ h. absurd cc, λ h. absurd (within h.0 h.1 (size_writable n h)))

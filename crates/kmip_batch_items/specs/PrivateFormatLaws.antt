-- Private: what makes a format a good one: what is read is what is said, and what is written says it again,
-- with the extent that is told.
-- Source: own (law): what every combinator of formats keeps.
use Rattle.std.specs.Prelude.{◌≡◌, ◌≤◌, ℕ, Bool, true, not, ◌&&◌, ◌==◌, List, [], ◌∷◌, Some, Ok}
use Rattle.std.specs.List.{list_any}
use Rattle.kmip_ttlv.specs.Fitting.{IsMadeOfWholeGroups, HaveWholeGroups, content_depth, depths}
use Rattle.kmip_ttlv.specs.Node.{Node, Content, nodes_of}
use Rattle.kmip_ttlv.specs.Sizes.{sizes}
use Rattle.kmip_batch_items.specs.Formats.{Extent, Format, Kind}
use Rattle.kmip_batch_items.specs.Siblings.{contents}
use Rattle.kmip_batch_items.specs.Occurrences.{HaveTags}

-- The content of a value has that value, and no other content has it.
pub record IsKind {A : Type 0} (k : Kind A) : Type 0 where
  pub made : (a : A) → k.of (k.make a) ≡ Some a
  pub told : (c : Content) (a : A) → k.of c ≡ Some a → k.make a ≡ c

-- The content has no items of its own, and if it is a Big Integer, it is made of groups of eight bytes.
abbrev pub IsFlat : Content → Type 0
IsFlat c = (content_depth c ≡ 0) × IsMadeOfWholeGroups c

-- a type of items whose contents are each that of one value, and are all flat
pub record IsFlatKind {A : Type 0} (k : Kind A) : Type 0 where
  pub kind : IsKind k
  pub flat : (a : A) → IsFlat (k.make a)

-- The items have this size together and at most this many levels, and each Big Integer in them is made of
-- whole groups.
pub record Spans (e : Extent) (ns : List Node) : Type 0 where
  pub long : sizes (nodes_of ns) ≡ e.size
  pub deep : depths (nodes_of ns) ≤ e.depth
  pub groups : HaveWholeGroups (nodes_of ns)

-- Reading gives a value just where the items say it. A value that fits is said by its written form. The items
-- of the written form have the tags of the format, and the extent that it tells.
pub record IsGood {A : Type 0} (f : Format A) : Type 0 where
  pub sound : (ns : List Node) (a : A) → f.read ns ≡ Ok a → f.Says ns a
  pub complete : (ns : List Node) (a : A) → f.Says ns a → f.read ns ≡ Ok a
  pub written : (a : A) → f.fits a ≡ true → f.Says (f.write a) a
  pub has : (a : A) → HaveTags f.tags (f.write a)
  pub spans : (a : A) → Spans (f.extent a) (f.write a)

-- Two lists have the same contents of each of these tags, in the same order.
abbrev pub Agree : List ℕ → List Node → List Node → Type 0
Agree [] ns ms = Unit {0}
Agree (tag ∷ tags) ns ms = (contents tag ns ≡ contents tag ms) × Agree tags ns ms

-- whether none of the tags is among the others
abbrev pub avoid : List ℕ → List ℕ → Bool
avoid [] others = true
avoid (tag ∷ tags) others = not (list_any (λ t. t == tag) others) && avoid tags others

-- whether no tag is among both, asked from either side
abbrev pub apart : List ℕ → List ℕ → Bool
apart tags others = avoid tags others && avoid others tags

-- A good format, to which items of other tags do not matter, so that other parts may stand beside it.
pub record IsPart {A : Type 0} (f : Format A) : Type 0 where
  pub good : IsGood f
  pub looks : (ns ms : List Node) (a : A) → Agree f.tags ns ms → f.Says ns a → f.Says ms a

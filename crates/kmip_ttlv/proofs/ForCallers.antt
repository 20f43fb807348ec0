-- For the lemma files of the crates above, which speak of pure items and bytes that no call stands near: so no clause serves.
use Rattle.std.proofs.Common.{◌≡◌, ℕ, ◌+◌, ◌≤◌, ◌<◌, List, ◌∷◌, ◌++◌, length, take, drop, get_or, Ok}
use Rattle.kmip_ttlv.specs.declared.item.Item.{Item}
use Rattle.kmip_ttlv.specs.Node.{Node, Nodes, nodes_of, list_of}
use Rattle.kmip_ttlv.specs.View.{view, views}
use Rattle.kmip_ttlv.specs.Fitting.{IsBytes, HasWholeGroups, depth}
use Rattle.kmip_ttlv.specs.Spelling.{canon, Spells}
use Rattle.kmip_ttlv.specs.Sizes.{Fits, IsWritable, size}
use Rattle.kmip_ttlv.specs.Reading.{item_at}
use Rattle.kmip_ttlv.proofs.Views as views_of
use Rattle.kmip_ttlv.proofs.Lengths as lengths
use Rattle.kmip_ttlv.proofs.Laws as laws

-- items as those of a Structure, there and back
pub nodes_of-list_of : (ns : Nodes) → nodes_of (list_of ns) ≡ ns
nodes_of-list_of ns = views_of.nodes_of-list_of ns

pub list_of-nodes_of : (ns : List Node) → list_of (nodes_of ns) ≡ ns
list_of-nodes_of ns = views_of.list_of-nodes_of ns

-- the views from a place on begin with the view of the item there
pub views-drop : (xs : List Item) (i : ℕ) (d : Item) → i < length xs
    → views (drop i xs) ≡ view (get_or xs i d) ∷ views (drop (i + 1) xs)
views-drop xs i d h = views_of.views-drop xs i d h

-- an item of the code, by its depth and its size
pub writable_of : (n : Node) → HasWholeGroups n → depth n ≤ 16 → size n ≤ 8192 → IsWritable n
writable_of n groups deep fits = lengths.writable_of n groups deep fits

-- what is read is spelled by the front of the bytes that it takes
pub item_spelled : (bytes : List ℕ) (x : Node × ℕ) → IsBytes bytes → item_at 16 0 bytes ≡ Ok x → (x.1 ≤ length bytes) × Spells x.0 (take x.1 bytes)
item_spelled bytes x fits read = laws.item_spelled bytes x fits read

-- what spells an item is read as that item, whatever follows
pub spelling_again : (n : Node) (bytes rest : List ℕ) → Spells n bytes → item_at 16 0 (bytes ++ rest) ≡ Ok (n, length bytes)
spelling_again n bytes rest spells = laws.spelling_again n bytes rest spells

-- the written form of an item is a spelling of it
pub canon_spells : (n : Node) → Fits n → Spells n (canon n)
canon_spells n fits = laws.canon_spells n fits

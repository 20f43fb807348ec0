-- The view of an item, level by level.
use Rattle.std.proofs.Common.{◌≡◌, ℕ, ◌+◌, ◌<◌, ◌≤◌, List, [], ◌∷◌, length, drop, get_or, Vec, Global, Some, refl, ap, sym, ◌∙◌, rules, add-one, drop-cons}
use Rattle.kmip_ttlv.specs.Node.{Node, node, structure, Nodes, no_more, more, content_of, nodes_of, list_of, as_structure}
use Rattle.std.proofs.lemmas.List.{drop_all}
use Rattle.kmip_ttlv.specs.View.{view, views, content}
use Rattle.kmip_ttlv.specs.declared.item.Item.{Item}
use Rattle.kmip_ttlv.specs.declared.value.Value.{Value, Structure, the_lemmas}

pub nodes_of-list_of : (ns : Nodes) → nodes_of (list_of ns) ≡ ns
nodes_of-list_of no_more = refl
nodes_of-list_of (more n ns) = ap (λ (ms : Nodes). more n ms) (nodes_of-list_of ns)

pub list_of-nodes_of : (ns : List Node) → list_of (nodes_of ns) ≡ ns
list_of-nodes_of [] = refl
list_of-nodes_of (n ∷ ns) = ap (λ ms. n ∷ ms) (list_of-nodes_of ns)

-- a Structure contains the views of its items
pub content-Structure : (v : Vec Item Global) → content (Structure v) ≡ structure (nodes_of (views v.items))
content-Structure v = search (rules, the_lemmas)

-- the items of a Structure that was read from a value
pub items_of-Structure : (i : Item) (v : Vec Item Global) (xs : List Item) → i.value ≡ Structure v → xs ≡ v.items
    → Some (views xs) ≡ as_structure (content_of (view i))
items_of-Structure i v xs is same =
    ap (λ ys. Some (views ys)) same ∙ ap Some (sym (list_of-nodes_of (views v.items)))
    ∙ ap as_structure (sym (content-Structure v)) ∙ ap (λ w. as_structure (content w)) (sym is)

-- a value that is a Structure, by the items that were read from it
pub content-items : (w : Value) (v : Vec Item Global) (xs : List Item) → w ≡ Structure v → xs ≡ v.items → content w ≡ structure (nodes_of (views xs))
content-items w v xs is same = ap content is ∙ content-Structure v ∙ ap (λ ys. structure (nodes_of (views ys))) (sym same)

-- an item whose value is a Structure, as a node
pub view-Structure : (i : Item) (v : Vec Item Global) (xs : List Item) → i.value ≡ Structure v → xs ≡ v.items
    → view i ≡ node i.tag (structure (nodes_of (views xs)))
view-Structure i v xs is same =
    ap (λ w. node i.tag (content w)) is ∙ ap (λ c. node i.tag c) (content-Structure v)
    ∙ ap (λ ys. node i.tag (structure (nodes_of (views ys)))) (sym same)

-- the views from a place on begin with the view of the item there
pub views-drop : (xs : List Item) (i : ℕ) (d : Item) → i < length xs
    → views (drop i xs) ≡ view (get_or xs i d) ∷ views (drop (i + 1) xs)
views-drop xs i d h =
    let e : drop i xs ≡ get_or xs i d ∷ drop (i + 1) xs = rw (add-one, drop-cons xs i d) refl in
    ap views e

-- the nodes from a place on begin with the node of the item there
pub nodes-drop : (xs : List Item) (i : ℕ) (x : Item) → i < length xs → x ≡ get_or xs i x
    → nodes_of (views (drop i xs)) ≡ more (view x) (nodes_of (views (drop (i + 1) xs)))
nodes-drop xs i x h is =
    ap nodes_of (views-drop xs i x h) ∙ ap (λ (y : Item). more (view y) (nodes_of (views (drop (i + 1) xs)))) (sym is)

pub nodes-drop_all : (xs : List Item) (i : ℕ) → length xs ≤ i → nodes_of (views (drop i xs)) ≡ no_more
nodes-drop_all xs i h = ap (λ (ys : List Item). nodes_of (views ys)) (drop_all i xs h)

-- How often an item stands among its siblings, in any order.
-- Source: KMIP 2.1, Message Structure: items that a reader does not use are skipped.
use Rattle.std.specs.Prelude.{◌≡◌, ℕ, List, [], ◌∷◌, Option, Some, None, IsTrue, ◌==◌}
use Rattle.std.specs.List.{list_any}
use Rattle.kmip_ttlv.specs.Node.{Node, Content, tag_of}
use Rattle.kmip_batch_items.specs.Siblings.{contents}

-- Just one of the items has the tag, and this is what it contains.
abbrev pub Once : ℕ → Content → List Node → Type 0
Once tag content ns = contents tag ns ≡ content ∷ []

-- what there is, as a list of none or one
abbrev pub if_any : {A : Type 0} → Option A → List A
if_any None = []
if_any (Some a) = a ∷ []

-- None of the items has the tag and there is no content, or just one has it, and this is what it contains.
abbrev pub AtMostOnce : ℕ → Option Content → List Node → Type 0
AtMostOnce tag content ns = contents tag ns ≡ if_any content

-- Each item has one of these tags.
abbrev pub HaveTags : List ℕ → List Node → Type 0
HaveTags tags [] = Unit {0}
HaveTags tags (n ∷ ns) = IsTrue (list_any (λ t. t == tag_of n) tags) × HaveTags tags ns

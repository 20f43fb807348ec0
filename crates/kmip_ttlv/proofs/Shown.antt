-- The lines of an item, one after the other.
use Rattle.std.proofs.Common.{◌≡◌, ℕ, List, ◌++◌, sym, ap, ◌∙◌, append_assoc}
use Rattle.std.specs.Prelude.{codes}
use Rattle.kmip_ttlv.specs.Node.{Content, structure, Nodes}
use Rattle.kmip_ttlv.specs.Showing.{line, shown_children, shown_all}

-- a Structure is shown by its own line and those of its items
pub structure_shown : (before mid after indent deeper : List ℕ) (tag : ℕ) (content : Content) (ns : Nodes) → content ≡ structure ns
    → deeper ≡ indent ++ codes "  " → mid ≡ before ++ line indent tag content → after ≡ mid ++ shown_all deeper ns
    → after ≡ before ++ (line indent tag content ++ shown_children (indent ++ codes "  ") content)
structure_shown before mid after indent deeper tag content ns is deep one all =
    let children : shown_all deeper ns ≡ shown_children (indent ++ codes "  ") content =
    ap (λ (d : List ℕ). shown_all d ns) deep ∙ ap (shown_children (indent ++ codes "  ")) (sym is) in
    all ∙ ap (λ (x : List ℕ). x ++ shown_all deeper ns) one ∙ append_assoc before (line indent tag content) (shown_all deeper ns)
    ∙ ap (λ (x : List ℕ). before ++ (line indent tag content ++ x)) children

-- A Structure's line, and then the lines of its items.
use Rattle.std.proofs.Common.{List, ℕ, ◌++◌, string_bytes, ◌≡◌, subst, ◌∙◌}
use Rattle.std.specs.Prelude.{codes}
use Rattle.kmip_ttlv.specs.Node.{nodes_of}
use Rattle.kmip_ttlv.specs.View.{views, content}
use Rattle.kmip_ttlv.proofs.Views.{content-items}
use Rattle.kmip_ttlv.proofs.Shown.{structure_shown}
use Rattle.kmip_ttlv.proofs.showing.+showing.Goals as goal

pub push_lines-returns-in_ok-push_all : goal.push_lines-returns-in_ok-push_all
push_lines-returns-in_ok-push_all t c =
    let item = c.args.item.now in
    let items = c.as_slice.result.now in
    let deeper : c.deref.result.now ≡ c.args.indent.now ++ codes "  " =
    c.deref.ensures ∙ subst (λ (x : List ℕ). string_bytes c.push_str.new.self ≡ x ++ codes "  ") c.in_ok-deeper.ensures.ok c.in_ok-push_str.ensures.bytes in
    structure_shown (string_bytes c.args.out.now) (string_bytes c.push_line.new.out) (string_bytes c.push_all.new.out) c.args.indent.now c.deref.result.now
    item.tag (content item.value) (nodes_of (views items))
    (content-items item.value c.in-Structure.items items c.in-Structure.is c.as_slice.ensures.value)
    deeper
    c.in_ok-push_line.ensures c.in_ok-push_all.ensures

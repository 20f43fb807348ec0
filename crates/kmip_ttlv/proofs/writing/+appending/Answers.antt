-- Room for a Structure's head, then its items, and then the head.
use Rattle.std.proofs.Common.{◌+◌, ap, subst, drop, arith}
use denote.Param.Weighed.{at_most}
use Rattle.kmip_ttlv.specs.declared.item.Item.{Item}
use Rattle.kmip_ttlv.proofs.item.Item.TheLaws.{the_size}
use Rattle.kmip_ttlv.specs.Node.{Nodes, nodes_of}
use Rattle.kmip_ttlv.specs.View.{view, views}
use Rattle.kmip_ttlv.proofs.Views.{view-Structure, nodes-drop, nodes-drop_all}
use Rattle.kmip_ttlv.proofs.Written.{AreWritten, still_kept, structure_in_range, room_written, child_fits, child_written, length_written, head_set}
use Rattle.kmip_ttlv.proofs.writing.+appending.Goals as goal

pub append_structure-loop-item-init : goal.append_structure-loop-item-init
append_structure-loop-item-init t c =
    room_written c.args.out.now.items c.extend_from_slice.new.self.items c.args.tag (nodes_of (views c.args.items.now))
    c.requires c.in_ok-extend_from_slice.ensures.items

pub append_structure-append-requires : goal.append_structure-append-requires
append_structure-append-requires t c =
    let xs = c.args.items.now in
    let i = c.loop-item.item-index in
    let x = c.item-item.result in
    let whole = nodes_of (views xs) in
    let so_far = subst (λ (rest : Nodes). AreWritten c.args.out.now.items c.loop-item.out.items rest whole)
    (nodes-drop xs i x c.loop-item-test.true c.item-item.is) c.loop-item.invariant in
    let below = at_most (λ (y : Item). the_size y) xs i x c.loop-item-test.true in
    let same = ap (λ (y : Item). the_size y) c.item-item.is in
    (omega (arith, below, same), child_fits c.args.out.now.items c.loop-item.out.items (view x) (nodes_of (views (drop (i + 1) xs))) whole so_far)

pub append_structure-returns-in_err-append-clause-kept : goal.append_structure-returns-in_err-append-clause-kept
append_structure-returns-in_err-append-clause-kept t c =
    still_kept c.args.out.now.items c.loop-item.out.items c.append.new.out.items c.loop-item.invariant.kept c.append.ensures.kept

pub append_structure-loop-item-preserved : goal.append_structure-loop-item-preserved
append_structure-loop-item-preserved t c =
    let xs = c.args.items.now in
    let i = c.loop-item.item-index in
    let x = c.item-item.result in
    let whole = nodes_of (views xs) in
    let so_far = subst (λ (rest : Nodes). AreWritten c.args.out.now.items c.loop-item.out.items rest whole)
    (nodes-drop xs i x c.loop-item-test.true c.item-item.is) c.loop-item.invariant in
    child_written c.args.out.now.items c.loop-item.out.items c.append.new.out.items (view x) (nodes_of (views (drop (i + 1) xs))) whole
    so_far c.in_ok-append.ensures.ok c.append.ensures.kept c.in_ok-append.ensures.in_range

pub append-returns-in-Structure-clause-in_range : goal.append-returns-in-Structure-clause-in_range
append-returns-in-Structure-clause-in_range t c =
    structure_in_range c.append_structure.result (view c.args.item.now) c.args.item.now.tag (nodes_of (views c.as_slice.result.now))
    (view-Structure c.args.item.now c.in-Structure.items c.as_slice.result.now c.in-Structure.is c.as_slice.ensures.value)
    (omega arith) c.append_structure.ensures.in_range

pub append_structure-returns-clause-ok : goal.append_structure-returns-clause-ok
append_structure-returns-clause-ok t c =
    let xs = c.args.items.now in
    let whole = nodes_of (views xs) in
    let before = c.args.out.now.items in
    let out = c.loop-item.out.items in
    let so_far = subst (λ (rest : Nodes). AreWritten before out rest whole) (nodes-drop_all xs c.loop-item.item-index c.loop-item-test.false) c.loop-item.invariant in
    head_set before out c.set_head.new.out.items c.args.tag _ _ whole so_far (omega arith)
    (omega (arith, length_written before out whole so_far)) c.set_head.ensures

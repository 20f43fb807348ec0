-- What the loop and the steps of reading give.
use Rattle.std.proofs.Common.{◌≡◌, ◌+◌, ◌-◌, [], ◌∷◌, ◌++◌, sym, arith}
use Rattle.std.proofs.lemmas.List.{map_push}
use Rattle.std.proofs.lemmas.Result.{err_from_is_err_and}
use Rattle.kmip_ttlv.specs.View.{view, views, content}
use Rattle.kmip_ttlv.specs.Reading.{item_at}
use Rattle.kmip_ttlv.proofs.SoFar.{one_read, one_fails, all_read, is_full, is_none}
use Rattle.kmip_ttlv.proofs.Steps.{item_from, value_fails}
use Rattle.kmip_ttlv.proofs.reading.+reading.Goals as goal

pub all_of-returns-in_err-item : goal.all_of-returns-in_err-item
all_of-returns-in_err-item t c =
    let p = err_from_is_err_and c.from_residual.result c.from_residual.ensures.1 in
    rw (p.1, p.2) (one_fails (item_at c.args.left) c.args.at c.args.bytes.now (views c.loop-rest.items.items) c.loop-rest.place c.loop-rest.rest.now c.in_err-item.field-0.0
    c.loop-rest.invariant (is_full _ _ c.is_empty.ensures c.loop-rest-test.true) c.in_err-item.ensures.exact)

pub all_of-loop-rest-preserved : goal.all_of-loop-rest-preserved
all_of-loop-rest-preserved t c =
    let n = c.in_ok-item.item in
    let items : views c.push.new.self.items ≡ views c.loop-rest.items.items ++ view n ∷ [] = rw c.in_ok-push.ensures.items (map_push _ c.loop-rest.items.items n) in
    rw (items, c.split_at.ensures.back) (one_read (item_at c.args.left) c.args.at c.args.bytes.now (views c.loop-rest.items.items) c.loop-rest.place c.loop-rest.rest.now
    (view n) c.in_ok-item.size c.loop-rest.invariant (is_full _ _ c.is_empty.ensures c.loop-rest-test.true)
    (omega (arith, c.in_ok-item.ensures.size)) (omega (arith, c.in_ok-item.ensures.size)) c.in_ok-item.ensures.exact)

pub all_of-returns : goal.all_of-returns
all_of-returns t c =
    all_read (item_at c.args.left) c.args.at c.args.bytes.now (views c.loop-rest.items.items) c.loop-rest.place c.loop-rest.rest.now
    c.loop-rest.invariant (is_none _ _ c.is_empty.ensures c.loop-rest-test.false)

pub item_of-returns-in_err-value-clause-exact : goal.item_of-returns-in_err-value-clause-exact
item_of-returns-in_err-value-clause-exact t c =
    let p = err_from_is_err_and c.from_residual-in_err-value.result c.from_residual-in_err-value.ensures.1 in
    let len = c.in_ok-tag.len in
    rw (p.1, p.2) (value_fails c.args.left c.args.at c.args.bytes.now c.in_ok-tag.tag c.in_ok-tag.item_type len (8 + len - 8) c.in_err-value.field-0.0
    (omega arith) (sym c.in_ok-tag.ensures.exact) (omega arith) c.in_err-value.ensures)

pub item_of-returns-clause-exact : goal.item_of-returns-clause-exact
item_of-returns-clause-exact t c =
    let len = c.in_ok-tag.len in
    item_from c.args.left c.args.at c.args.bytes.now c.in_ok-tag.tag c.in_ok-tag.item_type len (8 + len - 8) c.new-tag.result (8 + len + c.padding_of.result)
    (content c.in_ok-value.value) (omega arith) (sym c.in_ok-tag.ensures.exact) (omega arith) c.in_ok-value.ensures c.new-tag.ensures (omega (arith, c.padding_of.ensures))

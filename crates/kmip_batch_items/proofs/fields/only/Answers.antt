-- The item at hand decides.
use Rattle.kmip_batch_items.proofs.SiblingLemmas.{only_refused, only_passed}
use Rattle.kmip_batch_items.proofs.fields.only.Goals as goal

pub returns-then-not-is_among : goal.returns-then-not-is_among
returns-then-not-is_among c =
    only_refused c.args.tags.now c.args.items.now c.loop-item.item-index c.item-item.result c.tag-tag.result c.number.result c.is_among.result
    c.loop-item-test.true c.item-item.is c.tag-tag.ensures c.number.ensures.value c.is_among.ensures c.if-not-is_among.true c.loop-item.invariant

pub loop-item-preserved : goal.loop-item-preserved
loop-item-preserved c =
    only_passed c.args.tags.now c.args.items.now c.loop-item.item-index c.item-item.result c.tag-tag.result c.number.result c.is_among.result
    c.loop-item-test.true c.item-item.is c.tag-tag.ensures c.number.ensures.value c.is_among.ensures c.if-not-is_among.false c.loop-item.invariant

-- As many items as elements.
use Rattle.std.proofs.Common.{length, ap, sym, ◌∙◌}
use Rattle.kmip_plan.proofs.TableLemmas.{count-view}
use Rattle.kmip_plan.proofs.counts.count.Goals as goal

pub returns : goal.returns
returns c = ap length c.as_slice.ensures.value ∙ sym (count-view c.args.array.now.items)

-- What was counted, and what is left to be counted, is all of it.
use Rattle.std.proofs.Common.{◌≡◌, ◌+◌, ◌≤◌, drop}
use Rattle.toml.specs.View.{items_view}
use Rattle.kmip_plan.specs.Tables.{times}
use Rattle.kmip_plan.proofs.counts.times.Given as goal

abbrev pub invariant-loop-value : goal.invariant-loop-value
invariant-loop-value l = record {
  counted : l.count + times l.word (items_view (drop l.value-index l.array.items)) ≡ times l.word (items_view l.array.items);
  within : l.count ≤ l.value-index;
}

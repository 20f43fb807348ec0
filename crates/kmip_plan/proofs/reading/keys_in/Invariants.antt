-- The keys so far, and then those that are left, are all of them.
use Rattle.std.proofs.Common.{◌≡◌, [], drop}
use Rattle.toml.specs.View.{items_view}
use Rattle.kmip_plan.specs.Reading.{keys_in}
use Rattle.kmip_plan.proofs.reading.keys_in.Given as goal

abbrev pub invariant-loop-value : goal.invariant-loop-value
invariant-loop-value l =
    keys_in l.keys (items_view (drop l.value-index l.array.items)) ≡ keys_in [] (items_view l.array.items)

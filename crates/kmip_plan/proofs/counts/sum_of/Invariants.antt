-- The sum so far is that over the usages that were looked at.
use Rattle.std.proofs.Common.{◌≡◌, take}
use Rattle.std.specs.List.{sum_by}
use Rattle.toml.specs.View.{array_view}
use Rattle.kmip_plan.specs.Fields.{bit_of}
use Rattle.kmip_plan.proofs.counts.sum_of.Given as goal

abbrev pub invariant-loop-usage : goal.invariant-loop-usage
invariant-loop-usage l = l.mask ≡ sum_by (λ u. bit_of (array_view l.array) u.0.now u.1) (take l.usage-index l.usages)

-- The sum so far with the counts that are left is the sum of all, up to the greatest number.
use Rattle.std.proofs.Common.{◌≡◌, ◌≤◌, ◌+◌, ◌-◌, ◌^◌, drop, min, sum}
use Rattle.kmip_run_command.specs.RunReport.{all_steps}
use Rattle.kmip_run_command.proofs.ending.all_steps.Given as goal

abbrev pub invariant-loop-count : goal.invariant-loop-count
invariant-loop-count l =
    (l.total ≤ 2 ^ 64 - 1) × (min (l.total + sum (drop l.count-index l.counts)) (2 ^ 64 - 1) ≡ all_steps l.counts)

-- After the last count none is left.
use Rattle.std.proofs.Common.{◌≡◌, drop, sum, ap, arith}
use Rattle.std.proofs.lemmas.List.{drop_all}
use Rattle.kmip_run_command.proofs.ending.all_steps.Goals as goal

pub returns : goal.returns
returns c =
    let none : sum (drop c.loop-count.count-index c.args.counts.now) ≡ 0 = ap sum (drop_all c.loop-count.count-index c.args.counts.now (omega arith)) in
    omega (arith, none, c.loop-count.invariant.0, c.loop-count.invariant.1)

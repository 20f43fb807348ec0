-- Part by part.
use Rattle.std.proofs.Common.{subst}
use Rattle.kmip_runs.proofs.PutLemmas.{AreLost, lost_more, lost_none, opened}
use Rattle.kmip_runs.proofs.driving.lose_each.Goals as goal

pub loop-part-init : goal.loop-part-init
loop-part-init c = lost_none c.args.client.now c.args.parts.now

pub loop-part-preserved : goal.loop-part-preserved
loop-part-preserved c =
    lost_more c.args.client.now c.loop-part.client c.lost.new.self _ _ c.args.parts.now
    (subst (λ left. AreLost c.args.client.now c.loop-part.client left c.args.parts.now)
    (opened c.args.parts.now c.loop-part.part-index _ c.loop-part-test.true) c.loop-part.invariant)
    c.lost.ensures.lost c.lost.ensures.kept c.lost.ensures.held

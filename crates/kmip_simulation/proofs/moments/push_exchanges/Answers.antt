-- Exchange by exchange.
use Rattle.kmip_simulation.proofs.MomentLemmas.{one_exchange_more}
use Rattle.kmip_simulation.proofs.moments.push_exchanges.Goals as goal

pub loop-place-preserved : goal.loop-place-preserved
loop-place-preserved c =
    one_exchange_more c.args.end c.loop-place.place c.loop-place.left.now _ c.loop-place.moments.items _ _
    c.loop-place-test.true c.words_after_next-left.ensures c.loop-place.invariant c.in_ok-push_exchange.ensures

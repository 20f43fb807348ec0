-- Exchange by exchange.
use Rattle.kmip_simulation.proofs.MomentLemmas.{words_after_one}
use Rattle.kmip_simulation.proofs.words.words_after_exchanges.Goals as goal

pub loop-place-preserved : goal.loop-place-preserved
loop-place-preserved c =
    words_after_one c.args.count c.loop-place.place c.args.words.now c.loop-place.left.now _ c.loop-place-test.true c.words_after_next-left.ensures c.loop-place.invariant

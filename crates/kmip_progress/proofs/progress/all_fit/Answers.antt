-- All were seen.
use Rattle.kmip_progress.proofs.SuitingLemmas.{all_seen}
use Rattle.kmip_progress.proofs.progress.all_fit.Goals as goal

pub returns : goal.returns
returns c =
    all_seen c.loop-one.rest.now c.args.keys.now c.args.known.now c.loop-one.one-index c.is_empty.result c.loop-one-test.false c.loop-one.invariant c.is_empty.ensures

-- What was read so far joined what was held. Of a source that is sure each turn has read something.
use Rattle.std.proofs.Common.{◌≤◌, length}
use Rattle.kmip_transport.specs.Private.{Takes}
use Rattle.kmip_transport.proofs.receiving.receive.Given as goal

abbrev pub invariant-loop-turn : goal.invariant-loop-turn
invariant-loop-turn g l =
    Takes l.fn.framer l.framer (g.R.Source.remaining l.fn.reader) (g.R.Source.remaining l.reader)
    × (g.R.Source.IsSure → l._turn ≤ length l.framer)

-- The messages so far were served, one a turn, and nothing is held.
use Rattle.std.proofs.Common.{◌≡◌, []}
use Rattle.kmip_transport.proofs.ServingLemmas.{HasServed}
use Rattle.kmip_transport.proofs.serving.serve_in_turn.Given as goal

abbrev pub invariant-loop-turn : goal.invariant-loop-turn
invariant-loop-turn g l =
    (l.framer ≡ [])
    × HasServed l.fn.now l._turn l.fn.server l.server (g.R.Source.remaining l.fn.reader) (g.R.Source.remaining l.reader)
    (g.W.Sink.contents l.fn.writer) (g.W.Sink.contents l.writer)

-- The keys of the unanswered parts so far are lost; once those of the others are too, all are.
use Rattle.std.proofs.Common.{drop, filter}
use Rattle.kmip_protocol.specs.Turns.{is_unanswered}
use Rattle.kmip_runs.proofs.PutLemmas.{AreLost}
use Rattle.kmip_runs.proofs.driving.lose_unanswered.Given as goal

abbrev pub invariant-loop-part : goal.invariant-loop-part
invariant-loop-part l = AreLost l.fn.client l.client (filter (is_unanswered l.heard) (drop l.part-index l.parts)) (filter (is_unanswered l.heard) l.parts)

-- The keys of the parts so far are lost; once those of the others are too, all are.
use Rattle.std.proofs.Common.{drop}
use Rattle.kmip_runs.proofs.PutLemmas.{AreLost}
use Rattle.kmip_runs.proofs.driving.lose_each.Given as goal

abbrev pub invariant-loop-part : goal.invariant-loop-part
invariant-loop-part l = AreLost l.fn.client l.client (drop l.part-index l.parts) l.parts

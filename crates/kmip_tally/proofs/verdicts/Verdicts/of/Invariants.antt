-- The verdicts so far are counted.
use Rattle.std.proofs.Common.{take}
use Rattle.kmip_tally.specs.PrivateCounts.{AreCounted}
use Rattle.kmip_tally.proofs.verdicts.Verdicts.of.Given as goal

abbrev pub invariant-loop-verdict : goal.invariant-loop-verdict
invariant-loop-verdict l = AreCounted (take l.verdict-index l.verdict-items) l.finished l.working l.conflict

-- The lines so far are summed up, after the first line of the text.
use Rattle.std.proofs.Common.{◌≡◌, ◌+◌, take}
use Rattle.std.specs.List.{sum_by}
use Rattle.kmip_progress.proofs.saved_text.start_of.Given as goal

abbrev pub invariant-loop-line : goal.invariant-loop-line
invariant-loop-line l = l.start ≡ 16 + sum_by (λ line. line.size) (take l.line-index l.before)

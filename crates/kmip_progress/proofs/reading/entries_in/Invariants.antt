-- The entries so far, and then those of the lines that are left, are all of them.
use Rattle.std.proofs.Common.{◌≡◌, [], drop, map}
use Rattle.kmip_progress.specs.Reading.{entries_in}
use Rattle.kmip_progress.proofs.reading.entries_in.Given as goal

abbrev pub invariant-loop-line : goal.invariant-loop-line
invariant-loop-line l =
    entries_in l.format l.entries.items (map (λ line. line.now) (drop l.line-index l.lines)) ≡ entries_in l.format [] (map (λ line. line.now) l.lines)

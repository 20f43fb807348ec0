-- Those that are left fit just where all do.
use Rattle.std.proofs.Common.{◌≡◌, drop}
use Rattle.kmip_progress.specs.Private.{all_fit}
use Rattle.kmip_progress.proofs.progress.all_fit.Given as goal

abbrev pub invariant-loop-one : goal.invariant-loop-one
invariant-loop-one l = all_fit l.rest (drop l.one-index l.known) ≡ all_fit l.keys l.known

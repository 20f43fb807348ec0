-- The sums so far, and those over the keys that are left, are the whole sums.
use Rattle.std.proofs.Common.{◌≡◌, ◌≤◌, ◌+◌, ◌*◌, drop}
use Rattle.kmip_run_command.specs.ProgressLineText.{steps_of, sum_of}
use Rattle.kmip_run_command.proofs.line.steps_of.Given as goal

abbrev pub invariant-loop-place : goal.invariant-loop-place
invariant-loop-place l = record {
  done : l.done + sum_of (drop l.place l.counts) ≡ sum_of l.counts;
  steps : l.steps + steps_of (drop l.place l.keys) ≡ steps_of l.keys;
  few : l.steps ≤ 4 * l.place;
}

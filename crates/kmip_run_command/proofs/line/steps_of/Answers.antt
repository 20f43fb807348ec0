-- No more steps are counted than four for each key.
use Rattle.std.proofs.Common.{rules, arith, ap, ◌≡◌, ◌<◌, ◌+◌, drop, length, slice_index_or}
use Rattle.std.proofs.lemmas.List.{drop_more}
use Rattle.kmip_run_command.specs.ProgressLineText.{sum_of}
use Rattle.kmip_run_command.proofs.ProgressLineLemmas.{sum_few}
use Rattle.kmip_run_command.proofs.line.steps_of.Goals as goal

pub overflow_add-done : goal.overflow_add-done
overflow_add-done c =
    let counts = c.args.counts.now in
    let place = c.loop-place.place in
    let inside : place < length counts = search rules in
    let turn : sum_of (drop place counts) ≡ slice_index_or counts place 0 + sum_of (drop (place + 1) counts) =
    ap sum_of (drop_more counts place 0 inside) in
    omega (arith, c.loop-place.invariant.done, turn, sum_few c.args.keys.now counts c.requires.within, c.requires.few)

-- The first identifier of those that are left is the first of all.
use Rattle.std.proofs.Common.{◌≡◌, drop, flat_map, slice_get}
use Rattle.kmip_probe.specs.Answers.{uids_told}
use Rattle.kmip_probe.proofs.probing.first_uid.Given as goal

abbrev pub invariant-loop-answer : goal.invariant-loop-answer
invariant-loop-answer l =
    slice_get (flat_map uids_told (drop l.answer-index l.answers)) 0 ≡ slice_get (flat_map uids_told l.answers) 0

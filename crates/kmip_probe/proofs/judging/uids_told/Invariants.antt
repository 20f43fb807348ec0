-- The identifiers so far, and then those of the answers that are left.
use Rattle.std.proofs.Common.{◌≡◌, ◌++◌, drop, flat_map}
use Rattle.kmip_probe.specs.Answers.{uids_told}
use Rattle.kmip_probe.proofs.judging.uids_told.Given as goal

abbrev pub invariant-loop-answer : goal.invariant-loop-answer
invariant-loop-answer l = l.uids.items ++ flat_map uids_told (drop l.answer-index l.answers) ≡ flat_map uids_told l.answers

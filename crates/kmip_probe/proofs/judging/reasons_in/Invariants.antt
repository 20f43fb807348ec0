-- The reasons so far, and then those that are left.
use Rattle.std.proofs.Common.{◌≡◌, [], drop, map}
use Rattle.kmip_probe.specs.Judging.{new_reasons, reason_in}
use Rattle.kmip_probe.proofs.judging.reasons_in.Given as goal

abbrev pub invariant-loop-answer : goal.invariant-loop-answer
invariant-loop-answer l =
    new_reasons l.reasons.items (map reason_in (drop l.answer-index l.answers)) ≡ new_reasons [] (map reason_in l.answers)

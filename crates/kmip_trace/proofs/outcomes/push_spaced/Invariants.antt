-- The identifiers so far are written.
use Rattle.std.proofs.Common.{◌≡◌, ◌++◌, take}
use Rattle.std.specs.List.{flat_map}
use Rattle.kmip_trace.specs.Answers.{spaced_text}
use Rattle.kmip_trace.proofs.outcomes.push_spaced.Given as goal

abbrev pub invariant-loop-uid : goal.invariant-loop-uid
invariant-loop-uid l = l.text.items ≡ l.fn.text.items ++ flat_map spaced_text (take l.uid-index l.uids)

-- The requests so far are written.
use Rattle.std.proofs.Common.{◌≡◌, ◌++◌, take}
use Rattle.std.specs.List.{flat_map}
use Rattle.kmip_trace.specs.Questions.{next_request_text}
use Rattle.kmip_trace.proofs.asking.push_others.Given as goal

abbrev pub invariant-loop-request : goal.invariant-loop-request
invariant-loop-request l = l.text.items ≡ l.fn.text.items ++ flat_map next_request_text (take l.request-index l.others)

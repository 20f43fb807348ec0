-- What was answered, and then what the calls left will answer, is all of it; the records are those after the calls made.
use Rattle.std.proofs.Common.{◌≡◌, ◌++◌, take, drop}
use Rattle.kmip_store.specs.Calling.{answers_to, stock_after_calls}
use Rattle.kmip_store.proofs.calling.call_all.Given as goal

abbrev pub invariant-loop-call : goal.invariant-loop-call
invariant-loop-call g l =
    (l.answers.items ++ answers_to (drop l.call-index l.calls) (g.S.Records.stock l.store)
    ≡ answers_to l.calls (g.S.Records.stock l.fn.store))
    × (g.S.Records.stock l.store ≡ stock_after_calls (take l.call-index l.calls) (g.S.Records.stock l.fn.store))

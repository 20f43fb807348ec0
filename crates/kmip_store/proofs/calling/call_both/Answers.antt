-- The first store has met all the calls, and the second some of them.
use Rattle.std.proofs.Common.{length, sym, ap, ◌∙◌}
use Rattle.std.proofs.Math.Seq.{take-length}
use Rattle.std.proofs.lemmas.Result.{err_from_is_err_and}
use Rattle.kmip_store.specs.Calling.{stock_after_calls}
use Rattle.kmip_store.proofs.calling.call_both.Goals as goal

pub returns-in_err-theirs-clause-broken_off : goal.returns-in_err-theirs-clause-broken_off
returns-in_err-theirs-clause-broken_off g c =
    let calls = c.args.calls.now in
    let all = c.in_ok-ours.ensures.stock ∙ ap (λ cs. stock_after_calls cs (g.A.Records.stock c.args.first.now)) (sym (take-length calls)) in
    let fault = err_from_is_err_and c.from_residual-in_err-theirs.result c.from_residual-in_err-theirs.ensures.1 in
    rw fault.1 ((length calls, all), c.in_err-theirs.ensures.broken_off)

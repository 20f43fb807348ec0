-- One key more is taken in.
use Rattle.std.proofs.Common.{arith, ◌≡◌, ◌<◌, ◌+◌, length, drop, ap, sym, ◌∙◌}
use Rattle.kmip_run_record.specs.RunFindings.{known_from}
use Rattle.kmip_run_record.proofs.StageLemmas.{known_more}
use Rattle.kmip_run_record.proofs.findings.Findings.know_all.Goals as goal

pub loop-place-preserved : goal.loop-place-preserved
loop-place-preserved c =
    let client = c.args.client.now in
    let place = c.loop-place.place in
    let as_many : length c.plan.result.now ≡ length client.keys = ap length c.plan.ensures.value in
    let within : place < length client.keys = omega (arith, as_many, c.count-count.ensures.count, c.loop-place-test.true) in
    ap (known_from client (place + 1) (drop (place + 1) client.keys)) c.know_key.ensures
    ∙ sym (known_more client place client.keys c.loop-place.self within)
    ∙ c.loop-place.invariant

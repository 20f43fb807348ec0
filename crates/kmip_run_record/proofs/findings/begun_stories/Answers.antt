-- One story more is pushed.
use Rattle.std.proofs.Common.{arith, ◌≡◌, ◌<◌, length, ap}
use Rattle.std.proofs.lemmas.Grind.{common_steps}
use Rattle.kmip_run_record.proofs.StageLemmas.{begun_more}
use Rattle.kmip_run_record.proofs.findings.begun_stories.Goals as goal

pub loop-place-preserved : goal.loop-place-preserved
loop-place-preserved c =
    let client = c.args.client.now in
    let place = c.loop-place.place in
    let as_many : length c.plan.result.now ≡ length client.keys = ap length c.plan.ensures.value in
    let within : place < length client.keys = omega (arith, as_many, c.count-count.ensures.count, c.loop-place-test.true) in
    grind (arith, common_steps, begun_more client place client.keys within)

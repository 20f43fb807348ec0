-- There is a count for each key.
use Rattle.std.proofs.Common.{◌≤◌}
use Rattle.std.proofs.lemmas.Slice.Zip.{AllZip-long}
use Rattle.kmip_client.specs.Knowledge.{chain_length}
use Rattle.kmip_run_command.proofs.line.progress_line.Goals as goal

pub steps_of-done-requires-clause-as_many : goal.steps_of-done-requires-clause-as_many
steps_of-done-requires-clause-as_many c =
    rw (c.as_slice.ensures.value, c.keys.ensures.value, c.plan-plan.ensures.value)
    (AllZip-long (λ key count. count ≤ chain_length key) c.args.client.now.keys c.in_ok-counts.counts.items c.in_ok-counts.ensures.within)

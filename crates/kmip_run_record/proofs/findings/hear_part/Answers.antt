-- The stage of the key stays.
use Rattle.std.proofs.Common.{◌≡◌, map}
use Rattle.kmip_run_record.proofs.StageLemmas.{map_set}
use Rattle.kmip_run_record.proofs.findings.hear_part.Goals as goal

pub returns-in_ok-hear : goal.returns-in_ok-hear
returns-in_ok-hear c = map_set _ c.args.stories.now.items c.args.part.now.key c.index_mut.result.now c.hear.new.self c.index_mut.ensures.value c.hear.ensures.stage

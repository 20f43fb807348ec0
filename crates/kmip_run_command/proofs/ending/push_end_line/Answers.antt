-- The words and counts are those of the stop.
use Rattle.std.proofs.Common.{◌∙◌}
use Rattle.kmip_report.proofs.ForCallers.{line_of}
use Rattle.kmip_run_command.proofs.EndingLemmas.{end_as}
use Rattle.kmip_run_command.proofs.ending.push_end_line.Goals as goal

pub returns : goal.returns
returns c =
    line_of c.push_end_pieces.result c.args.form c.args.text.now.items c.push_end_pieces.new.text.items
    (end_as _ _ c.end_word.ensures c.finished_count.ensures (c.as_str.ensures.value ∙ c.in_ok-said.ensures) c.cause_of.ensures) c.push_end_pieces.ensures

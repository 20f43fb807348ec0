-- A part stands behind the line where that has room for it: answered so that a wrong body fails at once.
use Rattle.std.proofs.Common.{rules}
use Rattle.kmip_run_command.specs.ProgressLineText.{with_part}
use Rattle.kmip_run_command.proofs.line.push_part.Goals as goal

pub returns-in_ok-push_str : goal.returns-in_ok-push_str
unfolding with_part
returns-in_ok-push_str c = search rules

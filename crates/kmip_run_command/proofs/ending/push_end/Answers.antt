-- The report is that of the end.
use Rattle.kmip_run_command.proofs.EndingLemmas.{on_ok}
use Rattle.kmip_run_command.proofs.ending.push_end.Goals as goal

pub returns-in_ok-tally-in-Stopped : goal.returns-in_ok-tally-in-Stopped
returns-in_ok-tally-in-Stopped g c =
    let tally = c.in_ok-tally-in-Stopped.tally in
    rw c.in-Stopped.is (on_ok c.push_stopped.result (λ written. (tally, written)) c.push_stopped.ensures)

-- The runs before a place are reported.
use Rattle.kmip_sim_command.specs.SimReport.{lines_of_run}
use Rattle.kmip_sim_command.proofs.ReportLemmas.{IsWritten}
use Rattle.kmip_sim_command.proofs.report.push_runs.Given as goal

abbrev pub invariant-loop-place : goal.invariant-loop-place
invariant-loop-place l = IsWritten l.form lines_of_run l.ends l.place l.fn.text.items l.text.items

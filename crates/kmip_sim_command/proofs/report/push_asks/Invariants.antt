-- The messages before a place are reported.
use Rattle.kmip_sim_command.specs.SimReport.{lines_of_message}
use Rattle.kmip_sim_command.proofs.ReportLemmas.{IsWritten}
use Rattle.kmip_sim_command.proofs.report.push_asks.Given as goal

abbrev pub invariant-loop-place : goal.invariant-loop-place
invariant-loop-place l = IsWritten l.form lines_of_message l.messages l.place l.fn.text.items l.text.items

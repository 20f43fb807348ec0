-- The objects before a place are reported.
use Rattle.kmip_sim_command.proofs.ReportLemmas.{AreListed}
use Rattle.kmip_sim_command.proofs.report.push_objects.Given as goal

abbrev pub invariant-loop-place : goal.invariant-loop-place
invariant-loop-place l = AreListed l.form l.link.stock.rows l.place l.fn.text.items l.text.items

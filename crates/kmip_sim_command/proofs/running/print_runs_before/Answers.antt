-- The runs, and then the line.
use Rattle.std.proofs.Common.{refl}
use Rattle.kmip_sim_command.proofs.PrintingLemmas.{fails_by, joined}
use Rattle.kmip_sim_command.proofs.running.print_runs_before.Goals as goal

pub returns-in-Ok : goal.returns-in-Ok
returns-in-Ok g c =
    joined c.print_report.result g.P.Printer.own_fault g.P.Printer.IsWhole (g.P.Printer.contents c.args.printer.now) (g.P.Printer.contents c.print.new.self) (g.P.Printer.contents c.print_report.new.printer) c.args.runs.now _
    c.in-Ok.ensures.text (fails_by c.print_report.result _ _ _ refl c.print_report.ensures.refused c.print_report.ensures.broken)

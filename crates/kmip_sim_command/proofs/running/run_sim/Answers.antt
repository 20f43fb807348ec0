-- What was made in memory was printed.
use Rattle.std.proofs.Common.{[], inl, refl}
use Rattle.kmip_sim_command.proofs.PrintingLemmas.{broken, if_failed, if_nothing}
use Rattle.kmip_sim_command.proofs.running.run_sim.Goals as goal

pub returns-in-Ok-Ok-clause-broken : goal.returns-in-Ok-Ok-clause-broken
returns-in-Ok-Ok-clause-broken g c =
    let old = g.P.Printer.contents c.args.printer.now in
    let new = g.P.Printer.contents c.print_report.new.printer in
    broken _ _ _ _ [] _ old new c.print_report.result g.P.Printer.own_fault (inl refl)
    (if_nothing c.print_report.result g.P.Printer.own_fault g.P.Printer.IsWhole old new _ c.print_report.ensures.broken)

pub returns-clause-broken : goal.returns-clause-broken
returns-clause-broken g c =
    broken _ _ _ _ [] _ _ _ c.print_runs_before-in-Err.result g.P.Printer.own_fault (inl refl) (if_failed c.print_runs_before-in-Err.result _ c.print_runs_before-in-Err.ensures)

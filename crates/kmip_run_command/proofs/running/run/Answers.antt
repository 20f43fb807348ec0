-- What was made in memory is what was printed.
use Rattle.kmip_run_command.proofs.EndingLemmas.{printed_end, told_end}
use Rattle.kmip_run_command.proofs.running.run.Goals as goal

pub returns-clause-text : goal.returns-clause-text
returns-clause-text g c =
    let input = c.args.input.now in
    let client = c.run_to_end-ended.new.client in
    let made = c.push_ended-made in
    printed_end input client _ c.print_report.result made.result _ _ made.new.text.items
    (g.P.Printer.contents c.args.printer.now) (g.P.Printer.contents c.print_report.new.printer)
    c.new-report.ensures.items c.as_slice.ensures.value c.print_report.ensures.text c.print_report.ensures.refused
    (told_end input client _ c.run_to_end-ended.result made.result _ _ c.run_to_end-ended.ensures.text made.ensures)

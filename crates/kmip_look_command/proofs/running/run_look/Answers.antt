-- What was made in memory was printed.
use Rattle.std.proofs.Common.{ℕ, List, subst}
use Rattle.std.specs.Io.KnownBytes.{Appends}
use Rattle.kmip_report.specs.Endings.{IfWhole}
use Rattle.kmip_look_command.proofs.EndLemmas.{whole_told}
use Rattle.kmip_look_command.proofs.running.run_look.Goals as goal

pub returns-clause-text : goal.returns-clause-text
returns-clause-text g c =
    let old = g.R.Printer.contents c.args.printer.now in
    let new = g.R.Printer.contents c.print_report.new.printer in
    record {
      looked = c.push_look-made.ensures.report.looked;
      looks = c.push_look-made.ensures.report.looks;
      tried = c.push_look-made.ensures.report.tried;
      whole =
          whole_told c.args.input.now.form c.args.plan.now c.push_look-made.ensures.report.looked c.push_look-made.result _ c.push_look-made.new.text.items old new c.print_report.result
          c.new-text.ensures.items c.push_look-made.ensures.report.whole
          (subst (λ (t : List ℕ). IfWhole c.print_report.result (λ r. Appends old new t)) c.as_slice.ensures.value c.print_report.ensures.text) c.print_report.ensures.refused;
    }

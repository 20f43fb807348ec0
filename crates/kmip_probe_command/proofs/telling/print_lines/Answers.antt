-- The lines by the findings are those by the answers.
use Rattle.std.proofs.Common.{subst, ◌∙◌}
use Rattle.std.specs.Io.KnownBytes.{Appends}
use Rattle.kmip_probe_command.proofs.StageLemmas.{lines_are}
use Rattle.kmip_probe_command.proofs.telling.print_lines.Goals as goal

pub returns-clause-text : goal.returns-clause-text
returns-clause-text g c =
    subst (Appends (g.P.Printer.contents c.args.printer.now) (g.P.Printer.contents c.print.new.self))
    (c.as_slice.ensures.value ∙ c.in_ok-text.ensures
    ∙ lines_are c.args.form c.args.prefix.now c.args.answers.now c.in_ok-findings.findings c.in_ok-findings.ensures c.args.premises.now)
    c.in_ok-print.ensures.text

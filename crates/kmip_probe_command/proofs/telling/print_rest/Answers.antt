-- What is printed at last is what the findings tell.
use Rattle.std.proofs.Common.{not, ap, subst, ◌∙◌}
use Rattle.std.specs.Io.KnownBytes.{Appends}
use Rattle.kmip_probe_command.proofs.telling.print_rest.Goals as goal

pub returns-clause-text : goal.returns-clause-text
returns-clause-text g c = (
  c.in_ok-findings.findings,
  c.in_ok-findings.ensures,
  ap not c.are_all_kept.ensures,
  subst (Appends (g.P.Printer.contents c.args.printer.now) (g.P.Printer.contents c.print.new.self))
      (c.as_slice.ensures.value ∙ c.in_ok-text.ensures) c.in_ok-print.ensures.text,
)

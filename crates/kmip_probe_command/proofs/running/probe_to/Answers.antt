-- A probe is made where the prefix can begin names, and is refused where it can't.
use Rattle.std.proofs.Common.{[], refl, rules, arith}
use Rattle.std.proofs.KnownBytes.{Appends-nil}
use Rattle.kmip_probe_command.specs.Midway.{lines_by}
use Rattle.kmip_probe_command.proofs.MidwayLemmas.{broke}
use Rattle.kmip_probe_command.proofs.running.probe_to.Goals as goal

pub tell-requires : goal.tell-requires
tell-requires g c = search (rules, c.is_prefix.ensures)

pub returns-else-is_prefix-clause-broken : goal.returns-else-is_prefix-clause-broken
returns-else-is_prefix-clause-broken g c =
    broke c.print_refusal.result c.args.form c.args.prefix.now [] [] (lines_by c.args.form c.args.prefix.now []) g.P.Printer.own_fault g.P.Printer.IsWhole
    (g.P.Printer.contents c.args.printer.now) (g.P.Printer.contents c.args.printer.now) (g.P.Printer.contents c.print_refusal.new.printer) refl (omega arith)
    (Appends-nil (g.P.Printer.contents c.args.printer.now)) c.print_refusal.ensures.broken

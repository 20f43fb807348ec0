-- What `read_line` read of its line, whose front `line` keeps, and that nothing was written.
use Rattle.std.specs.Io.KnownBytes.{Keeps}
use Rattle.kmip_message_commands.proofs.LineLemmas.{HasRead}
use Rattle.kmip_message_commands.proofs.lines.read_line.Given as goal

abbrev pub invariant-loop : goal.invariant-loop
invariant-loop g l =
    record {
      read : HasRead (g.R.Read.remaining l.fn.reader) (g.R.Read.remaining l.reader) l.line.items;
      unwritten : Keeps (g.W.Write.contents l.fn.writer) (g.W.Write.contents l.writer);
    }

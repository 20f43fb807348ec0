-- What `respond_to_lines` wrote for the lines that it read, and which of them it refused.
use Rattle.kmip_message_commands.proofs.RespondingLemmas.{Responding}
use Rattle.kmip_message_commands.proofs.responding.respond_to_lines.Given as goal

abbrev pub invariant-loop : goal.invariant-loop
invariant-loop g l =
    let command = g.C.Respond in
    command.IsReady (command.state l.command)
    × Responding command.response (g.R.Read.remaining l.fn.reader) (g.R.Read.remaining l.reader)
    (record {
      first = command.state l.fn.command;
      state = command.state l.command;
      old = g.W.Write.contents l.fn.writer;
      now = g.W.Write.contents l.writer;
      refused = l.has_refused;
    })

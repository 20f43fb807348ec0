-- What `respond_to_bytes` appended for the lines before the rest, and which of them it refused.
use Rattle.std.proofs.Common.{length, Some}
use Rattle.kmip_message_commands.specs.Private.{input_read}
use Rattle.kmip_message_commands.proofs.RespondingLemmas.{HasResponded}
use Rattle.kmip_message_commands.proofs.responding.respond_to_bytes.Given as goal

abbrev pub invariant-loop-rest : goal.invariant-loop-rest
invariant-loop-rest g l =
    let command = g.C.Respond in
    command.IsReady (command.state l.command)
    × HasResponded command.response
    (input_read command.response (command.state l.fn.command) l.input) (input_read command.response (command.state l.command) l.rest)
    (record {
      first = command.state l.fn.command;
      state = command.state l.command;
      old = Some l.fn.output.items;
      now = Some l.output.items;
      refused = l.has_refused;
    })

abbrev pub decreases-loop-rest : goal.decreases-loop-rest
decreases-loop-rest g l = length l.rest

-- The two ways to find the end of the first line.
use Rattle.std.proofs.Common.{rules}
use Rattle.kmip_message_commands.proofs.LineLemmas.{first_of_fed, first_of_last}
use Rattle.kmip_message_commands.proofs.lines.first_line.Goals as goal

pub returns-in-Some-clause-lines : goal.returns-in-Some-clause-lines
returns-in-Some-clause-lines c = first_of_fed c.args.bytes.now c.in-Some.place (search rules)

pub returns-in-None-clause-lines : goal.returns-in-None-clause-lines
returns-in-None-clause-lines c = first_of_last c.args.bytes.now (search rules) c.requires

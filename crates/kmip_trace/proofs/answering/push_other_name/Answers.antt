-- Of the name that was asked about nothing is written.
use Rattle.std.proofs.Common.{rules}
use Rattle.std.proofs.lemmas.List.{append-nil}
use Rattle.kmip_trace.proofs.answering.push_other_name.Goals as goal

pub returns-then-eq : goal.returns-then-eq
returns-then-eq c = search (rules, append-nil, c.eq.ensures)

-- What the first asks, and then what each further one does.
use Rattle.std.proofs.Common.{rules, append_assoc}
use Rattle.kmip_trace.proofs.asking.push_requests.Goals as goal

pub returns : goal.returns
returns c = search (rules, append_assoc, c.push_others.ensures)

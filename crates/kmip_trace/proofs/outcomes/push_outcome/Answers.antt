-- What was revoked is written as revoked.
use Rattle.std.proofs.Common.{rules}
use Rattle.kmip_trace.proofs.outcomes.push_outcome.Goals as goal

pub returns-in-Revoked : goal.returns-in-Revoked
returns-in-Revoked c = search (rules, c.push_done-in-Revoked.ensures)

-- The exchange was lost, and the failure is counted.
use Rattle.std.proofs.Common.{◌+◌, ap, ◌∙◌}
use Rattle.kmip_transport.specs.Links.{LinkState}
use Rattle.kmip_transport.proofs.stream_link.StreamLink.fail.Goals as goal

pub returns-clause-after : goal.returns-clause-after
returns-clause-after g c = ap (λ (link : LinkState). record link { failures = link.failures + 1 }) (c.self.view_is ∙ c.lose.ensures)

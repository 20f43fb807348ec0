-- The link as it was, but for whether it holds streams.
use Rattle.std.proofs.Common.{ap, false}
use Rattle.kmip_transport.specs.Links.{LinkState}
use Rattle.kmip_transport.proofs.stream_link.StreamLink.hold_none.Goals as goal

pub returns : goal.returns
returns g c = ap (λ (link : LinkState). record link { holds = false }) c.self.view_is

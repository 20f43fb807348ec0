-- Without a reply the exchange was lost.
use Rattle.std.proofs.Common.{rules, ap, ◌∙◌}
use Rattle.kmip_transport.specs.Links.{lost}
use Rattle.kmip_transport.proofs.stream_link.StreamLink.receive.Goals as goal

pub returns-in_default-received_from-clause-after : goal.returns-in_default-received_from-clause-after
returns-in_default-received_from-clause-after g c = search (rules, c.lose-in_default-received_from.ensures ∙ ap lost c.self.view_is)

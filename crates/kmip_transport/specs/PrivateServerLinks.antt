-- Private: what is claimed of a link to a server, wherever it is.
-- Source: own (view).
use Rattle.kmip_protocol.specs.Private.{unclaimed}
use Rattle.kmip_protocol.specs.Seen.{Seen}
use Rattle.kmip_transport.specs.declared.server_link.ServerLink.{ServerLink}
use Rattle.kmip_transport.specs.declared.server_link.ServerLink.TheVariants.{Tcp, Unix, Loopback}

-- What is seen of the link: how often its network has failed, and nothing else.
abbrev pub network_of : {T U R S A B C D : Type 0} → ServerLink T U R S A B C D → Seen
network_of (Tcp link) = unclaimed link.failures
network_of (Unix link) = unclaimed link.failures
network_of (Loopback loopback) = unclaimed loopback.link.failures

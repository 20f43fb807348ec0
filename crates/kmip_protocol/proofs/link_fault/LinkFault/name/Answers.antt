-- Each fault has its own name.
use Rattle.std.proofs.Common.{rules}
use Rattle.kmip_protocol.proofs.link_fault.LinkFault.name.Goals as goal

pub returns-in-Io : goal.returns-in-Io
returns-in-Io c = search rules

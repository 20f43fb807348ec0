-- The number and the name of each fault of a link, and how many there may be.
-- Source: own (fault); how many there may be is own (limit).
use Rattle.std.specs.Prelude.{ℕ, List, codes}
use Rattle.kmip_protocol.specs.declared.link_fault.LinkFault.{LinkFault}
use Rattle.kmip_protocol.specs.declared.link_fault.LinkFault.TheVariants.{Io, Frame, NoMemory}

-- the number of each fault, 1 to 3
abbrev pub link_fault_number : LinkFault → ℕ
link_fault_number Io = 1
link_fault_number Frame = 2
link_fault_number NoMemory = 3

-- the name of each fault, as it is printed
abbrev pub link_fault_name : LinkFault → List ℕ
link_fault_name Io = codes "Io"
link_fault_name Frame = codes "Frame"
link_fault_name NoMemory = codes "NoMemory"

-- how often the network of a link may fail before it sends nothing any more: the greatest number of 64 bits
abbrev pub most_failures : ℕ
most_failures = 18446744073709551615

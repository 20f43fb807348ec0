-- What an exchange gives whoever makes it, to whom a failure of the network is a loss.
-- Source: own (choice): such a failure does not say whether the server has served the request.
use Rattle.std.specs.Prelude.{◌≢◌, ℕ, List, Option, Some, None, Result, Ok, Err}
use Rattle.kmip_protocol.specs.declared.link_fault.LinkFault.{LinkFault}
use Rattle.kmip_protocol.specs.declared.link_fault.LinkFault.TheVariants as faults

-- memory did not run out in the call
abbrev pub IsInMemory : {V : Type 0} → Result V LinkFault → Type 0
IsInMemory result = result ≢ Err faults.NoMemory

-- what was handed over, or nothing where memory ran out
abbrev pub or_loss : Result (Option (List ℕ)) LinkFault → Option (Option (List ℕ))
or_loss (Ok answer) = Some answer
or_loss (Err faults.Io) = Some None
or_loss (Err faults.Frame) = Some None
or_loss (Err faults.NoMemory) = None

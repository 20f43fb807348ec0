-- Identifiers read one after the other.
use Rattle.std.proofs.Common.{ℕ, List, ◌++◌, Result, Ok}
use Rattle.kmip_batch_items.specs.declared.message_fault.MessageFault.{MessageFault}
use Rattle.kmip_ttlv.specs.Binding.{◌>>=◌}

-- what was read before, and then what reading gives
abbrev pub with_front : List (List ℕ) → Result (List (List ℕ)) MessageFault → Result (List (List ℕ)) MessageFault
with_front front read = read >>= (λ uids. Ok (front ++ uids))

-- The item of a message in bytes: all of the bytes spell it.
-- Source: KMIP 2.1, Message Structure. Own (order): the item is read before bytes after it are a fault.
use Rattle.kmip_ttlv.specs.Limits.{most_levels}
use Rattle.std.specs.Prelude.{ℕ, ◌==◌, List, length, Result, Ok, Err, if◌then◌else◌}
use Rattle.kmip_ttlv.specs.declared.ttlv_fault.TtlvFault.{TtlvFault}
use Rattle.kmip_ttlv.specs.Node.{Node}
use Rattle.kmip_ttlv.specs.Reading.{item_at}
use Rattle.kmip_batch_items.specs.declared.message_fault.MessageFault.{MessageFault}
use Rattle.kmip_batch_items.specs.declared.message_fault.MessageFault.TheVariants.{NotMessage}
use Rattle.kmip_batch_items.specs.Faults.{message_fault_of}

-- The item that was read among this many bytes, where its size is that of all of them. Else they are no
-- message.
abbrev pub whole : ℕ → Result (Node × ℕ) TtlvFault → Result Node MessageFault
whole len (Ok x) = if x.1 == len then Ok x.0 else Err NotMessage
whole len (Err fault) = Err (message_fault_of fault)

-- The item that all of the bytes spell, or the fault of the item at their front, or that bytes follow it.
unfoldable pub item_in : List ℕ → Result Node MessageFault
item_in bytes = whole (length bytes) (item_at most_levels 0 bytes)

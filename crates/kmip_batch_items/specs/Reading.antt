-- What it means that a call returned what is read, unless memory ran out.
-- Source: own (view): how a contract sees the code.
use Rattle.std.specs.Prelude.{◌≡◌, Result, Ok, Err}
use Rattle.kmip_batch_items.specs.declared.message_fault.MessageFault.{MessageFault}
use Rattle.kmip_batch_items.specs.declared.message_fault.MessageFault.TheVariants.{NoMemory}

-- The fault of a call is the fault of reading. Of want of memory nothing is said.
abbrev pub Fails : {Y : Type 0} → MessageFault → Result Y MessageFault → Type 0
Fails NoMemory read = Unit {0}
Fails fault read = read ≡ Err fault

-- The value that a call returned, seen by `view`, is the one that is read; or its fault is the fault of
-- reading, unless memory ran out.
abbrev pub Gives : {X Y : Type 0} → (X → Y) → Result X MessageFault → Result Y MessageFault → Type 0
Gives view (Ok x) read = read ≡ Ok (view x)
Gives view (Err e) read = Fails e read

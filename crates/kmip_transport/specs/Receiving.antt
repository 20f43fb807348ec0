-- What one call of `receive_message` takes from a reader, what it returns, and what is left in the framer.
-- Source: own (view), over KMIP 2.1, Message Structure.
use Rattle.std.specs.Prelude.{◌≡◌, ℕ, List, [], ◌++◌, length, Option, Some, None, IsSome, Result, Ok, Err}
use Rattle.std.specs.Io.KnownBytes.{Consumes, IsAtEnd}
use Rattle.kmip_ttlv.specs.Limits.{head_size}
use Rattle.kmip_frames.specs.Framing.{fault_in}
use Rattle.kmip_frames.specs.Streams.{IsMessage, BeginsWithNoMessage}
use Rattle.kmip_protocol.specs.declared.link_fault.LinkFault.{LinkFault}
use Rattle.kmip_protocol.specs.declared.link_fault.LinkFault.TheVariants.{Io, Frame, NoMemory}

-- the bytes are neither a message nor a head that is no message's
abbrev pub IsUnfinished : List ℕ → Type 0
IsUnfinished bytes = (fault_in bytes ≡ None) × BeginsWithNoMessage bytes

-- the bytes are a head that is no message's, and nothing after it
abbrev pub IsNoHead : List ℕ → Type 0
IsNoHead bytes = IsSome (fault_in bytes) × (length bytes ≡ head_size)

-- What is returned by all that was held or read, by what is held after it, and by what the reader has left: a
-- message, which all of it is; or none, since the stream has ended. But for a message all of it stays.
abbrev pub Answers : {M : Type 0} → (M → List ℕ) → Result (Option M) LinkFault → List ℕ → List ℕ → Option (List ℕ) → Type 0
Answers bytes (Ok (Some message)) all held left = IsMessage all × (bytes message ≡ all) × (held ≡ [])
Answers bytes (Ok None) all held left = IsUnfinished all × (held ≡ all) × IsAtEnd left
Answers bytes (Err Io) all held left = IsUnfinished all × (held ≡ all)
Answers bytes (Err Frame) all held left = IsNoHead all × (held ≡ all)
Answers bytes (Err NoMemory) all held left = IsMessage all × (held ≡ all)

-- these bytes were read, and what is returned follows from those held before and them
pub record Receives {M : Type 0} (bytes : M → List ℕ) (result : Result (Option M) LinkFault) (old new : List ℕ) (unread left : Option (List ℕ)) : Type 0 where
  pub read : List ℕ
  pub consumed : Consumes unread left read
  pub answered : Answers bytes result (old ++ read) new left

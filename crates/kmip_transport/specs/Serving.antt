-- What a server does to a stream of messages, and how that ends.
-- Source: own (view), over KMIP 2.1, Message Structure; the names and numbers of the ends are own (text).
use Rattle.std.specs.Prelude.{◌≡◌, ◌<◌, ◌⊎◌, ℕ, ℤ, List, [], ◌∷◌, ◌++◌, length, codes, Option, Some, None}
use Rattle.std.specs.Io.KnownBytes.{Consumes, Appends, IsAtEnd}
use Rattle.std.specs.List.{AllByRecursion}
use Rattle.kmip_messages.specs.Items.{parts_in, stops_in}
use Rattle.kmip_frames.specs.Framing.{fault_in}
use Rattle.kmip_frames.specs.Streams.{IsMessage, BeginsWithNoMessage, Stream, joined}
use Rattle.kmip_server.specs.Batching.{batch_reply, stock_after_batch, AreBegun}
use Rattle.kmip_server.specs.declared.effect.Effect.{Effect}
use Rattle.kmip_store.specs.Stock.{Stock}
use Rattle.kmip_transport.specs.Receiving.{IsUnfinished}
use Rattle.kmip_transport.specs.declared.stream_end.StreamEnd.{StreamEnd}
use Rattle.kmip_transport.specs.declared.stream_end.StreamEnd.TheVariants.{Ended, Frame, Io, NoMemory}

-- the number of each end of a stream, 1 to 4
abbrev pub stream_end_number : StreamEnd → ℕ
stream_end_number (Ended left) = 1
stream_end_number (Frame fault) = 2
stream_end_number Io = 3
stream_end_number NoMemory = 4

-- the name of each end of a stream, as it is printed
abbrev pub stream_end_name : StreamEnd → List ℕ
stream_end_name (Ended left) = codes "Ended"
stream_end_name (Frame fault) = codes "Frame"
stream_end_name Io = codes "Io"
stream_end_name NoMemory = codes "NoMemory"

-- the records after messages in turn
abbrev pub stock_after_messages : Stock → List (List ℕ) → Stock
stock_after_messages stock [] = stock
stock_after_messages stock (m ∷ messages) = stock_after_messages (stock_after_batch stock m) messages

-- the replies at a time, joined, each to a message as the messages before it left the records
abbrev pub replies_to : ℤ → Stock → List (List ℕ) → List ℕ
replies_to now stock [] = []
replies_to now stock (m ∷ messages) = batch_reply stock m now ++ replies_to now (stock_after_batch stock m) messages

-- How the stream ends, by the rest of what was read after the messages that were served, and by what the
-- reader has left. Where there is no memory the rest may be a message, which was not answered.
abbrev pub EndsWith : StreamEnd → List ℕ → Option (List ℕ) → Type 0
EndsWith (Ended size) rest left = IsUnfinished rest × (size ≡ length rest) × IsAtEnd left
EndsWith (Frame fault) rest left = (fault_in rest ≡ Some fault) × BeginsWithNoMessage rest
EndsWith Io rest left = IsUnfinished rest
EndsWith NoMemory rest left = (rest ≡ []) ⊎ IsMessage rest

-- some of the first questions of the message were served, and not all of them
abbrev pub IsBegun : List ℕ → Stock → Stock → Type 0
IsBegun message s new = (effects : List Effect) × AreBegun (stops_in message) (parts_in message) effects s new

-- The records after the messages that were answered. Where there is no memory some of the first questions of
-- the rest may have been served, and not all of them.
abbrev pub IsLeft : StreamEnd → List ℕ → Stock → Stock → Type 0
IsLeft (Ended size) rest s new = new ≡ s
IsLeft (Frame fault) rest s new = new ≡ s
IsLeft Io rest s new = new ≡ s
IsLeft NoMemory rest s new = (new ≡ s) ⊎ (IsMessage rest × IsBegun rest s new)

-- The replies to the messages were written. A writer that failed may have taken anything, but failed at a
-- reply.
abbrev pub IsWritten : StreamEnd → List (List ℕ) → Type 0 → Type 0
IsWritten (Ended size) messages Written = Written
IsWritten (Frame fault) messages Written = Written
IsWritten Io messages Written = Written ⊎ (0 < length messages)
IsWritten NoMemory messages Written = Written

-- These messages were served in turn at a time, and with the rest they are all that was read. It says the
-- records before and after them, what the reader had and has left, and what the writer held and holds.
pub record Serves (now : ℤ) (end : StreamEnd) (old new : Stock) (unread left before after : Option (List ℕ)) : Type 0 where
  pub messages : List (List ℕ)
  pub rest : List ℕ
  pub read : Consumes unread left (joined messages ++ rest)
  pub each : AllByRecursion IsMessage messages
  pub ends : EndsWith end rest left
  pub records : IsLeft end rest (stock_after_messages old messages) new
  pub written : IsWritten end messages (Appends before after (replies_to now old messages))

-- How a stream in memory ends, by the rest after its messages: an unfinished one, or a head that is no
-- message's.
abbrev pub EndsAt : StreamEnd → List ℕ → Type 0
EndsAt (Ended size) rest = (fault_in rest ≡ None) × (size ≡ length rest)
EndsAt (Frame fault) rest = fault_in rest ≡ Some fault
EndsAt Io rest = ⊥
EndsAt NoMemory rest = ⊥

-- The messages of the stream that the input is were served in turn at a time, and the replies to them
-- appended. The stream ends by the rest.
pub record ServesAll (now : ℤ) (end : StreamEnd) (old new : Stock) (input before after : List ℕ) : Type 0 where
  pub messages : List (List ℕ)
  pub rest : List ℕ
  pub stream : Stream input messages rest
  pub ends : EndsAt end rest
  pub records : new ≡ stock_after_messages old messages
  pub written : after ≡ before ++ replies_to now old messages

-- the message was served, or some of its first questions
pub record IsUnanswered (message : List ℕ) (s new : Stock) : Type 0 where
  pub is : IsMessage message
  pub served : (new ≡ stock_after_batch s message) ⊎ IsBegun message s new

-- Some first messages of the input were served in turn at a time, and the replies to them appended. The
-- message that stands next has no reply, and may have been served.
pub record BreaksOff (now : ℤ) (old new : Stock) (input before after : List ℕ) : Type 0 where
  pub messages : List (List ℕ)
  pub next : List ℕ
  pub rest : List ℕ
  pub read : input ≡ joined messages ++ next ++ rest
  pub each : AllByRecursion IsMessage messages
  pub records : (new ≡ stock_after_messages old messages) ⊎ IsUnanswered next (stock_after_messages old messages) new
  pub written : after ≡ before ++ replies_to now old messages

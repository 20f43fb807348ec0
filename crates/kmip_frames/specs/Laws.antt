-- What holds of all bytes, of all streams and of all framers.
-- Source: own (law): what the laws say.
use Rattle.std.specs.Prelude.{◌≡◌, ◌≤◌, ◌<◌, ℕ, List, [], ◌++◌, length, Ok, None, Some}
use Rattle.kmip_frames.specs.declared.frame_fault.FrameFault.{FrameFault}
use Rattle.kmip_ttlv.specs.Limits.{head_size, most_bytes}
use Rattle.kmip_frames.specs.Streams.{IsMessage, BeginsWithNoMessage, Stream}
use Rattle.kmip_frames.specs.Framing.{fault_in, size_needed, feed, IsHeld}
use Rattle.kmip_frames.specs.Calls.{Call, Runs, all_taken, all_handed, IsFedAsTwo}

-- Bytes are messages and a rest in one way only.
abbrev pub StreamsAreOneWay : Type 0
StreamsAreOneWay =
    (bytes : List ℕ) (messages others : List (List ℕ)) (rest other : List ℕ)
    → Stream bytes messages rest → Stream bytes others other → (messages ≡ others) × (rest ≡ other)

-- Bytes that begin with a bad head go on doing so whatever follows, and no message begins there.
abbrev pub FaultsStay : Type 0
FaultsStay =
    (bytes more : List ℕ) (fault : FrameFault) → fault_in bytes ≡ Some fault
    → (fault_in (bytes ++ more) ≡ Some fault) × BeginsWithNoMessage (bytes ++ more)

-- What was handed over are the stream's messages, once no whole message is at the front of what is left.
-- `unread` is what no call took: nothing at the end of the stream, or the bytes after a fault.
abbrev pub CallsHandTheStream : Type 0
CallsHandTheStream =
    (calls : List Call) (held unread : List ℕ) → Runs [] calls held
    → BeginsWithNoMessage (held ++ unread)
    → Stream (all_taken calls ++ unread) (all_handed calls) (held ++ unread)

-- However two streams of the same bytes are cut, the same messages are handed over and the same bytes are
-- left, once no whole message is at the front of these.
abbrev pub CallsAgree : Type 0
CallsAgree =
    (calls others : List Call) (held other unread beyond : List ℕ)
    → Runs [] calls held → Runs [] others other
    → all_taken calls ++ unread ≡ all_taken others ++ beyond
    → BeginsWithNoMessage (held ++ unread) → BeginsWithNoMessage (other ++ beyond)
    → (all_handed calls ≡ all_handed others) × (held ++ unread ≡ other ++ beyond)

-- To feed two pieces joined is to feed the first, where that is not refused, and then what is left of it with
-- the second. What is held before is what a framer may hold.
abbrev pub PiecesJoin : Type 0
PiecesJoin =
    (held first second : List ℕ) (count : ℕ) → IsHeld held → feed held first ≡ Ok count
    → IsFedAsTwo held first second count

-- Bytes that are less than a head have no fault, and what they need is a head.
abbrev pub ShortBytesLackAHead : Type 0
ShortBytesLackAHead =
    (bytes : List ℕ) → length bytes < head_size
    → (fault_in bytes ≡ None) × (size_needed bytes ≡ head_size)

-- What is needed is a head at least, and the longest message at most.
abbrev pub SizesAreBounded : Type 0
SizesAreBounded =
    (bytes : List ℕ) → (head_size ≤ size_needed bytes) × (size_needed bytes ≤ most_bytes)

-- A fault is that of a whole head. Then no more than the head is needed, and no message begins there.
abbrev pub FaultsNeedNoMore : Type 0
FaultsNeedNoMore =
    (bytes : List ℕ) (fault : FrameFault) → fault_in bytes ≡ Some fault
    → (head_size ≤ length bytes) × (size_needed bytes ≡ head_size) × BeginsWithNoMessage bytes

-- Bytes are a message just where they have no fault and are as many as are needed.
abbrev pub MessagesAreWhole : Type 0
MessagesAreWhole =
    (bytes : List ℕ)
    → (IsMessage bytes → (fault_in bytes ≡ None) × (length bytes ≡ size_needed bytes))
    × (fault_in bytes ≡ None → length bytes ≡ size_needed bytes → IsMessage bytes)

-- Once a head is whole, more bytes change neither its fault nor what is needed.
abbrev pub MoreChangesNothing : Type 0
MoreChangesNothing =
    (bytes more : List ℕ) → head_size ≤ length bytes
    → (fault_in (bytes ++ more) ≡ fault_in bytes) × (size_needed (bytes ++ more) ≡ size_needed bytes)

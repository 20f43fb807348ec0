-- What a framer holds, takes and hands over. It is seen as the bytes that it holds.
-- Source: own (view): how a contract sees the code.
use Rattle.std.specs.Prelude.{◌≡◌, ℕ, ◌+◌, ◌-◌, ◌<◌, min, nat_lt, if◌then◌else◌, ◌⊎◌, List, [], ◌++◌, length, take, Option, Some, None, is_some, IsSome, Result, Ok, Err}
use Rattle.kmip_frames.specs.declared.frame_fault.FrameFault.{FrameFault}
use Rattle.kmip_frames.specs.declared.frame_fault.FrameFault.TheVariants.{BadHead, BadLength, TooLong, Failed, NoMemory}
use Rattle.kmip_frames.specs.Heads.{length_in, head_fault}
use Rattle.kmip_ttlv.specs.Limits.{head_size}
use Rattle.kmip_frames.specs.Streams.{IsMessage, BeginsWithNoMessage}

-- The fault of the head that the bytes begin with. There is none while the head is not whole.
unfoldable pub fault_in : List ℕ → Option FrameFault
fault_in bytes = if nat_lt (length bytes) head_size then None else head_fault (take head_size bytes)

-- How many bytes the message at the front takes, as far as the bytes say it: those of its head, until that is
-- whole and lawful.
unfoldable pub size_needed : List ℕ → ℕ
size_needed bytes =
    if nat_lt (length bytes) head_size then head_size
    else if is_some (head_fault (take head_size bytes)) then head_size
    else head_size + length_in (take head_size bytes)

-- how many bytes the present head, or once it is whole the message, still lacks
abbrev pub wants : List ℕ → ℕ
wants held = size_needed held - length held

-- What may be held. After a fault it is the eight bytes of the head. Until then it is less than a head, a
-- front of one message, or a whole one.
abbrev pub IsHeldAfter : Option FrameFault → List ℕ → Type 0
IsHeldAfter (Some fault) held = length held ≡ head_size
IsHeldAfter None held = (length held < head_size) ⊎ ((more : List ℕ) × IsMessage (held ++ more))

-- A framer may hold these bytes, by whether they have a fault.
abbrev pub IsHeld : List ℕ → Type 0
IsHeld held = IsHeldAfter (fault_in held) held

-- How many bytes of a piece are taken: all, or as many as the present message lacks. Its head may become
-- whole by the piece, so the size is that which the bytes held and the piece say together.
abbrev pub count_taken : List ℕ → List ℕ → ℕ
count_taken held piece = min (length piece) (size_needed (held ++ piece) - length held)

-- what is held once the bytes of a piece are taken
abbrev pub held_after : List ℕ → List ℕ → List ℕ
held_after held piece = held ++ take (count_taken held piece) piece

-- What `feed` returns, by the fault that came before, the fault that is there now, and how many bytes are
-- taken.
abbrev pub answer_after : Option FrameFault → Option FrameFault → ℕ → Result ℕ FrameFault
answer_after (Some before) now count = Err Failed
answer_after None (Some fault) count = Err fault
answer_after None None count = Ok count

-- What `feed` returns: `Failed` where a fault came before, or the fault of a head which is whole now, or else
-- how many bytes are taken.
abbrev pub feed : List ℕ → List ℕ → Result ℕ FrameFault
feed held piece = answer_after (fault_in held) (fault_in (held ++ piece)) (count_taken held piece)

-- What `next` returns, and what is held before it and after. It hands over all that is held, where that is a
-- message, and then nothing is held. It returns none where no message is at the front and no fault came, and
-- `Failed` after a fault. At want of memory a message is held. In these cases what is held stays.
abbrev pub Hands : {M : Type 0} → (M → List ℕ) → Result (Option M) FrameFault → List ℕ → List ℕ → Type 0
Hands bytes (Ok (Some message)) old new = IsMessage old × (bytes message ≡ old) × (new ≡ [])
Hands bytes (Ok None) old new = (fault_in old ≡ None) × BeginsWithNoMessage old × (new ≡ old)
Hands bytes (Err Failed) old new = IsSome (fault_in old) × (new ≡ old)
Hands bytes (Err NoMemory) old new = IsMessage old × (new ≡ old)
Hands bytes (Err BadHead) old new = ⊥
Hands bytes (Err BadLength) old new = ⊥
Hands bytes (Err TooLong) old new = ⊥

-- Private: `answer --stream` byte by byte, for its proof; no public contract names it.
-- Source: own (view): how the proof sees the code.
use Rattle.std.specs.Prelude.{ℕ, ◌==◌, Bool, true, false, if◌then◌else◌, List, [], ◌∷◌, ◌++◌, length, Option, Some, None, is_some}
use Rattle.kmip_frames.specs.Framing.{fault_in, size_needed}
use Rattle.kmip_frames.specs.Streams.{BeginsWithNoMessage}
use Rattle.kmip_frames.specs.declared.frame_fault.FrameFault.{FrameFault}
use Rattle.kmip_store.specs.Stock.{Stock}
use Rattle.kmip_server.specs.Batching.{stock_after_batch}
use Rattle.kmip_message_commands.specs.AnswerText.{reply_text}
use Rattle.kmip_message_commands.specs.Private.{Response}
use Rattle.kmip_message_commands.specs.StreamText.{stream_refusal_text}

-- The records, and the bytes of a message that the framer holds.
abbrev pub StreamState : Type 0
StreamState = Stock × List ℕ

-- A head came that is no message's.
abbrev pub is_over : StreamState → Bool
is_over s = is_some (fault_in s.1)

-- Between two pieces no whole message waits.
abbrev pub IsReady : StreamState → Type 0
IsReady s = BeginsWithNoMessage s.1

-- What is written where a byte made these bytes, by their fault and whether they are as many as are
-- needed.
abbrev pub made_text : Option FrameFault → Bool → Stock → List ℕ → List ℕ
made_text (Some fault) whole stock held = stream_refusal_text fault
made_text None true stock held = reply_text stock held
made_text None false stock held = []

-- The state after a byte that made these bytes.
abbrev pub made : Option FrameFault → Bool → Stock → List ℕ → StreamState
made (Some fault) whole stock held = (stock, held)
made None true stock held = (stock_after_batch stock held, [])
made None false stock held = (stock, held)

-- What is written for a byte.
abbrev pub byte_text : StreamState → ℕ → List ℕ
byte_text s b =
    if is_over s then []
    else made_text (fault_in (s.1 ++ b ∷ [])) (length (s.1 ++ b ∷ []) == size_needed (s.1 ++ b ∷ [])) s.0 (s.1 ++ b ∷ [])

-- The state after a byte.
abbrev pub state_after_byte : StreamState → ℕ → StreamState
state_after_byte s b =
    if is_over s then s
    else made (fault_in (s.1 ++ b ∷ [])) (length (s.1 ++ b ∷ []) == size_needed (s.1 ++ b ∷ [])) s.0 (s.1 ++ b ∷ [])

-- What is written for the bytes of a piece.
abbrev pub piece_text : StreamState → List ℕ → List ℕ
piece_text s [] = []
piece_text s (b ∷ bytes) = byte_text s b ++ piece_text (state_after_byte s b) bytes

-- The state after the bytes of a piece.
abbrev pub state_after_piece : StreamState → List ℕ → StreamState
state_after_piece s [] = s
state_after_piece s (b ∷ bytes) = state_after_piece (state_after_byte s b) bytes

-- How `answer --stream` responds to a piece.
abbrev pub streams : Response StreamState
streams = record { text = piece_text; after = state_after_piece; refuses = λ _. false; over = is_over }

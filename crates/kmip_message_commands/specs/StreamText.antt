-- What `answer --stream` writes, whose lines are pieces of one stream of messages, and how it ends.
-- Source: own (text): what the program prints. `IsWritten` and what follows it are own (view).
use Rattle.std.specs.Prelude.{◌≡◌, ◌==◌, ℕ, Bool, true, false, not, ◌&&◌, if◌then◌else◌, List, [], ◌∷◌, ◌++◌, length, codes, Option, Some, None, IfSome}
use Rattle.std.specs.Fmt.{decimal}
use Rattle.std.specs.Io.KnownBytes.{Appends}
use Rattle.std.specs.List.{flat_map}
use Rattle.kmip_frames.specs.Faults.{frame_fault_number, frame_fault_name}
use Rattle.kmip_frames.specs.Framing.{fault_in}
use Rattle.kmip_frames.specs.Streams.{Stream}
use Rattle.kmip_frames.specs.declared.frame_fault.FrameFault.{FrameFault}
use Rattle.kmip_store.specs.Stock.{Stock}
use Rattle.kmip_server.specs.Batching.{stock_after_batch}
use Rattle.kmip_message_commands.specs.AnswerText.{first_stock, reply_text}
use Rattle.kmip_message_commands.specs.Judging.{Saying, nothing, too_long, no_hex, message, saying_of, has_refused_line}
use Rattle.kmip_message_commands.specs.Lines.{lines_of}
use Rattle.kmip_message_commands.specs.declared.input_end.InputEnd.{InputEnd}
use Rattle.kmip_message_commands.specs.declared.input_end.InputEnd.TheVariants.{Whole, Cut, Refused}
use Rattle.kmip_message_commands.specs.declared.stream_outcome.StreamOutcome.{StreamOutcome}

-- The bytes that a line adds to the stream: none where it is empty or refused.
abbrev pub piece_of : Saying → List ℕ
piece_of nothing = []
piece_of too_long = []
piece_of no_hex = []
piece_of (message bytes) = bytes

-- The pieces of lines, joined.
abbrev pub pieces_of : List (List ℕ) → List ℕ
pieces_of lines = flat_map (λ line. piece_of (saying_of line)) lines

-- The stream that the lines of the input are pieces of.
abbrev pub stream_of : List ℕ → List ℕ
stream_of input = pieces_of (lines_of input)

-- The replies of one server to messages in turn, each as the messages before it left the records.
abbrev pub replies_text : Stock → List (List ℕ) → List ℕ
replies_text stock [] = []
replies_text stock (m ∷ messages) = reply_text stock m ++ replies_text (stock_after_batch stock m) messages

-- How a stream ends, by the fault of what is left of it and its size.
abbrev pub end_by : Option FrameFault → ℕ → InputEnd
end_by (Some fault) left = Refused fault
end_by None left = if left == 0 then Whole else Cut left

-- How a stream ends of which this rest is left: whole, cut inside a message, or refused at a head that is
-- no message's.
abbrev pub end_of : List ℕ → InputEnd
end_of rest = end_by (fault_in rest) (length rest)

-- The line of a refused stream, with the number and the name of the fault of a head.
unfoldable pub stream_refusal_text : FrameFault → List ℕ
stream_refusal_text fault = codes "stream refused: " ++ decimal (frame_fault_number fault) ++ codes " " ++ frame_fault_name fault ++ codes "\n"

-- The line of a cut stream, which says how many bytes are left.
unfoldable pub cut_text : ℕ → List ℕ
cut_text left = codes "stream cut: " ++ decimal left ++ codes "\n"

-- What is written at the end of a stream.
abbrev pub end_text : InputEnd → List ℕ
end_text Whole = []
end_text (Cut left) = cut_text left
end_text (Refused fault) = stream_refusal_text fault

-- What of the end is written once the lines have ended. A fault was written when it came.
abbrev pub tail_text : InputEnd → List ℕ
tail_text Whole = []
tail_text (Cut left) = cut_text left
tail_text (Refused fault) = []

-- Whether the stream was refused. The lines after a fault are not looked at.
abbrev pub is_refusal : InputEnd → Bool
is_refusal Whole = false
is_refusal (Cut left) = false
is_refusal (Refused fault) = true

-- Whether the stream was neither refused nor cut.
abbrev pub is_whole_end : InputEnd → Bool
is_whole_end Whole = true
is_whole_end (Cut left) = false
is_whole_end (Refused fault) = false

-- Whether no line was refused, and the stream neither refused nor cut.
abbrev pub is_whole : StreamOutcome → Bool
is_whole outcome = not outcome.has_refused && is_whole_end outcome.end

-- The records after messages in turn.
abbrev pub stock_after_messages : Stock → List (List ℕ) → Stock
stock_after_messages stock [] = stock
stock_after_messages stock (m ∷ messages) = stock_after_messages (stock_after_batch stock m) messages

-- What is said of lines, where the records are these and this much is held of a message: what is written,
-- how the stream ends, and whether a line is refused.
abbrev pub Telling : Type 1
Telling = Stock → List ℕ → List ℕ → InputEnd → Bool → Type 0

-- A refused line says why, and the stream goes on after it.
pub record IsPassedOver (why : List ℕ) (later : Telling) (stock : Stock) (held text : List ℕ) (end : InputEnd) (refused : Bool) : Type 0 where
  pub more : List ℕ
  pub others : Bool
  pub text_is : text ≡ why ++ more
  pub is_refused : refused ≡ true
  pub goes_on : later stock held more end others

-- What comes after a piece. No line is looked at after a fault.
abbrev pub GoesOn : Option FrameFault → Telling → Telling
GoesOn (Some fault) later stock held text end refused = (text ≡ stream_refusal_text fault) × (end ≡ Refused fault) × (refused ≡ false)
GoesOn None later stock held text end refused = later stock held text end refused

-- A piece is answered by the replies to the messages that are whole with it.
pub record IsTaken (piece : List ℕ) (later : Telling) (stock : Stock) (held text : List ℕ) (end : InputEnd) (refused : Bool) : Type 0 where
  pub messages : List (List ℕ)
  pub rest : List ℕ
  pub more : List ℕ
  pub stream : Stream (held ++ piece) messages rest
  pub text_is : text ≡ replies_text stock messages ++ more
  pub goes_on : GoesOn (fault_in rest) later (stock_after_messages stock messages) rest more end refused

-- What is said of one line, by what it says.
abbrev pub IsTold : Saying → Telling → Telling
IsTold nothing later = later
IsTold too_long later = IsPassedOver (codes "refused: length\n") later
IsTold no_hex later = IsPassedOver (codes "refused: hex\n") later
IsTold (message piece) later = IsTaken piece later

-- What is said of lines one after the other, and after the last of the end of the stream.
abbrev pub AreTold : List (List ℕ) → Telling
AreTold [] stock held text end refused = (text ≡ end_text end) × (end ≡ end_of held) × (refused ≡ false)
AreTold (line ∷ lines) stock held text end refused = IsTold (saying_of line) (AreTold lines) stock held text end refused

-- What was written, and what is said of the stream, are those of the lines of the input.
pub record IsWritten (input : List ℕ) (outcome : StreamOutcome) (old new : Option (List ℕ)) : Type 0 where
  pub text : List ℕ
  pub written : Appends old new text
  pub told : AreTold (lines_of input) first_stock [] text outcome.end outcome.has_refused

-- The stream was answered: what is left of it says how it ends. Where no line is refused, the replies to
-- its messages and the line of its end are all that was written. Where the stream is not refused, it is
-- said of the whole input whether a line is refused.
pub record IsAnswered (input : List ℕ) (outcome : StreamOutcome) (old new : Option (List ℕ)) : Type 0 where
  pub messages : List (List ℕ)
  pub rest : List ℕ
  pub stream : Stream (stream_of input) messages rest
  pub end : outcome.end ≡ end_of rest
  pub lines : is_refusal outcome.end ≡ false → outcome.has_refused ≡ has_refused_line input
  pub text : has_refused_line input ≡ false → Appends old new (replies_text first_stock messages ++ end_text outcome.end)

-- No line is refused, the stream is messages to its end, and the replies to them are all that was
-- written.
pub record IsAllAnswered (input : List ℕ) (old new : Option (List ℕ)) : Type 0 where
  pub messages : List (List ℕ)
  pub stream : Stream (stream_of input) messages []
  pub lines : has_refused_line input ≡ false
  pub text : Appends old new (replies_text first_stock messages)

-- The stream was answered, and `refused` says whether a line was refused, or the stream refused or cut.
pub record IsStreamAnsweredAs (input : List ℕ) (old new : Option (List ℕ)) (refused : Bool) : Type 0 where
  pub outcome : StreamOutcome
  pub refused_is : refused ≡ not (is_whole outcome)
  pub lines : IsWritten input outcome old new
  pub stream : IsAnswered input outcome old new
  pub whole : refused ≡ false → IsAllAnswered input old new

-- The stream that was read was answered so.
abbrev pub IsStreamAnswered : Option (List ℕ) → Option (List ℕ) → Option (List ℕ) → Bool → Type 0
IsStreamAnswered read old new refused = IfSome read (λ input. IsStreamAnsweredAs input old new refused)

-- It broke off after some of the lines. What was written is what is written for these alone, but for the
-- line of a cut at their end, and then `tail`.
pub record IsBrokenOff (input tail : List ℕ) (old new : Option (List ℕ)) : Type 0 where
  pub front : List (List ℕ)
  pub rest : List (List ℕ)
  pub lines : lines_of input ≡ front ++ rest
  pub text : List ℕ
  pub end : InputEnd
  pub refused : Bool
  pub told : AreTold front first_stock [] (text ++ tail_text end) end refused
  pub written : Appends old new (text ++ tail)

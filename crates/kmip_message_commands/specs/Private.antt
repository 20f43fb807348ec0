-- Private: definitions that only clauses of private functions cite.
-- Source: own (view): parts of the public definitions of this crate.
use Rattle.std.specs.Prelude.{◌≡◌, ◌≢◌, ℕ, ◌+◌, ◌-◌, List, [], ◌∷◌, ◌++◌, if◌then◌else◌, length, take, Option, Some, Bool, false, IfSome}
use Rattle.std.specs.List.{All}
use Rattle.std.specs.Io.KnownBytes.{Consumes, IsAtEnd, Appends}
use Rattle.kmip_message_commands.specs.declared.next_line.NextLine.{NextLine}
use Rattle.kmip_message_commands.specs.declared.next_line.NextLine.TheVariants.{Line, End}
use Rattle.kmip_message_commands.specs.declared.piece.Piece.{Piece}
use Rattle.kmip_message_commands.specs.declared.piece.Piece.TheVariants.{Middle, Last, Nothing}
use Rattle.kmip_message_commands.specs.Lines.{most_digits, lines_of}
use Rattle.kmip_message_commands.specs.declared.judged.Judged.{Judged}
use Rattle.kmip_message_commands.specs.declared.judged.Judged.TheVariants.{Empty, Long, NotHex, Message}
use Rattle.kmip_message_commands.specs.Judging.{Saying, nothing, too_long, no_hex, message, saying_of, are_refused}
use Rattle.kmip_message_commands.specs.Printing.{WroteFront}
use Rattle.kmip_message_commands.specs.LineText.{state_after_saying, lines_text}
use Rattle.kmip_store.specs.Stock.{Stock}
use Rattle.kmip_server.specs.Batching.{stock_after_batch}
use Rattle.kmip_message_commands.specs.AnswerText.{reply_text}
use Rattle.kmip_message_commands.specs.declared.form.Form.{Form}
use Rattle.kmip_message_commands.specs.Showing.{is_no_item, show_text}

-- How much is kept of a line: enough to see that it is too long.
abbrev pub most_kept : ℕ
most_kept = most_digits + 1

-- No line feed is among the bytes.
abbrev pub IsWithinLine : List ℕ → Type 0
IsWithinLine bytes = All (λ b. b ≢ 10) bytes

-- What is kept of a line once a piece joins what was kept of it before.
abbrev pub kept_with : List ℕ → List ℕ → List ℕ
kept_with kept piece = kept ++ take (most_kept - length kept) piece

-- A reader lost some bytes of a line and the bytes `end` after them, and they joined what was
-- kept.
pub record TakesPart (old new : Option (List ℕ)) (before after end : List ℕ) : Type 0 where
  pub part : List ℕ
  pub within : IsWithinLine part
  pub consumed : Consumes old new (part ++ end)
  pub kept : after ≡ kept_with before part

-- What one look into the reader's buffer took of a line.
abbrev pub TakesPiece : Option (List ℕ) → Option (List ℕ) → List ℕ → List ℕ → Piece → Type 0
TakesPiece old new before after Middle = TakesPart old new before after []
TakesPiece old new before after (Last has_more) = TakesPart old new before after (10 ∷ [])
TakesPiece old new before after Nothing = Consumes old new [] × IsAtEnd old × (after ≡ before)

-- A reader lost its first line, of which `kept` is what is kept.
pub record TakesFirst (input kept : List ℕ) (rest : Option (List ℕ)) : Type 0 where
  pub line : List ℕ
  pub after : List ℕ
  pub left : rest ≡ Some after
  pub is_kept : kept ≡ take most_kept line
  pub lines : lines_of input ≡ line ∷ lines_of after

-- A reader of the bytes `input` lost its first line, or had none.
abbrev pub TakesLine : List ℕ → List ℕ → Option (List ℕ) → NextLine → Type 0
TakesLine input kept rest (Line has_more) = TakesFirst input kept rest
TakesLine input kept rest End = (input ≡ []) × (rest ≡ Some [])

-- What is judged, as a contract sees it, beside the bytes that a message has.
abbrev pub judge : Judged → List ℕ → Saying
judge Empty bytes = nothing
judge Long bytes = too_long
judge NotHex bytes = no_hex
judge Message bytes = message bytes

-- The state after lines.
abbrev pub state_after_lines : {S : Type 0} → (S → List ℕ → S) → S → List (List ℕ) → S
state_after_lines after state [] = state
state_after_lines after state (line ∷ lines) =
    state_after_lines after (state_after_saying after state (saying_of line)) lines

-- The lines that are read, up to the first after which the command is over.
abbrev pub lines_read : {S : Type 0} → (S → List ℕ → S) → (S → Bool) → S → List (List ℕ) → List (List ℕ)
lines_read after over state [] = []
lines_read after over state (line ∷ lines) =
    line
    ∷ (if over (state_after_saying after state (saying_of line)) then []
    else lines_read after over (state_after_saying after state (saying_of line)) lines)

-- How a command responds: what it writes for a message, the state after it, which messages it
-- refuses, and in which states it is over.
pub record Response (S : Type 0) : Type 0 where
  pub text : S → List ℕ → List ℕ
  pub after : S → List ℕ → S
  pub refuses : List ℕ → Bool
  pub over : S → Bool

-- The lines of an input that a command reads.
abbrev pub input_read : {S : Type 0} → Response S → S → List ℕ → List (List ℕ)
input_read r state input = lines_read r.after r.over state (lines_of input)

-- From the state `first` on these lines were responded to: what was written, the state then, and
-- whether one is refused.
pub record Responds {S : Type 0} (r : Response S) (lines : List (List ℕ)) (first state : S) (old new : Option (List ℕ)) (refused : Bool) : Type 0 where
  pub text_is : Appends old new (lines_text r.text r.after first lines)
  pub state_is : state ≡ state_after_lines r.after first lines
  pub refused_is : refused ≡ are_refused r.refuses lines

-- All lines of the input that are read were responded to.
abbrev pub RespondsTo : {S : Type 0} → Response S → Option (List ℕ) → S → S → Option (List ℕ) → Option (List ℕ) → Bool → Type 0
RespondsTo r read first state old new refused =
    IfSome read (λ input. Responds r (input_read r first input) first state old new refused)

-- Some first ones of the lines that are read were responded to, and no more was written.
abbrev pub BreaksOffAt : {S : Type 0} → Response S → Option (List ℕ) → S → Option (List ℕ) → Option (List ℕ) → Type 0
BreaksOffAt r read first old new =
    IfSome read (λ input. WroteFront (lines_text r.text r.after first) (input_read r first input) [] old new)

-- How `answer` responds.
abbrev pub answers : Response Stock
answers = record { text = reply_text; after = stock_after_batch; refuses = λ _. false; over = λ _. false }

-- How `show` responds: no message changes what is written for the next.
abbrev pub shows : Response Form
shows = record { text = show_text; after = λ form message. form; refuses = is_no_item; over = λ _. false }

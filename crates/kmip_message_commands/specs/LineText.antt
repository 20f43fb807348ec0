-- What a command writes for the lines of its input, where `text` is what it writes for a message and
-- `after` the state that a message leaves it in.
-- Source: own (text): what the program prints.
use Rattle.std.specs.Prelude.{ℕ, List, [], ◌∷◌, ◌++◌, codes}
use Rattle.kmip_message_commands.specs.Judging.{Saying, nothing, too_long, no_hex, message, saying_of}
use Rattle.kmip_message_commands.specs.Lines.{lines_of}

-- What is written for what a line says: nothing for an empty line, and why a line is refused that is too
-- long or no hexadecimal.
abbrev pub saying_text : {S : Type 0} → (S → List ℕ → List ℕ) → S → Saying → List ℕ
saying_text text state nothing = []
saying_text text state too_long = codes "refused: length\n"
saying_text text state no_hex = codes "refused: hex\n"
saying_text text state (message bytes) = text state bytes

-- The state after a line, which only a message changes.
abbrev pub state_after_saying : {S : Type 0} → (S → List ℕ → S) → S → Saying → S
state_after_saying after state nothing = state
state_after_saying after state too_long = state
state_after_saying after state no_hex = state
state_after_saying after state (message bytes) = after state bytes

-- What is written for lines, for each in the state that the lines before it left.
abbrev pub lines_text : {S : Type 0} → (S → List ℕ → List ℕ) → (S → List ℕ → S) → S → List (List ℕ) → List ℕ
lines_text text after state [] = []
lines_text text after state (line ∷ lines) =
    saying_text text state (saying_of line)
    ++ lines_text text after (state_after_saying after state (saying_of line)) lines

-- What is written for the lines of the whole input.
abbrev pub input_text : {S : Type 0} → (S → List ℕ → List ℕ) → (S → List ℕ → S) → S → List ℕ → List ℕ
input_text text after state input = lines_text text after state (lines_of input)

-- What a line says, and whether it is refused.
-- Source: own (text): what a line may be; how long it may be is own (limit).
use Rattle.std.specs.Prelude.{ℕ, Bool, true, false, ◌||◌, List, [], ◌∷◌, length, nat_lt, ◌==◌, if◌then◌else◌, Result, Ok, Err}
use Rattle.hex.specs.declared.error.FromHexError.{FromHexError}
use Rattle.hex.specs.Hex.{decode_of}
use Rattle.kmip_message_commands.specs.Lines.{lines_of, most_digits}

-- What a line says: nothing, too much to be looked at, no hexadecimal, or a message.
pub data Saying : Type 0 where
  nothing : Saying
  too_long : Saying
  no_hex : Saying
  message : List ℕ → Saying

-- What a line says by what decoding its hexadecimal gave.
abbrev pub saying_decoded : Result (List ℕ) FromHexError → Saying
saying_decoded (Ok bytes) = message bytes
saying_decoded (Err fault) = no_hex

-- What a line says. Its length is looked at before its bytes.
abbrev pub saying_of : List ℕ → Saying
saying_of line =
    if length line == 0 then nothing
    else if nat_lt most_digits (length line) then too_long
    else saying_decoded (decode_of line)

-- Whether a line is refused, by a command that refuses some messages. An empty line is not refused.
abbrev pub is_saying_refused : (List ℕ → Bool) → Saying → Bool
is_saying_refused refuses nothing = false
is_saying_refused refuses too_long = true
is_saying_refused refuses no_hex = true
is_saying_refused refuses (message bytes) = refuses bytes

-- Whether one of the lines is refused.
abbrev pub are_refused : (List ℕ → Bool) → List (List ℕ) → Bool
are_refused refuses [] = false
are_refused refuses (line ∷ lines) = is_saying_refused refuses (saying_of line) || are_refused refuses lines

-- Whether a line of the input is refused.
abbrev pub has_refused : (List ℕ → Bool) → List ℕ → Bool
has_refused refuses input = are_refused refuses (lines_of input)

-- Whether a line of the input is refused by a command that refuses no message: the line is too long, or
-- no hexadecimal.
abbrev pub has_refused_line : List ℕ → Bool
has_refused_line input = has_refused (λ _. false) input

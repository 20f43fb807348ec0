-- What reading a script gives, line by line, as the crates above cite it.
-- Source: own (text): `ScriptTexts` says which texts are scripts. *found*, *only*, *fault* and *first* of
-- `read_script` tie this file to it.
use Rattle.std.specs.Prelude.{◌≡◌, ℕ, ◌+◌, ◌==◌, nat_lt, nat_le, ◌&&◌, List, [], ◌∷◌, ◌++◌, codes, length, option_map, Option, Some, None, Result, Ok, Err, if◌then◌else◌}
use Rattle.std.specs.List.{list_all}
use Rattle.kmip_plan.specs.TargetWords.{is_text}
use Rattle.kmip_runs.specs.declared.left.Left.{Left}
use Rattle.kmip_runs.specs.declared.left.Left.TheVariants.{Old, New, Torn}
use Rattle.kmip_scripted.specs.ScriptTexts.{is_digit, lines_in, most_lines, value_behind}
use Rattle.kmip_scripted.specs.declared.script_fault.ScriptFault.{ScriptFault}
use Rattle.kmip_scripted.specs.declared.script_fault.ScriptFault.TheVariants.{Line, NoMemory}
use Rattle.kmip_scripted.specs.declared.word.Word.{Word}
use Rattle.kmip_scripted.specs.declared.word.Word.TheVariants.{Pass, LoseRequest, LoseReply, Cut, Stale, Again, Save, Prolong, Restart, Crash}

-- A number of 1 to 6 decimal digits, where the digits are one.
abbrev pub number_in : List ℕ → Option ℕ
number_in digits =
    if nat_le 1 (length digits) && nat_le (length digits) 6 && list_all is_digit digits then Some (value_behind 0 digits) else None

-- What stands before the first space and what after it, with one more byte in front.
abbrev pub before_space : ℕ → Option (List ℕ × List ℕ) → Option (List ℕ × List ℕ)
before_space byte parts = option_map (λ p. (byte ∷ p.0, p.1)) parts

-- What stands before the first space, and what after it; none where there is no space.
abbrev pub at_space : List ℕ → Option (List ℕ × List ℕ)
at_space [] = None
at_space (byte ∷ bytes) = if byte == 32 then Some ([], bytes) else before_space byte (at_space bytes)

-- The word without a number that a line says; none where it says none of these.
abbrev pub plain_word : List ℕ → Option Word
plain_word word =
    if is_text word (codes "pass") then Some Pass
    else if is_text word (codes "lose-request") then Some LoseRequest
    else if is_text word (codes "lose-reply") then Some LoseReply
    else if is_text word (codes "save") then Some Save
    else if is_text word (codes "prolong") then Some Prolong
    else None

-- The word `restart` with what stands after it: a number, or `none`.
abbrev pub restart_in : List ℕ → Option Word
restart_in number = if is_text number (codes "none") then Some (Restart None) else option_map (λ n. Restart (Some n)) (number_in number)

-- What a crash leaves, by its word.
abbrev pub left_in : List ℕ → Option Left
left_in word =
    if is_text word (codes "old") then Some Old
    else if is_text word (codes "new") then Some New
    else if is_text word (codes "torn") then Some Torn
    else None

-- The word `crash` of so many calls, which are at least 1, and of what it leaves.
abbrev pub crash_by : Option ℕ → Option Left → Option Word
crash_by (Some calls) (Some left) = if calls == 0 then None else Some (Crash (record { calls = calls; left = left }))
crash_by calls left = None

-- The word `crash` with what stands after it, by its parts at the first space: a number, and what is left.
abbrev pub crash_in : Option (List ℕ × List ℕ) → Option Word
crash_in None = None
crash_in (Some parts) = crash_by (number_in parts.0) (left_in parts.1)

-- The word with a number after it that a line says.
abbrev pub numbered_word : List ℕ → List ℕ → Option Word
numbered_word word number =
    if is_text word (codes "cut") then option_map Cut (number_in number)
    else if is_text word (codes "stale") then option_map Stale (number_in number)
    else if is_text word (codes "again") then option_map Again (number_in number)
    else if is_text word (codes "restart") then restart_in number
    else if is_text word (codes "crash") then crash_in (at_space number)
    else None

-- The word that a line says, by its parts at the first space.
abbrev pub word_by : List ℕ → Option (List ℕ × List ℕ) → Option Word
word_by line None = plain_word line
word_by line (Some parts) = numbered_word parts.0 parts.1

-- The word that a line says; none where it says none.
abbrev pub word_in : List ℕ → Option Word
word_in line = word_by line (at_space line)

-- The one word of a line, or the fault of the line of this number.
abbrev pub word_or_fault : Option Word → ℕ → Result (List Word) ScriptFault
word_or_fault None number = Err (Line number)
word_or_fault (Some word) number = Ok (word ∷ [])

-- The words of a line of this number: one, or none where it is empty.
abbrev pub words_of_line : List ℕ → ℕ → Result (List Word) ScriptFault
words_of_line [] number = Ok []
words_of_line (byte ∷ bytes) number = word_or_fault (word_in (byte ∷ bytes)) number

-- Some words, and then those that were read, or the fault of reading.
abbrev pub with_front : List Word → Result (List Word) ScriptFault → Result (List Word) ScriptFault
with_front words (Ok others) = Ok (words ++ others)
with_front words (Err fault) = Err fault

-- What reading a line gave, and then what reading the others did: the first fault, where there is one.
abbrev pub followed_by : Result (List Word) ScriptFault → Result (List Word) ScriptFault → Result (List Word) ScriptFault
followed_by (Ok words) read = with_front words read
followed_by (Err fault) read = Err fault

-- The words of lines, of which the first has this number, or the first line that is at fault.
abbrev pub words_from : ℕ → List (List ℕ) → Result (List Word) ScriptFault
words_from number [] = Ok []
words_from number (line ∷ lines) =
    if nat_lt most_lines number then Err (Line number) else followed_by (words_of_line line number) (words_from (number + 1) lines)

-- The words of a text, or the first line that is at fault.
abbrev pub script_read : List ℕ → Result (List Word) ScriptFault
script_read text = words_from 1 (lines_in text)

-- A call answered the fault that reading gives, unless memory ran out.
abbrev pub FailsScript : {Y : Type 0} → ScriptFault → Result Y ScriptFault → Type 0
FailsScript NoMemory read = Unit {0}
FailsScript (Line number) read = read ≡ Err (Line number)

-- A call answered what reading gives, unless memory ran out.
abbrev pub GivesScript : {X Y : Type 0} → (X → Y) → Result X ScriptFault → Result Y ScriptFault → Type 0
GivesScript view (Ok x) read = read ≡ Ok (view x)
GivesScript view (Err fault) read = FailsScript fault read

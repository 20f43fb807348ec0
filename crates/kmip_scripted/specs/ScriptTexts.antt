-- Which texts are scripts: a word a line, and empty lines, which say nothing.
-- Source: own (text): what a person writes in a script; the lengths are own (limit).
use Rattle.std.specs.Prelude.{◌≡◌, ◌≢◌, ◌⊎◌, ◌≤◌, ⊤, ℕ, ◌+◌, ◌-◌, ◌*◌, ◌==◌, ◌&&◌, nat_le, Bool, true, List, [], ◌∷◌, ◌++◌, codes, length, Some, None}
use Rattle.std.specs.List.{list_all, slice_split}
use Rattle.kmip_runs.specs.declared.crash.Crash.{Crash as MachineCrash}
use Rattle.kmip_runs.specs.declared.left.Left.{Left}
use Rattle.kmip_runs.specs.declared.left.Left.TheVariants.{Old, New, Torn}
use Rattle.kmip_scripted.specs.declared.word.Word.{Word}
use Rattle.kmip_scripted.specs.declared.word.Word.TheVariants.{Pass, LoseRequest, LoseReply, Cut, Stale, Again, Save, Prolong, Restart, Crash}

-- The most lines that a script may have. Own (limit).
abbrev pub most_lines : ℕ
most_lines = 10000

-- A decimal digit.
abbrev pub is_digit : ℕ → Bool
is_digit byte = nat_le 48 byte && nat_le byte 57

-- The number that digits are after others that are a number already.
abbrev pub value_behind : ℕ → List ℕ → ℕ
value_behind number [] = number
value_behind number (digit ∷ digits) = value_behind (10 * number + (digit - 48)) digits

-- The digits are a decimal number of 1 to 6 digits, zeros in front allowed.
pub record IsNumber (digits : List ℕ) (number : ℕ) : Type 0 where
  pub some : 1 ≤ length digits
  pub few : length digits ≤ 6
  pub are_digits : list_all is_digit digits ≡ true
  pub value : number ≡ value_behind 0 digits

-- The line is this front, and then a number.
pub record IsNumbered (front : List ℕ) (number : ℕ) (line : List ℕ) : Type 0 where
  pub digits : List ℕ
  pub line_is : line ≡ front ++ digits
  pub is_number : IsNumber digits number

-- The word of what a crash leaves.
abbrev pub left_word : Left → List ℕ
left_word Old = codes "old"
left_word New = codes "new"
left_word Torn = codes "torn"

-- The line is `crash`, a number that is at least 1, and the word of what is left.
pub record IsCrash (crash : MachineCrash) (line : List ℕ) : Type 0 where
  pub digits : List ℕ
  pub line_is : line ≡ codes "crash " ++ digits ++ codes " " ++ left_word crash.left
  pub is_number : IsNumber digits crash.calls
  pub some : 1 ≤ crash.calls

-- The line says the word.
abbrev pub IsWord : List ℕ → Word → Type 0
IsWord line Pass = line ≡ codes "pass"
IsWord line LoseRequest = line ≡ codes "lose-request"
IsWord line LoseReply = line ≡ codes "lose-reply"
IsWord line (Cut size) = IsNumbered (codes "cut ") size line
IsWord line (Stale number) = IsNumbered (codes "stale ") number line
IsWord line (Again number) = IsNumbered (codes "again ") number line
IsWord line Save = line ≡ codes "save"
IsWord line Prolong = line ≡ codes "prolong"
IsWord line (Restart None) = line ≡ codes "restart none"
IsWord line (Restart (Some number)) = IsNumbered (codes "restart ") number line
IsWord line (Crash crash) = IsCrash crash line

-- The lines say these words, one after the other. An empty line says nothing.
abbrev pub Say : List (List ℕ) → List Word → Type 0
Say [] [] = ⊤
Say [] (word ∷ words) = ⊥
Say ([] ∷ lines) words = Say lines words
Say ((byte ∷ bytes) ∷ lines) [] = ⊥
Say ((byte ∷ bytes) ∷ lines) (word ∷ words) = IsWord (byte ∷ bytes) word × Say lines words

-- The lines without the last one, where that is empty.
abbrev pub without_empty_end : List (List ℕ) → List (List ℕ)
without_empty_end [] = []
without_empty_end ([] ∷ []) = []
without_empty_end ((byte ∷ bytes) ∷ []) = (byte ∷ bytes) ∷ []
without_empty_end (line ∷ next ∷ lines) = line ∷ without_empty_end (next ∷ lines)

-- The lines of a text: what stands between its line feeds, and what stands after the last one where that
-- is not empty.
abbrev pub lines_in : List ℕ → List (List ℕ)
lines_in text = without_empty_end (slice_split (λ b. b == 10) text)

-- The text is a script of these words.
pub record IsScript (text : List ℕ) (words : List Word) : Type 0 where
  pub few : length (lines_in text) ≤ most_lines
  pub say : Say (lines_in text) words

-- The line says something, and no word.
pub record IsNoWord (line : List ℕ) : Type 0 where
  pub some : line ≢ []
  pub none : (word : Word) → ¬ (IsWord line word)

-- The line of this number, from 1, is the first at fault: those before it say words, and it says none, or
-- it is one too many.
pub record FailsAt (text : List ℕ) (number : ℕ) : Type 0 where
  pub before : List (List ℕ)
  pub line : List ℕ
  pub behind : List (List ℕ)
  pub words : List Word
  pub lines_are : lines_in text ≡ before ++ line ∷ behind
  pub number_is : number ≡ length before + 1
  pub few : length before ≤ most_lines
  pub say : Say before words
  pub amiss : IsNoWord line ⊎ (length before ≡ most_lines)

-- The text of a progress, and what each of its lines says, so that one line can be written anew.
-- Source: own (view).
use Rattle.std.specs.Prelude.{◌≡◌, ℕ, ◌==◌, Bool, false, ◌&&◌, List, [], ◌∷◌, ◌++◌, length, is_some, slice_get}
use Rattle.std.specs.Bool.{beq}
use Rattle.std.specs.Option.{option_map_or}
use Rattle.kmip_plan.specs.declared.key.Key.{Key}
use Rattle.kmip_progress.specs.declared.known.Known.{Known}
use Rattle.kmip_progress.specs.declared.saved_line.SavedLine.{SavedLine}
use Rattle.kmip_progress.specs.Suiting.{Suits}
use Rattle.kmip_progress.specs.Texts.{key_line, progress_text}

-- The line of a key, with its line feed.
abbrev pub line_bytes : Key → Known → List ℕ
line_bytes key known = key_line key known ++ 0x0A ∷ []

-- The number of bytes of a key's line, the number of steps that it says are done, and whether it has an
-- identifier.
abbrev pub saved_line : Key → Known → SavedLine
saved_line key known =
    record { size = length (line_bytes key known); done = known.done; is_identified = is_some known.identifier }

-- The same of each key, in the order of the keys.
abbrev pub saved_lines : List Key → List Known → List SavedLine
saved_lines [] progress = []
saved_lines (key ∷ keys) [] = []
saved_lines (key ∷ keys) (known ∷ progress) = saved_line key known ∷ saved_lines keys progress

-- What a contract sees of a saved text: its bytes, and what the line of each key says.
pub record SavedState : Type 0 where
  pub text : List ℕ
  pub lines : List SavedLine

-- The saved text of a progress.
abbrev pub saved_of : List Key → List Known → SavedState
saved_of keys progress = record { text = progress_text keys progress; lines = saved_lines keys progress }

-- It is the saved text of some progress that suits the keys.
pub record IsSavedText (keys : List Key) (saved : SavedState) : Type 0 where
  pub progress : List Known
  pub suits : Suits keys progress
  pub is : saved ≡ saved_of keys progress

-- A line says this number of steps, and that an identifier is known or not.
abbrev pub line_says : ℕ → Bool → SavedLine → Bool
line_says done is_identified line = line.done == done && beq line.is_identified is_identified

-- There is a line at a place, and it says this.
abbrev pub says_at : List SavedLine → ℕ → ℕ → Bool → Bool
says_at lines place done is_identified = option_map_or (line_says done is_identified) (slice_get lines place) false

-- Which exchanges over a link in memory go amiss, and so are counted as disturbed.
-- Source: own (choice): the standard does not say when an exchange goes amiss.
use Rattle.std.specs.Prelude.{◌==◌, ◌+◌, ℕ, Bool, true, false, not, ◌||◌, List, [], ◌∷◌, Option}
use Rattle.kmip_scripted.specs.Counting as losses
use Rattle.kmip_scripted.specs.declared.word.Word.{Word}
use Rattle.kmip_scripted.specs.declared.word.Word.TheVariants.{Pass, Again}

-- Whether the word is `pass`.
abbrev pub is_pass : Word → Bool
is_pass Pass = true
is_pass word = false

-- Whether one of the words that repeat before the next exchange delivers its message, where `count`
-- messages were asked before it.
abbrev pub is_repeated : ℕ → List Word → Bool
is_repeated count [] = false
is_repeated count (Again number ∷ words) = (number == count + 1) || is_repeated count words
is_repeated count (word ∷ words) = false

-- An exchange is disturbed where its message was delivered before, its word is not `pass`, nothing is
-- handed over, or the server has no room.
abbrev pub is_disturbed : Word → Bool → Option (List ℕ) → Bool
is_disturbed word repeated answer = losses.is_disturbed (not (is_pass word) || repeated) answer

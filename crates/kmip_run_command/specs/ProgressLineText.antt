-- What `run` shows of how far it is, while it works: at most 60 columns, trouble first.
-- Source: own (text): what the program shows on a terminal.
use Rattle.std.specs.Prelude.{ℕ, ◌+◌, ◌-◌, ◌==◌, nat_le, ◌&&◌, List, [], ◌∷◌, ◌++◌, length, codes, if◌then◌else◌}
use Rattle.std.specs.Fmt.{decimal}
use Rattle.kmip_plan.specs.declared.key.Key.{Key}
use Rattle.kmip_client.specs.Knowledge.{chain_length}
use Rattle.kmip_tally.specs.declared.spent.Spent.{Spent}

-- The most columns of the line. Own (limit).
abbrev pub most_columns : ℕ
most_columns = 60

-- A line, and after it a further part where the line has room for it.
unfoldable pub with_part : List ℕ → List ℕ → List ℕ
with_part line part = if nat_le (length part) (most_columns - length line) then line ++ part else line

-- The number of steps that lead all keys to their targets.
abbrev pub steps_of : List Key → ℕ
steps_of [] = 0
steps_of (key ∷ keys) = chain_length key + steps_of keys

-- The sum of these counts.
abbrev pub sum_of : List ℕ → ℕ
sum_of [] = 0
sum_of (count ∷ counts) = count + sum_of counts

-- How many of the steps are known to be done.
unfoldable pub steps_part : ℕ → ℕ → List ℕ
steps_part done steps = decimal done ++ codes " of " ++ decimal steps ++ codes " steps"

-- A number between two texts.
unfoldable pub count_part : List ℕ → ℕ → List ℕ → List ℕ
count_part before count after = before ++ decimal count ++ after

-- A line, and after it how often something went wrong, where it did.
abbrev pub with_trouble : List ℕ → ℕ → List ℕ → List ℕ
with_trouble line count after = if count == 0 then line else with_part line (count_part (codes ", ") count after)

-- The word for one exchange, or for several.
abbrev pub exchanges_word : ℕ → List ℕ
exchanges_word count = if count == 1 then codes " exchange" else codes " exchanges"

-- A line, and after it how many more exchanges may come at most, as long as nothing was lost or refused.
abbrev pub with_most : List ℕ → Spent → ℕ → List ℕ
with_most line spent most =
    if (spent.lost == 0) && (spent.refused == 0) then with_part line (count_part (codes ", at most ") most (codes " more")) else line

-- How many steps are done, how many exchanges were lost, and how many questions were refused.
abbrev pub trouble_text : ℕ → ℕ → Spent → List ℕ
trouble_text done steps spent =
    with_trouble (with_trouble (with_part [] (steps_part done steps)) spent.lost (codes " lost")) spent.refused (codes " refused")

-- The whole line, for `done` of `steps` steps, what was spent, and the most exchanges that may be left.
-- The parts come in this order: steps done, lost exchanges, refused questions, exchanges made, the
-- most that may be left, seconds. A part without room is left out.
abbrev pub standing_text : ℕ → ℕ → Spent → ℕ → List ℕ
standing_text done steps spent most =
    with_part
    (with_most
    (with_part (trouble_text done steps spent) (count_part (codes ", ") spent.exchanges (exchanges_word spent.exchanges)))
    spent most)
    (count_part (codes ", ") spent.seconds (codes " s"))

-- The lines of some bytes, and what is taken and kept of them step by step.
-- Source: own (text); the length of a line is own (limit).
use Rattle.std.specs.Prelude.{ℕ, List, [], ◌∷◌, ◌==◌, if◌then◌else◌}

-- The most digits of a line: two for each byte of the longest message. A line of more is too long. Own
-- (limit).
abbrev pub most_digits : ℕ
most_digits = 16384

-- A byte in front of the first of some lines.
abbrev pub onto_first : ℕ → List (List ℕ) → List (List ℕ)
onto_first b [] = (b ∷ []) ∷ []
onto_first b (line ∷ lines) = (b ∷ line) ∷ lines

-- The lines of some bytes, each without its line feed, which the last may lack.
abbrev pub lines_of : List ℕ → List (List ℕ)
lines_of [] = []
lines_of (b ∷ bs) = if b == 10 then [] ∷ lines_of bs else onto_first b (lines_of bs)

-- A framer's calls, one after another.
-- Source: own (law): what the laws of framers speak of.
use Rattle.std.specs.Prelude.{◌≡◌, ℕ, ◌+◌, List, [], ◌∷◌, ◌++◌, drop, Result, Ok, Err}
use Rattle.kmip_frames.specs.declared.frame_fault.FrameFault.{FrameFault}
use Rattle.kmip_frames.specs.Streams.{IsMessage}
use Rattle.kmip_frames.specs.Framing.{feed, held_after}

-- A call that was not refused: `feed` took these bytes of a piece, or `next` handed this message over.
pub data Call : Type 0 where
  took handed : List ℕ → Call

-- The calls lead from these bytes held to those. A message is handed over where all that is held is one.
abbrev pub Runs : List ℕ → List Call → List ℕ → Type 0
Runs old [] new = old ≡ new
Runs old (took bytes ∷ calls) new = Runs (old ++ bytes) calls new
Runs old (handed message ∷ calls) new = IsMessage old × (message ≡ old) × Runs [] calls new

-- all bytes that the calls took, joined
abbrev pub all_taken : List Call → List ℕ
all_taken [] = []
all_taken (took bytes ∷ calls) = bytes ++ all_taken calls
all_taken (handed message ∷ calls) = all_taken calls

-- all messages that the calls handed over, in their order
abbrev pub all_handed : List Call → List (List ℕ)
all_handed [] = []
all_handed (took bytes ∷ calls) = all_handed calls
all_handed (handed message ∷ calls) = message ∷ all_handed calls

-- what `feed` returns, with the bytes that were taken before it counted too
abbrev pub further : ℕ → Result ℕ FrameFault → Result ℕ FrameFault
further before (Ok count) = Ok (before + count)
further before (Err fault) = Err fault

-- To feed two pieces joined is to feed the first, of which this many bytes are taken, and then what is left
-- of it with the second. In both cases the same is returned, and the same bytes are held at the end.
abbrev pub IsFedAsTwo : List ℕ → List ℕ → List ℕ → ℕ → Type 0
IsFedAsTwo held first second count =
    (feed held (first ++ second) ≡ further count (feed (held_after held first) (drop count first ++ second)))
    × (held_after held (first ++ second) ≡ held_after (held_after held first) (drop count first ++ second))

-- The lines of faults.
-- Source: own (text): what the program prints.
use Rattle.std.specs.Prelude.{ℕ, List, [], ◌∷◌, ◌++◌, codes, Option, Some, None, option_map}
use Rattle.kmip_report.specs.Documents.{text_or_null, words_of}
use Rattle.kmip_report.specs.declared.cause.Cause.{Cause}
use Rattle.kmip_report.specs.declared.cause.Cause.TheVariants.{Unreachable, Unanswered, Refused, Conflict}
use Rattle.kmip_report.specs.declared.fault.Fault.{Fault}
use Rattle.kmip_report.specs.Pieces.{Piece, noted, word, word_or}

-- The word for a cause.
abbrev pub cause_word : Cause → List ℕ
cause_word Unreachable = codes "unreachable"
cause_word Unanswered = codes "unanswered"
cause_word Refused = codes "refused"
cause_word Conflict = codes "conflict"

-- The pieces that each line of a fault has: what went wrong, and where, if that is known, with these words between the
-- two in text; and in JSON alone why, and what stands in the way, each null if it is not known.
abbrev pub fault_pieces : List ℕ → List ℕ → Option (List ℕ) → Option (List ℕ) → Option Cause → List Piece
fault_pieces fault between at why cause =
    word (codes "") (codes "fault") fault
    ∷ word_or between (codes "at") (codes "") at
    ∷ noted (codes "why") (text_or_null why)
    ∷ noted (codes "cause") (text_or_null (option_map cause_word cause))
    ∷ []

-- The line of a fault.
unfoldable pub fault_line : Fault → List Piece
fault_line fault =
    fault_pieces fault.fault.now fault.between.now (option_map (λ at. at.now) fault.at) (option_map (λ why. why.now) fault.why) fault.cause

-- The line of a progress that the server contradicts: the path, and in JSON why and the names of the keys.
unfoldable pub contradiction_line : List ℕ → List ℕ → List (List ℕ) → List Piece
contradiction_line path why keys =
    fault_pieces (codes "progress of another server") (codes ": ") (Some path) (Some why) None ++ noted (codes "keys") (words_of keys) ∷ []

-- The line for running out of memory.
abbrev pub no_memory : List Piece
no_memory = fault_pieces (codes "no memory") (codes "") None None None

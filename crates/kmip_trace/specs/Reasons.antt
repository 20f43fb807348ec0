-- The standard's names of Result Reasons, as they are printed.
-- Source: KMIP 2.1, Enumerations, Result Reason.
use Rattle.std.specs.Prelude.{ℕ, ◌==◌, List, [], ◌∷◌, codes, Option, Some, None, option_and_then, map, if◌then◌else◌}
use Rattle.std.specs.List.{slice_get}
use Rattle.kmip_trace.specs.declared.reasons.TheConstants.{GENERAL_FAILURE, REASON_NAMES}

-- the name that a place of the table has; a number that is reserved has none
abbrev pub name_given : List ℕ → Option (List ℕ)
name_given [] = None
name_given (byte ∷ bytes) = Some (byte ∷ bytes)

-- the table of names, in the order of their numbers
abbrev pub reason_names : List (List ℕ)
reason_names = map (λ name. name.now) REASON_NAMES

-- the name of a Result Reason by its number; none where the standard has no such reason
abbrev pub reason_name : ℕ → Option (List ℕ)
reason_name reason =
    if reason == GENERAL_FAILURE then Some (codes "General Failure")
    else option_and_then name_given (slice_get reason_names reason)

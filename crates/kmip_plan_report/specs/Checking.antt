-- What `check` reports of a plan, alone or after an earlier one.
-- Source: own (text): what the program prints.
use Rattle.std.specs.Prelude.{⊤, ℕ, Bool, true, false, not, List, [], ◌∷◌, ◌++◌, codes, map, Option, Result, Ok, Err}
use Rattle.std.specs.Int.{w32, cast_unsigned}
use Rattle.serde_json.specs.Data.{boolean}
use Rattle.kmip_report.specs.Pieces.{Piece, mask, noted, said, signed, word, word_or, words}
use Rattle.kmip_objects.specs.Lifecycle.{step_word}
use Rattle.kmip_plan.specs.Chains.{chain}
use Rattle.kmip_plan.specs.Prolonging.{Prolongs}
use Rattle.kmip_plan.specs.Words.{algorithm_word}
use Rattle.kmip_plan.specs.TargetWords.{target_word}
use Rattle.kmip_plan.specs.declared.plan_fault.PlanFault.{PlanFault}
use Rattle.kmip_plan.specs.declared.key.Key.{Key}
use Rattle.kmip_plan_report.specs.Refusals.{Site, plan_refusal}

-- The line of a key: its name, its algorithm, its length in bits, its usage mask, its target, and the steps to it.
unfoldable pub check_line : Key → List Piece
check_line key =
    word (codes "") (codes "key") key.attrs.name
    ∷ word_or (codes " ") (codes "algorithm") (codes " ") (algorithm_word key.attrs.algorithm)
    ∷ signed (codes " ") (codes "length") key.attrs.length
    ∷ mask (codes " ") (codes "usage") (cast_unsigned w32 key.attrs.usage)
    ∷ word (codes " ") (codes "target") (target_word key.target)
    ∷ words (codes ":") (codes "steps") (map step_word (chain key.target))
    ∷ []

-- The lines of the keys of a plan, in its order.
abbrev pub check_lines : List Key → List (List Piece)
check_lines keys = map check_line keys

-- The report for what was read of a plan: the lines of its keys, or the line of the fault of the text at this path,
-- which is found there.
abbrev pub check_report : Result (List Key) PlanFault → Option (List ℕ) → Site → List (List Piece)
check_report (Ok keys) at found = check_lines keys
check_report (Err fault) at found = plan_refusal fault at found ∷ []

-- True if no plan was read.
abbrev pub is_plan_refused : Result (List Key) PlanFault → Bool
is_plan_refused (Ok keys) = false
is_plan_refused (Err fault) = true

-- In words, whether a plan prolongs an earlier one.
abbrev pub prolongs_words : Bool → List ℕ
prolongs_words true = codes "prolongs"
prolongs_words false = codes "prolongs not"

-- The line that says it.
abbrev pub prolongs_line : Bool → List Piece
prolongs_line does_prolong = said (prolongs_words does_prolong) ∷ noted (codes "prolongs") (boolean does_prolong) ∷ []

-- The report for a plan and what was read of an earlier one, by whether it is refused: the lines of the plan's keys
-- and whether it prolongs the earlier one, or the line of the fault of the earlier text, which is at this path.
abbrev pub check_after_report : Bool → List Key → Result (List Key) PlanFault → Option (List ℕ) → Site → List (List Piece)
check_after_report refused keys (Ok earlier) at found = check_lines keys ++ prolongs_line (not refused) ∷ []
check_after_report refused keys (Err fault) at found = plan_refusal fault at found ∷ []

-- What was read is not a plan, or the plan does not prolong that one.
abbrev pub IsRefusedAfter : List Key → Result (List Key) PlanFault → Type 0
IsRefusedAfter keys (Ok earlier) = ¬ Prolongs keys earlier
IsRefusedAfter keys (Err fault) = ⊤

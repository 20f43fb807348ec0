-- What is reported of the keys of a plan: a line for each key, with how many of its steps are done and how it
-- stands, and a line that counts the finished keys.
-- Source: own (text).
use Rattle.std.specs.Prelude.{ℕ, List, [], ◌∷◌, ◌++◌, length, codes, decimal, Option, Some, None}
use Rattle.kmip_ttlv.specs.Showing.{plain_text}
use Rattle.kmip_plan.specs.TargetWords.{target_word}
use Rattle.kmip_plan.specs.declared.key.Key.{Key}
use Rattle.kmip_client.specs.Knowledge.{chain_length}
use Rattle.kmip_client.specs.Verdicts.{finished_count, verdict_word}
use Rattle.kmip_client.specs.declared.verdict.Verdict.{Verdict}

-- an identifier in plain characters, so that a server's own words forge no line; a hyphen where none is known
abbrev pub identifier_text : Option (List ℕ) → List ℕ
identifier_text None = codes "-"
identifier_text (Some identifier) = plain_text identifier

-- the line of a key: its name, its target, how many of its steps are done, and its verdict
abbrev pub report_line : Key → ℕ → Verdict → List ℕ
report_line key done verdict =
    key.attrs.name ++ codes " " ++ target_word key.target ++ codes " " ++ decimal done ++ codes "/" ++ decimal (chain_length key) ++ codes " "
    ++ verdict_word verdict ++ codes "\n"

-- the lines of all keys, in the order of the plan
abbrev pub report_lines : List Key → List ℕ → List Verdict → List ℕ
report_lines [] counts verdicts = []
report_lines (key ∷ keys) [] verdicts = []
report_lines (key ∷ keys) (done ∷ counts) [] = []
report_lines (key ∷ keys) (done ∷ counts) (verdict ∷ verdicts) = report_line key done verdict ++ report_lines keys counts verdicts

-- the last line: how many keys are finished, and how many there are
abbrev pub sum_line : List Key → List Verdict → List ℕ
sum_line keys verdicts = codes "finished " ++ decimal (finished_count verdicts) ++ codes " of " ++ decimal (length keys) ++ codes "\n"

-- the report: a line for each key, and the last line
abbrev pub report_text : List Key → List ℕ → List Verdict → List ℕ
report_text keys counts verdicts = report_lines keys counts verdicts ++ sum_line keys verdicts

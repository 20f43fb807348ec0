-- The lines of the report of `probe`, each a list of pieces.
-- Source: own (text): what the program prints.
use Rattle.std.specs.Prelude.{ℕ, List, [], ◌∷◌, codes, Option, Some}
use Rattle.serde_json.specs.Data.{null, string}
use Rattle.kmip_batch_items.specs.declared.outcome.Outcome.{Outcome}
use Rattle.kmip_batch_items.specs.declared.outcome.Outcome.TheVariants.{Located}
use Rattle.kmip_report.specs.Documents.{numbers_of, words_of}
use Rattle.kmip_report.specs.Pieces.{Piece, noted, said, shown, word}
use Rattle.kmip_probe.specs.declared.finding.Finding.{Finding}
use Rattle.kmip_probe.specs.declared.finding.Finding.TheVariants.{Kept, Broken, Untold}
use Rattle.kmip_probe.specs.declared.findings.Findings.{Findings}
use Rattle.kmip_probe.specs.declared.unread.Unread.{Unread}
use Rattle.kmip_probe_command.specs.LookText.{why_text}
use Rattle.kmip_probe_command.specs.Wording.{flaw_text, premise_text, reasons_line, risk_lines, risk_text, sum_text}
use Rattle.kmip_probe_command.specs.declared.premise.Premise.{Premise}

-- The line of a prefix that can't begin names. In JSON it is that of a fault: what went wrong, and why.
abbrev pub unfit_line : List Piece
unfit_line =
    word [] (codes "fault") (codes "prefix refused")
    ∷ noted (codes "at") null
    ∷ word (codes ": ") (codes "why") (codes "it is not 1 to 62 printable ASCII characters without a space")
    ∷ noted (codes "cause") null
    ∷ []

-- The line of two keys that are about to be made, whose names are an array in JSON.
unfoldable pub keys_line : List ℕ → List ℕ → List (List ℕ) → List Piece
keys_line first second names =
    said (codes "making two keys: ")
    ∷ said first
    ∷ said (codes " and ")
    ∷ said second
    ∷ noted (codes "making") (words_of names)
    ∷ []

-- The same by the two names.
abbrev pub making_line : List ℕ → List ℕ → List Piece
making_line first second = keys_line first second (first ∷ second ∷ [])

-- The line that says that an object has the name, and so nothing was made.
unfoldable pub used_line : List ℕ → List ℕ → List Piece
used_line name uid =
    noted (codes "making") (words_of [])
    ∷ word [] (codes "name") name
    ∷ shown (codes " is used already, and nothing was made; its object is ") (codes "object") uid
    ∷ noted (codes "not_told") null
    ∷ []

-- The line that says why it could not be told whether the name is free, and that nothing was made.
unfoldable pub unsure_line : List ℕ → List ℕ → List Piece
unsure_line why name =
    noted (codes "making") (words_of [])
    ∷ said why
    ∷ word (codes ": whether ") (codes "name") name
    ∷ said (codes " is free could not be told; nothing was made")
    ∷ noted (codes "object") null
    ∷ noted (codes "not_told") (string why)
    ∷ []

-- The line that says why nothing was made: the name that is not seen to be free, with the outcome of the
-- look at it, or why its reply can't be read.
abbrev pub unmade_line : List ℕ → Option Outcome → Option Unread → List Piece
unmade_line name (Some (Located (uid ∷ uids))) unread = used_line name uid
unmade_line name outcome unread = unsure_line (why_text outcome unread) name

-- The line of a premise that is not seen to be broken: what is found, in text and in JSON.
unfoldable pub unbroken_line : Premise → List ℕ → List ℕ → List Piece
unbroken_line p words finding =
    word [] (codes "premise") (premise_text p)
    ∷ said words
    ∷ noted (codes "finding") (string finding)
    ∷ noted (codes "flaw") null
    ∷ noted (codes "risk") null
    ∷ []

-- The line of a premise that is broken, and how.
unfoldable pub broken_line : Premise → List ℕ → List Piece
broken_line p flaw =
    word [] (codes "premise") (premise_text p)
    ∷ noted (codes "finding") (string (codes "broken"))
    ∷ word (codes ": no (") (codes "flaw") flaw
    ∷ said (codes ")")
    ∷ noted (codes "risk") (string (risk_text p))
    ∷ []

-- The line of a premise, of which this is found.
abbrev pub premise_line : Premise → Finding → List Piece
premise_line p Kept = unbroken_line p (codes ": yes") (codes "kept")
premise_line p (Broken flaw) = broken_line p (flaw_text flaw)
premise_line p Untold = unbroken_line p (codes ": could not be told") (codes "not told")

-- The reasons that were seen, what may go wrong, which text alone has, and the sum. In text the reasons and
-- the risks are lines before the sum.
unfoldable pub sum_line : Findings → List ℕ → List ℕ → List Piece
sum_line findings reasons risks =
    said reasons
    ∷ noted (codes "reasons") (numbers_of findings.reasons.items)
    ∷ said risks
    ∷ word [] (codes "sum") (sum_text findings)
    ∷ []

-- What is printed after the lines of the premises.
abbrev pub end_line : Findings → List Piece
end_line findings = sum_line findings (reasons_line findings) (risk_lines findings)

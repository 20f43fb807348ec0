-- What `probe` writes for the answers of its questions, in text or in JSON.
-- Source: own (text): what the program prints.
use Rattle.std.specs.Prelude.{◌≡◌, ℕ, Bool, true, not, List, ◌++◌, flat_map, Option, Some, None, if◌then◌else◌}
use Rattle.std.specs.Io.KnownBytes.{Appends}
use Rattle.kmip_protocol.specs.Past.{Names}
use Rattle.kmip_protocol.specs.Seen.{Seen}
use Rattle.kmip_probe.specs.Answers.{outcome_in, unread_in}
use Rattle.kmip_probe.specs.Asking.{is_free_at}
use Rattle.kmip_probe.specs.Inquiries.{name_of}
use Rattle.kmip_probe.specs.Judging.{AreFindings, answer_at}
use Rattle.kmip_probe.specs.Laws.{AreAllKept}
use Rattle.kmip_probe.specs.Putting.{AreAsked, AreSentOnce}
use Rattle.kmip_probe.specs.declared.answer.Answer.{Answer}
use Rattle.kmip_probe.specs.declared.finding.Finding.{Finding}
use Rattle.kmip_probe.specs.declared.findings.Findings.{Findings}
use Rattle.kmip_probe.specs.declared.inquiry.TheConstants.{LOOK_FIRST, LOOK_SECOND}
use Rattle.kmip_probe.specs.declared.which.Which.TheVariants.{First, Second}
use Rattle.kmip_report.specs.Pieces.{line_in}
use Rattle.kmip_report.specs.declared.form.Form.{Form}
use Rattle.kmip_probe_command.specs.KeptLines.{kept_lines}
use Rattle.kmip_probe_command.specs.Lines.{end_line, making_line, premise_line, unmade_line}
use Rattle.kmip_probe_command.specs.Wording.{are_all_kept, finding_of}
use Rattle.kmip_probe_command.specs.declared.premise.Premise.{Premise}
use Rattle.kmip_probe_command.specs.declared.premise.TheConstants.{PREMISES}

-- The line of the two keys that a probe with this prefix is about to make.
abbrev pub making_text : Form → List ℕ → List ℕ
making_text form prefix = line_in form (making_line (name_of First prefix) (name_of Second prefix))

-- What is told by the answer to the look at a name that is not seen to be free.
abbrev pub looked_text : Form → List ℕ → Answer → List ℕ
looked_text form name answer = line_in form (unmade_line name (outcome_in answer) (unread_in answer))

-- What is told where a name is not seen to be free, the first one first. None where both are free.
abbrev pub unbegun_text : Form → List ℕ → List Answer → Option (List ℕ)
unbegun_text form prefix answers =
    if is_free_at answers LOOK_FIRST
    then (if is_free_at answers LOOK_SECOND then None else Some (looked_text form (name_of Second prefix) (answer_at answers LOOK_SECOND)))
    else Some (looked_text form (name_of First prefix) (answer_at answers LOOK_FIRST))

-- The line of a premise, of which this is found.
abbrev pub finding_text : Form → Premise → Finding → List ℕ
finding_text form p finding = line_in form (premise_line p finding)

-- The line of a premise, by all that is found.
abbrev pub line_of : Form → Findings → Premise → List ℕ
line_of form findings p = finding_text form p (finding_of findings p)

-- What is printed after the lines of the premises.
abbrev pub end_text : Form → Findings → List ℕ
end_text form findings = line_in form (end_line findings)

-- All that is printed of the premises.
abbrev pub report_text : Form → Findings → List ℕ
report_text form findings = flat_map (line_of form findings) PREMISES ++ end_text form findings

-- What is told of answers, and whether a premise is not seen to be kept. Either why nothing was made,
-- which is refused; or which keys are to be made, and what is found.
abbrev pub TellsFrom : Form → List ℕ → List Answer → Option (List ℕ) → Bool → List ℕ → Type 0
TellsFrom form prefix answers (Some unbegun) refused text = (refused ≡ true) × (text ≡ unbegun)
TellsFrom form prefix answers None refused text =
    (findings : Findings) × AreFindings prefix answers findings × (refused ≡ not (are_all_kept findings))
    × (text ≡ making_text form prefix ++ report_text form findings)

-- The text tells of these answers: why nothing was made, where a name was not seen to be free, or which
-- keys are to be made and what is found.
abbrev pub TellsProbe : Form → List ℕ → List Answer → Bool → List ℕ → Type 0
TellsProbe form prefix answers refused text = TellsFrom form prefix answers (unbegun_text form prefix answers) refused text

-- The questions were asked over the link, where it is honest, each just once where it is calm. What their
-- answers tell was written.
pub record WritesProbe (form : Form) (prefix : List ℕ) (before after : Seen) (refused : Bool) (old new : Option (List ℕ)) : Type 0 where
  pub answers : List Answer
  pub text : List ℕ
  pub asked : (names : Names) → before.honest names → AreAsked prefix answers before.past after.past
  pub once : (names : Names) → before.calm names → AreSentOnce prefix answers before.past after.past
  pub tells : TellsProbe form prefix answers refused text
  pub written : Appends old new text

-- Where answers say that each premise is kept, for the two reasons of the profile, what is printed of the
-- premises is `kept_lines`.
abbrev pub TellsAllKept : Form → Type 0
TellsAllKept form =
    (prefix : List ℕ) (answers : List Answer) (findings : Findings)
    → AreAllKept prefix answers → AreFindings prefix answers findings → report_text form findings ≡ kept_lines form

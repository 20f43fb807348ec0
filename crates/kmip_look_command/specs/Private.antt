-- Private: definitions that only clauses of private functions cite.
-- Source: own (view): parts of the public definitions of this crate.
use Rattle.std.specs.Prelude.{◌≡◌, ◌++◌, ℕ, Bool, false, List, Result, Ok, Err, IfOk, map, not, option_map, string_bytes}
use Rattle.std.specs.List.{AllZip}
use Rattle.kmip_report.specs.Pieces.{report_in}
use Rattle.kmip_report.specs.declared.form.Form.{Form}
use Rattle.kmip_ttlv.specs.declared.no_memory.NoMemory.{NoMemory}
use Rattle.kmip_objects.specs.Lifecycle.{step_word}
use Rattle.kmip_plan.specs.declared.key.Key.{Key}
use Rattle.kmip_protocol.specs.Past.{Names}
use Rattle.kmip_protocol.specs.Seen.{Seen}
use Rattle.kmip_look.specs.Looks.{IsTried, Looks}
use Rattle.kmip_look.specs.declared.looked.Looked.{Looked}
use Rattle.kmip_look_command.specs.LookReport.{are_all_finished, look_report, numbers_told, standing_of, steps_left, why_not_told}
use Rattle.kmip_look_command.specs.LookWords.{algorithm_name, state_name, told_usage}
use Rattle.kmip_look_command.specs.declared.line_words.LineWords.{LineWords}

-- These are the words in the line of a key.
pub record AreWordsOf (words : LineWords) (key : Key) (looked : Looked) : Type 0 where
  pub state : option_map string_bytes words.state ≡ option_map state_name (numbers_told looked.shown).state
  pub to_do : map (λ word. word.now) words.to_do.items ≡ map step_word (steps_left key looked.known.done (standing_of key looked))
  pub algorithm : option_map string_bytes words.algorithm ≡ option_map algorithm_name (numbers_told looked.shown).algorithm
  pub usage : string_bytes words.usage ≡ told_usage (numbers_told looked.shown).usage
  pub why : option_map string_bytes words.why ≡ why_not_told looked.why (standing_of key looked)

-- The report of what was seen was appended, and the result says whether a key is not finished.
abbrev pub AppendsReport : Form → List Key → List Looked → List ℕ → List ℕ → Bool → Type 0
AppendsReport form keys lookeds old new refused =
    (refused ≡ not (are_all_finished keys lookeds)) × (new ≡ old ++ report_in form (look_report keys lookeds))

-- The report was appended if a look saw the keys.
abbrev pub AppendsLooked : Form → List Key → Result (List Looked) NoMemory → List ℕ → List ℕ → Bool → Type 0
AppendsLooked form keys (Ok lookeds) old new refused = AppendsReport form keys lookeds old new refused
AppendsLooked form keys (Err want) old new refused = ⊥

-- A look was made over the link, and the report of what was seen was appended to a text.
pub record AppendsLook (form : Form) (before : Seen) (keys : List Key) (mark : List ℕ) (after : Seen) (given_up : Bool) (made : Result Bool NoMemory) (old new : List ℕ) : Type 0 where
  pub looked : Result (List Looked) NoMemory
  pub looks : Looks (λ lookeds. lookeds) keys mark before looked after
  pub tried : (names : Names) → before.honest names → given_up ≡ false → IfOk looked (λ lookeds. AllZip (IsTried mark before.past after.past) keys lookeds)
  pub whole : IfOk made (AppendsLooked form keys looked old new)

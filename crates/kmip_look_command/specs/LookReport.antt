-- What `look` reports: how each key of a plan stands on the server, and how many are finished.
-- Source: own (text): what the program prints.
use Rattle.std.specs.Prelude.{ℕ, ℤ, ◌==◌, Bool, true, false, not, List, [], ◌∷◌, ◌++◌, length, map, drop, codes, Option, Some, None, option_map}
use Rattle.std.specs.Int.{w32, cast_unsigned}
use Rattle.serde_json.specs.Data.{string}
use Rattle.kmip_report.specs.Documents.{count_or_null}
use Rattle.kmip_report.specs.Pieces.{Piece, noted, number_or, said, shown_or, signed_or, told_if, word, word_or, words}
use Rattle.kmip_objects.specs.Lifecycle.{step_word}
use Rattle.kmip_objects.specs.declared.standard.TheConstants.{OBJECT_TYPE_SYMMETRIC_KEY}
use Rattle.kmip_objects.specs.declared.step.Step.{Step}
use Rattle.kmip_plan.specs.Chains.{chain}
use Rattle.kmip_plan.specs.TargetWords.{target_word}
use Rattle.kmip_plan.specs.declared.key.Key.{Key}
use Rattle.kmip_client.specs.Knowledge.{verdict_of}
use Rattle.kmip_client.specs.Verdicts.{finished_count, verdict_word}
use Rattle.kmip_client.specs.declared.clash.Clash.TheVariants as clashes
use Rattle.kmip_client.specs.declared.phase.Phase.{Phase}
use Rattle.kmip_client.specs.declared.phase.Phase.TheVariants.{Look, Check, Make, Go}
use Rattle.kmip_client.specs.declared.verdict.Verdict.{Verdict}
use Rattle.kmip_client.specs.declared.verdict.Verdict.TheVariants as verdicts
use Rattle.kmip_plan_report.specs.Listing.{finished_line}
use Rattle.kmip_look.specs.declared.looked.Looked.{Looked}
use Rattle.kmip_look.specs.declared.shown.Shown.{Shown}
use Rattle.kmip_look.specs.declared.why.Why.{Why}
use Rattle.kmip_look_command.specs.LookWords.{algorithm_name, state_name, told_usage, why_text}
use Rattle.kmip_look_command.specs.declared.standing.Standing.{Standing}
use Rattle.kmip_look_command.specs.declared.standing.Standing.TheVariants.{Finished, StateConflict, AttributesConflict, TwoObjects, NotTold, NoObject, Begun}

-- ---- how a key stands

-- The verdict on a key, by what is known after a look: it is that of `run`.
abbrev pub verdict_on : Key → Looked → Verdict
verdict_on key looked = verdict_of key looked.known

-- How a key stands that is neither finished nor in conflict, by what is to be found out or done next.
abbrev pub working_standing : Phase → Standing
working_standing Look = NotTold
working_standing Check = NotTold
working_standing Make = NoObject
working_standing Go = Begun

-- How a key stands, by the verdict on it and by what is next.
abbrev pub standing : Verdict → Phase → Standing
standing verdicts.Finished phase = Finished
standing (verdicts.Conflict clashes.State) phase = StateConflict
standing (verdicts.Conflict clashes.Attributes) phase = AttributesConflict
standing (verdicts.Conflict clashes.TwoObjects) phase = TwoObjects
standing verdicts.Working phase = working_standing phase

-- How a key stands after a look.
abbrev pub standing_of : Key → Looked → Standing
standing_of key looked = standing (verdict_on key looked) looked.known.phase

-- That in words.
abbrev pub standing_words : Standing → List ℕ
standing_words Finished = codes " finished"
standing_words StateConflict = codes " conflict state"
standing_words AttributesConflict = codes " conflict attributes:"
standing_words TwoObjects = codes " conflict two-objects"
standing_words NotTold = codes " not told: "
standing_words NoObject = codes " none to do:"
standing_words Begun = codes " to do:"

-- True if the text has the state of the object: of a key that has one object.
abbrev pub has_state : Standing → Bool
has_state Finished = true
has_state StateConflict = true
has_state AttributesConflict = true
has_state TwoObjects = false
has_state NotTold = false
has_state NoObject = false
has_state Begun = true

-- True if the text has the attributes of the object: if they are not those of the plan, and some were told.
abbrev pub has_attributes : Option Shown → Standing → Bool
has_attributes (Some shown) AttributesConflict = true
has_attributes shown standing = false

-- The steps that are left of a key of which so many are done. Those of a key that is not worked on are not told.
abbrev pub steps_left : Key → ℕ → Standing → List Step
steps_left key done NoObject = chain key.target
steps_left key done Begun = drop done (chain key.target)
steps_left key done standing = []

-- Why it was not told how a key stands, if it was not.
abbrev pub why_not_told : Why → Standing → Option (List ℕ)
why_not_told why NotTold = Some (why_text why)
why_not_told why standing = None

-- ---- the line of a key

-- The numbers that were told of an object, and none of them if nothing was told.
abbrev pub numbers_told : Option Shown → Shown
numbers_told (Some shown) = shown
numbers_told None = record { object_type = None; algorithm = None; length = None; usage = None; state = None }

-- True unless the type that was told is that of a symmetric key.
abbrev pub is_other_type : Option ℕ → Bool
is_other_type None = true
is_other_type (Some n) = not (n == OBJECT_TYPE_SYMMETRIC_KEY)

-- The bits of an Integer as a number from 0.
abbrev pub bits_of : ℤ → ℕ
bits_of n = cast_unsigned w32 n

-- The attributes that were told: the type if it is another, the algorithm, the length and the usage mask. They are in
-- the text only if they are shown, and always in JSON.
abbrev pub attribute_pieces : Bool → Shown → List Piece
attribute_pieces is_shown numbers =
    told_if is_shown (told_if (is_other_type numbers.object_type) (number_or (codes " type ") (codes "type") (codes " type -") numbers.object_type))
    ∷ told_if is_shown (word_or (codes " ") (codes "algorithm") (codes " -") (option_map algorithm_name numbers.algorithm))
    ∷ told_if is_shown (signed_or (codes " ") (codes "length") (codes " -") numbers.length)
    ∷ told_if is_shown (said (told_usage numbers.usage))
    ∷ noted (codes "usage") (count_or_null (option_map bits_of numbers.usage))
    ∷ []

-- The line of a key that stands so, and of which these numbers were told: its name, its target, its identifier, the
-- state, the verdict, how it stands, the steps that are left, the attributes, and why it was not told.
unfoldable pub line_by : Key → Looked → Standing → Shown → List Piece
line_by key looked standing numbers =
    word (codes "") (codes "key") key.attrs.name
    ∷ word (codes " ") (codes "target") (target_word key.target)
    ∷ shown_or (codes " ") (codes "identifier") (codes " -") looked.known.identifier
    ∷ told_if (has_state standing) (word_or (codes " ") (codes "state") (codes " no state") (option_map state_name numbers.state))
    ∷ noted (codes "verdict") (string (verdict_word (verdict_on key looked)))
    ∷ said (standing_words standing)
    ∷ words (codes "") (codes "to_do") (map step_word (steps_left key looked.known.done standing))
    ∷ (attribute_pieces (has_attributes looked.shown standing) numbers
    ++ word_or (codes "") (codes "not_told") (codes "") (why_not_told looked.why standing) ∷ [])

-- The line of a key.
abbrev pub look_line : Key → Looked → List Piece
look_line key looked = line_by key looked (standing_of key looked) (numbers_told looked.shown)

-- ---- how all keys stand

-- The lines of the keys, in the order of the plan.
abbrev pub look_lines : List Key → List Looked → List (List Piece)
look_lines [] lookeds = []
look_lines (key ∷ keys) [] = []
look_lines (key ∷ keys) (looked ∷ lookeds) = look_line key looked ∷ look_lines keys lookeds

-- The verdicts on the keys, in the order of the plan.
abbrev pub verdicts_on : List Key → List Looked → List Verdict
verdicts_on [] lookeds = []
verdicts_on (key ∷ keys) [] = []
verdicts_on (key ∷ keys) (looked ∷ lookeds) = verdict_on key looked ∷ verdicts_on keys lookeds

-- The report of a look: the lines of the keys, and the line that counts the finished ones.
abbrev pub look_report : List Key → List Looked → List (List Piece)
look_report keys lookeds = look_lines keys lookeds ++ finished_line keys (verdicts_on keys lookeds) ∷ []

-- Each key is finished.
abbrev pub are_all_finished : List Key → List Looked → Bool
are_all_finished keys lookeds = finished_count (verdicts_on keys lookeds) == length keys

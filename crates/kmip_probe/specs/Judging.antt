-- What the answers of a probe say of the premises of the headline: each is kept, or broken, or it could not
-- be told.
-- Source: own (choice): what the client rests on (KMIP 2.1, Operations; Object Attributes, Name, State;
-- Message Structure). The reasons of refusals: KMIP 2.1, Message Data, Result Reason.
use Rattle.std.specs.Prelude.{◌≡◌, ℕ, ◌==◌, nat_eq, Bool, true, false, not, ◌&&◌, ◌||◌, List, [], ◌∷◌, ◌++◌, map, take, flat_map, find, get_or, Option, Some, None, option_and_then, if◌then◌else◌}
use Rattle.std.specs.Cmp.Lexicographic.{pointwise}
use Rattle.std.specs.List.{list_any}
use Rattle.std.specs.Option.{option_map_or}
use Rattle.kmip_batch_items.specs.declared.outcome.Outcome.{Outcome}
use Rattle.kmip_batch_items.specs.declared.outcome.Outcome.TheVariants.{Failed, Located}
use Rattle.kmip_objects.specs.declared.step.Step.{Step}
use Rattle.kmip_objects.specs.declared.step.Step.TheVariants.{Activate, Revoke, Destroy}
use Rattle.kmip_server.specs.Again.{has_failed}
use Rattle.kmip_probe.specs.Answers.{located_in, outcome_in, uids_told}
use Rattle.kmip_probe.specs.Asking.{part, uid_of, uids_of}
use Rattle.kmip_probe.specs.Inquiries.{name_of}
use Rattle.kmip_probe.specs.Telling.{attributes_told}
use Rattle.kmip_probe.specs.declared.answer.Answer.{Answer}
use Rattle.kmip_probe.specs.declared.answer.Answer.TheVariants.{Nothing, Told, Unmarked}
use Rattle.kmip_probe.specs.declared.finding.Finding.{Finding}
use Rattle.kmip_probe.specs.declared.finding.Finding.TheVariants.{Kept, Broken, Untold}
use Rattle.kmip_probe.specs.declared.findings.Findings.{Findings}
use Rattle.kmip_probe.specs.declared.flaw.Flaw.{Flaw}
use Rattle.kmip_probe.specs.declared.flaw.Flaw.TheVariants.{SecondObject, StepTwice, ActiveDestroyed, NotFound, NoId}
use Rattle.kmip_probe.specs.declared.inquiry.TheConstants.{
  CREATE_FIRST,
  CREATE_AGAIN,
  FIND_NEW_EVERYWHERE,
  READ_ATTRIBUTES,
  ACTIVATE_FIRST,
  ACTIVATE_AGAIN,
  REVOKE_FIRST,
  REVOKE_AGAIN,
  ACTIVATE_SECOND,
  DESTROY_ACTIVE,
  DESTROY_FIRST,
  DESTROY_AGAIN,
  REUSE_NAME,
  FIND_GONE_EVERYWHERE,
  REVOKE_SECOND,
}
use Rattle.kmip_probe.specs.declared.which.Which.TheVariants.{First}

-- ---- single answers

-- the answer of the question of a number, from 0
abbrev pub answer_at : List Answer → ℕ → Answer
answer_at answers number = get_or answers number Nothing

-- the question was answered by an outcome of this kind
abbrev pub has_said : (Outcome → Bool) → Answer → Bool
has_said is answer = option_map_or is (outcome_in answer) false

-- the question was answered
abbrev pub is_answered : Answer → Bool
is_answered answer = has_said (λ outcome. true) answer

-- the question was answered by a success
abbrev pub has_succeeded : Answer → Bool
has_succeeded answer = has_said (λ outcome. not (has_failed outcome)) answer

-- the question was answered by a refusal
abbrev pub was_refused : Answer → Bool
was_refused answer = has_said has_failed answer

-- the outcome is what a Locate finds
abbrev pub is_search : Outcome → Bool
is_search (Located uids) = true
is_search outcome = false

-- the question was answered by what a Locate finds
abbrev pub has_searched : Answer → Bool
has_searched answer = has_said is_search answer

-- the premise is kept, or it could not be told
abbrev pub kept_if : Bool → Finding
kept_if kept = if kept then Kept else Untold

-- the premise is broken in one case, kept in another, and else it could not be told
abbrev pub judged : Bool → Flaw → Bool → Finding
judged broken flaw kept = if broken then Broken flaw else kept_if kept

-- ---- names

-- the first of these identifiers that is none of those known
abbrev pub other_than : List (List ℕ) → List (List ℕ) → Option (List ℕ)
other_than known uids = find (λ uid. not (list_any (pointwise nat_eq uid) known)) uids

-- the premise is broken where a second object was seen, and kept where the answers that would show it have
-- come
abbrev pub unless_second : Option (List ℕ) → Bool → Finding
unless_second None kept = kept_if kept
unless_second (Some uid) kept = Broken (SecondObject uid)

-- A second Create of a name makes no object: no Create and no Locate before the first object is destroyed
-- tells another identifier than the first that is told.
abbrev pub names_are_unique : List Answer → Finding
names_are_unique answers =
    unless_second (other_than (take 1 (uids_of First answers)) (uids_of First answers))
    (has_succeeded (answer_at answers CREATE_FIRST) && is_answered (answer_at answers CREATE_AGAIN) && has_searched (answer_at answers FIND_NEW_EVERYWHERE))

-- the first object was destroyed
abbrev pub is_destroyed : List Answer → Bool
is_destroyed answers = has_succeeded (answer_at answers DESTROY_FIRST) || has_succeeded (answer_at answers DESTROY_AGAIN)

-- A Create of the name makes no object once its object is destroyed: no Create and no Locate after that tells
-- an identifier that was not told before.
abbrev pub names_stay_used : List Answer → Finding
names_stay_used answers =
    if is_destroyed answers
    then unless_second (other_than (uids_of First answers) (flat_map uids_told (part REUSE_NAME REVOKE_SECOND answers)))
    (was_refused (answer_at answers REUSE_NAME) && has_searched (answer_at answers FIND_GONE_EVERYWHERE))
    else Untold

-- ---- steps

-- a step that was taken, at the first of two questions, is refused at the other
abbrev pub step_counts_once : List Answer → Step → ℕ → ℕ → Finding
step_counts_once answers step first again =
    judged (has_succeeded (answer_at answers first) && has_succeeded (answer_at answers again)) (StepTwice step)
    (has_succeeded (answer_at answers first) && was_refused (answer_at answers again))

-- both premises are kept; or one is broken, and where both are it is the first; else it could not be told
abbrev pub both : Finding → Finding → Finding
both (Broken flaw) second = Broken flaw
both first (Broken flaw) = Broken flaw
both Kept Kept = Kept
both first second = Untold

-- A step that was taken is refused when it is asked again.
abbrev pub steps_count_once : List Answer → Finding
steps_count_once answers =
    both (step_counts_once answers Activate ACTIVATE_FIRST ACTIVATE_AGAIN)
    (both (step_counts_once answers Revoke REVOKE_FIRST REVOKE_AGAIN) (step_counts_once answers Destroy DESTROY_FIRST DESTROY_AGAIN))

-- A Destroy of an active object is refused.
abbrev pub active_is_kept : List Answer → Finding
active_is_kept answers =
    judged (has_succeeded (answer_at answers ACTIVATE_SECOND) && has_succeeded (answer_at answers DESTROY_ACTIVE)) ActiveDestroyed
    (has_succeeded (answer_at answers ACTIVATE_SECOND) && was_refused (answer_at answers DESTROY_ACTIVE))

-- ---- searches

-- the premise is kept where a Locate has told this identifier, and broken where it told others alone, or none
abbrev pub found_in : List ℕ → Option Outcome → Finding
found_in uid outcome = option_map_or (λ uids. judged (not (list_any (pointwise nat_eq uid) uids)) NotFound true) (located_in outcome) Untold

-- the Locate of this number finds the first object by its name
abbrev pub found_at : List Answer → ℕ → Finding
found_at answers number = option_map_or (λ uid. found_in uid (outcome_in (answer_at answers number))) (uid_of First answers) Untold

-- A Locate under the mask of every state finds an object by its name.
abbrev pub objects_are_found : List Answer → Finding
objects_are_found answers = found_at answers FIND_NEW_EVERYWHERE

-- A Locate under the mask of every state finds a destroyed object by its name.
abbrev pub destroyed_are_found : List Answer → Finding
destroyed_are_found answers = if is_destroyed answers then found_at answers FIND_GONE_EVERYWHERE else Untold

-- ---- ids

-- a success without the id of a question
abbrev pub is_unmarked : Answer → Bool
is_unmarked (Unmarked outcome) = true
is_unmarked answer = false

-- a success with the id of its question
abbrev pub is_marked : Answer → Bool
is_marked (Told outcome) = not (has_failed outcome)
is_marked answer = false

-- Each success has the id of its question.
abbrev pub ids_are_echoed : List Answer → Finding
ids_are_echoed answers = judged (list_any is_unmarked answers) NoId (list_any is_marked answers)

-- ---- attributes

-- Get Attributes tells all six attributes of a new object.
abbrev pub attributes_are_told : List ℕ → List Answer → Finding
attributes_are_told prefix answers = attributes_told (name_of First prefix) (outcome_in (answer_at answers READ_ATTRIBUTES))

-- ---- all together

-- the reason of a refusal, where it has one
abbrev pub reason_of : Outcome → Option ℕ
reason_of (Failed reason) = reason
reason_of outcome = None

-- the reason of the refusal that an answer is, where it has one
abbrev pub reason_in : Answer → Option ℕ
reason_in answer = option_and_then reason_of (outcome_in answer)

-- the reasons that were seen, and each further one where it stands first
abbrev pub new_reasons : List ℕ → List (Option ℕ) → List ℕ
new_reasons seen [] = seen
new_reasons seen (None ∷ reasons) = new_reasons seen reasons
new_reasons seen (Some reason ∷ reasons) = new_reasons (if list_any (λ n. n == reason) seen then seen else seen ++ reason ∷ []) reasons

-- the reasons of refusals, each where it stands first; they decide nothing
abbrev pub reasons_in : List Answer → List ℕ
reasons_in answers = new_reasons [] (map reason_in answers)

-- These are the findings of a probe, premise by premise, by its answers. Own (view).
pub record AreFindings (prefix : List ℕ) (answers : List Answer) (findings : Findings) : Type 0 where
  pub unique : findings.names_are_unique ≡ names_are_unique answers
  pub used : findings.names_stay_used ≡ names_stay_used answers
  pub once : findings.steps_count_once ≡ steps_count_once answers
  pub active : findings.active_is_kept ≡ active_is_kept answers
  pub found : findings.objects_are_found ≡ objects_are_found answers
  pub destroyed : findings.destroyed_are_found ≡ destroyed_are_found answers
  pub told : findings.attributes_are_told ≡ attributes_are_told prefix answers
  pub echoed : findings.ids_are_echoed ≡ ids_are_echoed answers
  pub reasons : findings.reasons.items ≡ reasons_in answers

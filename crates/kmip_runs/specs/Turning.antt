-- What turns make of a client: in each it asks its own next question, and learns from an answer, or that none
-- came.
-- Source: own (view).
use Rattle.std.specs.Prelude.{◌≡◌, ◌≢◌, ◌⊎◌, ℕ, List, [], ◌∷◌, ◌++◌, length, Option, Some, None, Result, Ok, Err}
use Rattle.kmip_client.specs.Asking.{IsAbout, after_ask, next_places, next_question}
use Rattle.kmip_client.specs.Clients.{ClientState}
use Rattle.kmip_client.specs.declared.question.Question.{Question}
use Rattle.kmip_protocol.specs.Exchanges.{HandsOver}
use Rattle.kmip_protocol.specs.Moves.{Delivered}
use Rattle.kmip_protocol.specs.Past.{Names, Past, is_planned}
use Rattle.kmip_protocol.specs.Turns.{taught}
use Rattle.kmip_runs.specs.declared.save_fault.SaveFault.{SaveFault}
use Rattle.kmip_runs.specs.declared.stop.Stop.{Stop}
use Rattle.kmip_runs.specs.declared.stop.Stop.TheVariants as stops

-- One after the other these messages were the client's next question, about the keys that have the turn. It learnt
-- from these answers: `None` is that nothing came.
abbrev pub Turns : List (List ℕ) → List (Option (List ℕ)) → ClientState → ClientState → Type 0
Turns [] [] c next = next ≡ c
Turns [] (answer ∷ answers) c next = ⊥
Turns (sent ∷ questions) [] c next = ⊥
Turns (sent ∷ questions) (answer ∷ answers) c next =
    (question : Question) × (next_question c ≡ Some question) × (question.bytes ≡ sent) × IsAbout c.keys c.knowns (next_places c) question
    × Turns questions answers (taught question answer (after_ask c)) next

-- Each of these messages was exchanged for its answer, one after the other, over a link that is honest for these
-- names.
abbrev pub AreExchanged : Names → List (List ℕ) → List (Option (List ℕ)) → Past → Past → Type 0
AreExchanged names [] [] old new = new ≡ old
AreExchanged names [] (answer ∷ answers) old new = ⊥
AreExchanged names (sent ∷ questions) [] old new = ⊥
AreExchanged names (sent ∷ questions) (answer ∷ answers) old new =
    (between : Past) × HandsOver names old sent answer between × AreExchanged names questions answers between new

-- The client is as it was, or it has asked its next question and learnt that no answer came.
abbrev pub GivesUp : ClientState → ClientState → Type 0
GivesUp c next = (next ≡ c) ⊎ ((question : Question) × (next_question c ≡ Some question) × (next ≡ taught question None (after_ask c)))

-- what a run leaves of a client: what the turns made of it; where memory ran out, it may have given up one
-- more question
abbrev pub IsLeft : Stop → ClientState → ClientState → Type 0
IsLeft stops.AllFinished last next = next ≡ last
IsLeft stops.Limit last next = next ≡ last
IsLeft stops.Conflict last next = next ≡ last
IsLeft stops.NoMemory last next = GivesUp last next

-- The client has taken this many turns. Over an honest link what was sent is their questions, and where
-- memory did not run out, what was handed over is their answers. Each question was then exchanged for its answer.
-- If memory ran out before a reply was learnt from, it counts as one that did not come.
pub record IsTurned (honest : Type 0) (stop : Stop) (made : ℕ) (old new : ClientState) (before after : Past) : Type 0 where
  pub questions : List (List ℕ)
  pub answers : List (Option (List ℕ))
  pub last : ClientState
  pub turns : Turns questions answers old last
  pub as_many : length questions ≡ made
  pub left : IsLeft stop last new
  pub sent_are : honest → after.sent ≡ before.sent ++ questions
  pub handed_are : honest → stop ≢ stops.NoMemory → after.handed ≡ before.handed ++ answers
  pub exchanged : honest → stop ≢ stops.NoMemory → AreExchanged (is_planned old.keys) questions answers before after

-- Why the turns of a run ended. A text that could not be saved leaves the client as its last turn did.
abbrev pub stop_in : Result Stop SaveFault → Stop
stop_in (Ok stop) = stop
stop_in (Err fault) = stops.Limit

-- The client has taken this many turns until a moment, and then the run was ended over the link.
pub record IsTurnedUntil (honest : Type 0) (stop : Stop) (made : ℕ) (old new : ClientState) (before after : Past) : Type 0 where
  pub until : Past
  pub turned : IsTurned honest stop made old new before until
  pub closed : honest → Delivered (is_planned old.keys) until after

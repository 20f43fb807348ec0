-- What the turns of a client are in a company: events at its place.
-- Source: own (view). `drive` of kmip_runs promises of each run that its client took such turns (*turned*).
use Rattle.std.specs.Prelude.{◌++◌, ◌∷◌, ◌≡◌, [], Err, List, None, Ok, Option, Result, Some, filter, map, slice_get, ℕ}
use Rattle.std.specs.Option.{option_map_or}
use Rattle.kmip_client.specs.Asking.{after_ask, next_question}
use Rattle.kmip_client.specs.Clients.{ClientState}
use Rattle.kmip_client.specs.Hearing.{hear}
use Rattle.kmip_client.specs.declared.hear_fault.HearFault.{HearFault}
use Rattle.kmip_client.specs.declared.heard.Heard.{Heard}
use Rattle.kmip_client.specs.declared.knowledge.Knowledge.{Knowledge}
use Rattle.kmip_client.specs.declared.part.Part.{Part}
use Rattle.kmip_client.specs.declared.question.Question.{Question}
use Rattle.kmip_plan.specs.declared.key.Key.{Key}
use Rattle.kmip_protocol.specs.Amid.{with_talk}
use Rattle.kmip_protocol.specs.Past.{Past}
use Rattle.kmip_protocol.specs.Turns.{is_unanswered, taught}
use Rattle.kmip_company.specs.Companies.{AllMayOccur, Asks, Company, Event, Happens, Hears, Loses, after_events, with_client}

-- The parts of a message that what was heard does not answer: all of them, where nothing could be read.
abbrev pub parts_left : List Part → Result (List (Result Heard HearFault) × List Knowledge) HearFault → List Part
parts_left parts (Ok lesson) = filter (is_unanswered lesson.0) parts
parts_left parts (Err fault) = parts

-- The client at a place learns that no answer came about the keys of these parts.
abbrev pub losses : ℕ → List Part → List Event
losses place parts = map (λ part. Loses place part.key) parts

-- What the client at a place does once its message has an answer, or none: it hears it, and learns what is left
-- without one.
abbrev pub acts_then : ℕ → ClientState → Question → Option (List ℕ) → List Event
acts_then place c question None = losses place question.parts
acts_then place c question (Some bytes) = Hears place bytes ∷ losses place (parts_left question.parts (hear c.keys c.knowns bytes))

-- One turn of the client at a place: it asks, and then does that.
abbrev pub acts : ℕ → ClientState → Question → Option (List ℕ) → List Event
acts place c question answer = Asks place question ∷ acts_then place (after_ask c) question answer

-- All turns of a run of the client at a place: each asks its next question, and learns from one of these answers.
abbrev pub all_acts : ℕ → ClientState → List (Option (List ℕ)) → List Event
all_acts place c [] = []
all_acts place c (answer ∷ answers) =
    option_map_or (λ question. acts place c question answer ++ all_acts place (taught question answer (after_ask c)) answers)
    (next_question c) []

-- The messages that clients ask among these events.
abbrev pub asked_in : List Event → List (List ℕ)
asked_in [] = []
asked_in (Asks place question ∷ events) = question.bytes ∷ asked_in events
asked_in (event ∷ events) = asked_in events

-- What clients do among these events: all but what the network and the server do.
abbrev pub acts_in : List Event → List Event
acts_in [] = []
acts_in (Happens move ∷ events) = acts_in events
acts_in (event ∷ events) = event ∷ acts_in events

-- The event is what the client at this place does: it asks, hears, or learns that no answer came.
pub data IsActAt (place : ℕ) : Event → Type 0 where
  IsAsked : (question : Question) → IsActAt place (Asks place question)
  IsHeard : (bytes : List ℕ) → IsActAt place (Hears place bytes)
  IsLost : (key : ℕ) → IsActAt place (Loses place key)

-- The company has this past. It has no list of what was sent and handed over, so those are left out.
abbrev pub HasPast : Company → Past → Type 0
HasPast w p = w.past ≡ with_talk w.past.sent w.past.handed p

-- The company with another past, but for what was sent and handed over.
abbrev pub with_past : Past → Company → Company
with_past p w = record w { past = with_talk w.past.sent w.past.handed p }

-- Events may occur in the company, one after the other, and make the next company of it. What clients do among them
-- is this.
pub record MayBecome (keys : List Key) (w : Company) (done : List Event) (next : Company) : Type 0 where
  pub events : List Event
  pub may : AllMayOccur keys events w
  pub done_are : acts_in events ≡ done
  pub after : after_events keys events w ≡ next

-- What a client did between two pasts may occur in any company that has the client and the first past. Its acts are
-- turns that learn from these answers. The company then has the second client and the second past.
pub record OccursInCompanies (old new : ClientState) (before after : Past) : Type 0 where
  pub answers : List (Option (List ℕ))
  pub occurs : (w : Company) (place : ℕ) → slice_get w.clients place ≡ Some old → HasPast w before
      → MayBecome old.keys w (all_acts place old answers) (with_client place new (with_past after w))

-- What is known once a question has an answer, or none.
-- Source: own (choice).
use Rattle.std.specs.Prelude.{ℕ, Bool, false, not, ◌==◌, ◌&&◌, List, [], ◌∷◌, filter, Option, Some, None, Result, Ok, Err}
use Rattle.std.specs.List.{list_any}
use Rattle.kmip_plan.specs.declared.key.Key.{Key}
use Rattle.kmip_client.specs.Clients.{ClientState, changed_at, lost_working}
use Rattle.kmip_client.specs.Hearing.{hear}
use Rattle.kmip_client.specs.declared.hear_fault.HearFault.{HearFault}
use Rattle.kmip_client.specs.declared.heard.Heard.{Heard}
use Rattle.kmip_client.specs.declared.knowledge.Knowledge.{Knowledge}
use Rattle.kmip_client.specs.declared.part.Part.{Part}
use Rattle.kmip_client.specs.declared.question.Question.{Question}

-- what was heard of a reply answers this part of the message
abbrev pub answers_part : Part → Result Heard HearFault → Bool
answers_part part (Ok heard) = heard.key == part.key && heard.operation == part.operation
answers_part part (Err fault) = false

-- nothing that was heard answers this part of the message
abbrev pub is_unanswered : List (Result Heard HearFault) → Part → Bool
is_unanswered heard part = not (list_any (answers_part part) heard)

-- the keys of some parts are looked at again
abbrev pub lost_each : List Key → List Part → List Knowledge → List Knowledge
lost_each keys [] knowns = knowns
lost_each keys (part ∷ parts) knowns = lost_each keys parts (changed_at lost_working keys knowns part.key)

-- What was heard of the replies is known; the keys of the parts that have no answer are looked at again.
abbrev pub taught_by : List Key → List Part → List Knowledge → Result (List (Result Heard HearFault) × List Knowledge) HearFault → List Knowledge
taught_by keys parts knowns (Ok lesson) = lost_each keys (filter (is_unanswered lesson.0) parts) lesson.1
taught_by keys parts knowns (Err fault) = lost_each keys parts knowns

-- what is known after an answer to a question, or after none
abbrev pub known_then : List Key → Question → Option (List ℕ) → List Knowledge → List Knowledge
known_then keys question None knowns = lost_each keys question.parts knowns
known_then keys question (Some bytes) knowns = taught_by keys question.parts knowns (hear keys knowns bytes)

-- what a client is after an answer to a question, or after none
abbrev pub taught : Question → Option (List ℕ) → ClientState → ClientState
taught question answer c = record c { knowns = known_then c.keys question answer c.knowns }

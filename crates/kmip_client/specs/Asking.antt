-- Whose turn it is, and what is asked: questions in one message, each about another key.
-- Source: KMIP 2.1, Message Structure (Batch Item, Batch Error Continuation Option); whose turn it is, and
-- how many are asked, is own (choice).
use Rattle.std.specs.Prelude.{◌≡◌, ◌≢◌, ◌≤◌, ℕ, ◌+◌, ◌-◌, nat_le, not, ⊤, cond, List, [], ◌∷◌, ◌++◌, length, map, Option, Some, None, Ok, slice_get, take, drop}
use Rattle.std.specs.List.{All, filter_map}
use Rattle.std.specs.Option.{option_map, option_map_or, option_and_then}
use Rattle.kmip_ttlv.specs.Spelling.{canon}
use Rattle.kmip_batch_items.specs.Operations.{operation_of}
use Rattle.kmip_batch_items.specs.declared.request.Request.{Request}
use Rattle.kmip_messages.specs.Items.{parts_in, requests_in, stops_in}
use Rattle.kmip_messages.specs.Written.{requests_item}
use Rattle.kmip_plan.specs.declared.key.Key.{Key}
use Rattle.kmip_client.specs.Knowledge.{is_working}
use Rattle.kmip_client.specs.declared.knowledge.Knowledge.{Knowledge}
use Rattle.kmip_client.specs.declared.part.Part.{Part}
use Rattle.kmip_client.specs.declared.question.Question.{Question}
use Rattle.kmip_client.specs.Clients.{ClientState, WorksAt}
use Rattle.kmip_client.specs.Questions.{ask_about, request_about}

-- The places of the keys that are worked on, where the lists begin at a place.
abbrev pub all_working_from : ℕ → List Key → List Knowledge → List ℕ
all_working_from place [] knowns = []
all_working_from place (key ∷ keys) [] = []
all_working_from place (key ∷ keys) (known ∷ knowns) =
    cond (is_working key known) (place ∷ all_working_from (place + 1) keys knowns) (all_working_from (place + 1) keys knowns)

-- The places of the keys that are worked on, in cyclic order after the one asked last.
abbrev pub in_turn : ClientState → List ℕ
in_turn c =
    all_working_from c.next (drop c.next c.keys) (drop c.next c.knowns) ++ all_working_from 0 (take c.next c.keys) (take c.next c.knowns)

-- The places that the next message asks about: the first of these, as many as a message asks about at most.
abbrev pub next_places : ClientState → List ℕ
next_places c = take c.batch (in_turn c)

-- What is said of the key at a place; nothing where there is no key.
abbrev pub at_place : {A : Type 0} → (ℕ → Key → Knowledge → A) → List Key → List Knowledge → ℕ → Option A
at_place f keys knowns place =
    option_and_then (λ key. option_map (λ known. f place key known) (slice_get knowns place)) (slice_get keys place)

-- What is said of the key at each of some places.
abbrev pub at_places : {A : Type 0} → (ℕ → Key → Knowledge → A) → List Key → List Knowledge → List ℕ → List A
at_places f keys knowns places = filter_map (at_place f keys knowns) places

-- The part of a message that asks about a key: its place, and the operation that is asked.
abbrev pub part_about : ℕ → Key → Knowledge → Part
part_about place key known = record { key = place; operation = operation_of (ask_about key known) }

-- The requests about the keys at some places.
abbrev pub requests_at : List Key → List Knowledge → List ℕ → List Request
requests_at keys knowns places = at_places (λ place key known. request_about key known) keys knowns places

-- The message of the requests about the keys at some places, in its one written form.
abbrev pub question_at : List Key → List Knowledge → List ℕ → Question
question_at keys knowns places = record {
  parts = at_places part_about keys knowns places;
  bytes = canon (requests_item (requests_at keys knowns places));
}

-- The message, where there is a place that it asks about.
abbrev pub if_any : List ℕ → Question → Option Question
if_any [] question = None
if_any (place ∷ places) question = Some question

-- The next message; none where no key is worked on.
abbrev pub next_question : ClientState → Option Question
next_question c = if_any (next_places c) (question_at c.keys c.knowns (next_places c))

-- The turn is that of the key after the last one that is asked about; where none is, it stays.
abbrev pub turn_behind : List ℕ → ℕ → ℕ
turn_behind places next = option_map_or (λ place. place + 1) (slice_get places (length places - 1)) next

-- The client after the next message: the turn is that of the key after the last one asked about.
abbrev pub after_ask : ClientState → ClientState
after_ask c = record c { next = turn_behind (next_places c) c.next }

-- No place is there twice.
abbrev pub AreApart : List ℕ → Type 0
AreApart [] = ⊤
AreApart (place ∷ places) = All (λ other. other ≢ place) places × AreApart places

-- The message asks about the keys of a plan at some places, one at least, each worked on and each once. It
-- asks what the phase of each asks, and nothing else, in its one written form. Where there are two or more,
-- the server is to go on after a failure. Own (view, law).
pub record IsAbout (keys : List Key) (knowns : List Knowledge) (places : List ℕ) (question : Question) : Type 0 where
  pub some : 1 ≤ length places
  pub works : All (WorksAt keys knowns) places
  pub apart : AreApart places
  pub parts_are : question.parts ≡ at_places part_about keys knowns places
  pub written : question.bytes ≡ canon (requests_item (requests_at keys knowns places))
  pub asks : requests_in question.bytes ≡ requests_at keys knowns places
  pub asks_alone : parts_in question.bytes ≡ map Ok (requests_at keys knowns places)
  pub goes_on : stops_in question.bytes ≡ not (nat_le 2 (length places))

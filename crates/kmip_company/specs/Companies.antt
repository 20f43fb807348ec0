-- Any number of clients of one plan at once: what a company of them is, and what may occur in it.
-- Source: own (view), over KMIP 2.1, Operations. What a client does is in the words of kmip_client's contracts.
use Rattle.std.specs.Prelude.{◌+◌, ◌++◌, ◌∷◌, [], List, None, Option, Some, ℕ, ⊤, drop, slice_get, slice_set, take}
use Rattle.kmip_client.specs.Asking.{IsAbout, after_ask, next_places}
use Rattle.kmip_client.specs.Clients.{ClientState, fresh, lost_at}
use Rattle.kmip_client.specs.Known.{heard}
use Rattle.kmip_client.specs.Saving.{progress, resume}
use Rattle.kmip_client.specs.Verdicts.{counts_of}
use Rattle.kmip_client.specs.declared.question.Question.{Question}
use Rattle.kmip_plan.specs.declared.key.Key.{Key}
use Rattle.kmip_progress.specs.declared.known.Known.{Known}
use Rattle.kmip_protocol.specs.Exchanges.{AreGiven, with_asked}
use Rattle.kmip_protocol.specs.Moves.{MayHappen, Move, after_move}
use Rattle.kmip_protocol.specs.Past.{Past, is_planned}
use Rattle.kmip_runs.specs.Headline.{reported_by}
use Rattle.kmip_server.specs.declared.effect.Effect.{Effect}

-- A company at a moment.
pub record Company : Type 0 where
  -- All that has happened between its clients and the server.
  pub past : Past
  -- The clients that live.
  pub clients : List ClientState
  -- What was ever saved.
  pub saved : List (List Known)
  -- The steps that were ever reported done.
  pub reported : List Effect

-- Nobody lives, and nothing was saved or reported.
abbrev pub nobody : Past → Company
nobody past = record { past = past; clients = []; saved = []; reported = [] }

-- What may occur next. Places count from 0. Where nobody stands at a place, nothing occurs.
pub data Event : Type 0 where
  -- a client begins that knows nothing
  Starts : Event
  -- a client begins from what was saved, of which this is the place
  Resumes : ℕ → Event
  -- the client at the first place asks about so many keys a message from now on
  SetsBatch : ℕ → ℕ → Event
  -- it asks this message
  Asks : ℕ → Question → Event
  -- the network or the server does something
  Happens : Move → Event
  -- it hears these bytes
  Hears : ℕ → List ℕ → Event
  -- no answer came to it about the key at the second place
  Loses : ℕ → ℕ → Event
  -- what it knows is saved
  Saves : ℕ → Event
  -- the steps that it counts are reported done
  Reports : ℕ → Event
  -- it is killed, or ends
  Leaves : ℕ → Event

-- What is made of what stands at a place; nothing where nothing stands there.
abbrev pub if_there : {A : Type 0} → Option A → (A → Company) → Company → Company
if_there None f w = w
if_there (Some a) f w = f a

-- Another state of the client at a place.
abbrev pub with_client : ℕ → ClientState → Company → Company
with_client place c w = record w { clients = slice_set w.clients place c }

-- One more client.
abbrev pub joined_by : ClientState → Company → Company
joined_by c w = record w { clients = w.clients ++ c ∷ [] }

-- The company after an event.
abbrev pub after_event : List Key → Event → Company → Company
after_event keys Starts w = joined_by (fresh keys) w
after_event keys (Resumes place) w = if_there (slice_get w.saved place) (λ saved. joined_by (resume keys saved) w) w
after_event keys (SetsBatch place most) w = if_there (slice_get w.clients place) (λ c. with_client place (record c { batch = most }) w) w
after_event keys (Asks place question) w =
    if_there (slice_get w.clients place) (λ c. with_client place (after_ask c) (record w { past = with_asked question.bytes w.past })) w
after_event keys (Happens move) w = record w { past = after_move move w.past }
after_event keys (Hears place bytes) w =
    if_there (slice_get w.clients place) (λ c. with_client place (record c { knowns = heard c.keys c.knowns (Some bytes) }) w) w
after_event keys (Loses place key) w = if_there (slice_get w.clients place) (λ c. with_client place (lost_at c key) w) w
after_event keys (Saves place) w = if_there (slice_get w.clients place) (λ c. record w { saved = w.saved ++ progress c ∷ [] }) w
after_event keys (Reports place) w =
    if_there (slice_get w.clients place) (λ c. record w { reported = w.reported ++ reported_by keys (counts_of c.knowns) }) w
after_event keys (Leaves place) w = record w { clients = take place w.clients ++ drop (place + 1) w.clients }

-- The message is one that the client at a place may ask next, as `Client::ask` promises of its own.
abbrev pub MayAskNext : Option ClientState → Question → Type 0
MayAskNext None question = ⊤
MayAskNext (Some c) question = IsAbout c.keys c.knowns (next_places c) question

-- When an event may occur. A client may hear what was given to whomever, at any time and any number of times.
abbrev pub MayOccur : List Key → Event → Company → Type 0
MayOccur keys (Asks place question) w = MayAskNext (slice_get w.clients place) question
MayOccur keys (Happens move) w = MayHappen (is_planned keys) move w.past
MayOccur keys (Hears place bytes) w = AreGiven w.past bytes
MayOccur keys event w = ⊤

-- Several events may occur, one after the other.
abbrev pub AllMayOccur : List Key → List Event → Company → Type 0
AllMayOccur keys [] w = ⊤
AllMayOccur keys (event ∷ events) w = MayOccur keys event w × AllMayOccur keys events (after_event keys event w)

-- The company after several events.
abbrev pub after_events : List Key → List Event → Company → Company
after_events keys [] w = w
after_events keys (event ∷ events) w = after_events keys events (after_event keys event w)

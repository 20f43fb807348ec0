-- What holds of any company of clients of one plan.
-- Source: own (law).
use Rattle.std.specs.Prelude.{◌*◌, ◌+◌, ◌∷◌, ◌<◌, ◌≡◌, ◌≤◌, [], List, Option, Some, length, slice_get, slice_set, ℕ}
use Rattle.std.specs.List.{All}
use Rattle.kmip_client.specs.Asking.{IsAbout, after_ask, next_places}
use Rattle.kmip_client.specs.Clients.{ClientState, fresh, verdict_at}
use Rattle.kmip_client.specs.Justified.{Justified}
use Rattle.kmip_client.specs.Places.{Onward}
use Rattle.kmip_client.specs.declared.question.Question.{Question}
use Rattle.kmip_client.specs.declared.verdict.Verdict.TheVariants.{Finished}
use Rattle.kmip_plan.specs.Chains.{bound}
use Rattle.kmip_plan.specs.Plans.{IsLawful}
use Rattle.kmip_plan.specs.declared.key.Key.{Key}
use Rattle.kmip_progress.specs.Suiting.{Suits}
use Rattle.kmip_protocol.specs.Amid.{PassedAmid}
use Rattle.kmip_protocol.specs.Exchanges.{HandsOver, with_asked}
use Rattle.kmip_protocol.specs.Machine.{IsMirrored}
use Rattle.kmip_protocol.specs.Needs.{missing}
use Rattle.kmip_protocol.specs.Past.{Past, is_planned}
use Rattle.kmip_protocol.specs.Ready.{IsReady}
use Rattle.kmip_protocol.specs.Sound.{AreJustified, IsHarmless, Opening, Sound}
use Rattle.kmip_protocol.specs.Turns.{taught}
use Rattle.kmip_runs.specs.Turning.{AreExchanged, Turns}
use Rattle.kmip_company.specs.Acting.{HasPast, IsActAt, MayBecome, acts, all_acts, asked_in, with_past}
use Rattle.kmip_company.specs.Apart.{IsApartFrom, IsLessonAt, SparesClientAt}
use Rattle.kmip_company.specs.Amid.{AllMayPass, Passing, StandsWell, Standing, after_passings, all_cost, left_amid, went_well}
use Rattle.kmip_company.specs.Companies.{AllMayOccur, Company, Event, after_events, nobody, with_client}
use Rattle.kmip_company.specs.Safety.{IsGoodCompany, IsSafeCompany}

-- From where nothing of the plan has happened, whatever occurs, the company is safe.
abbrev pub AnyCompanyIsSafe : Type 0
AnyCompanyIsSafe =
    (keys : List Key) (p : Past) (events : List Event) → IsLawful keys → Opening keys p → AllMayOccur keys events (nobody p)
    → IsSafeCompany keys (after_events keys events (nobody p))

-- Where the past is sound, a company of nobody is good.
abbrev pub NobodyIsGood : Type 0
NobodyIsGood = (keys : List Key) (p : Past) → Sound keys p → IsGoodCompany keys (nobody p)

-- Whatever occurs, a good company stays good, and the objects go onward.
abbrev pub EventsKeepTheGood : Type 0
EventsKeepTheGood =
    (keys : List Key) (w : Company) (events : List Event) → IsLawful keys → IsGoodCompany keys w → AllMayOccur keys events w
    → IsGoodCompany keys (after_events keys events w) × Onward keys w.past.objects (after_events keys events w).past.objects

-- Whatever occurs, the past of a good company stays an image of the plan machine.
abbrev pub EventsKeepTheImage : Type 0
EventsKeepTheImage =
    (keys : List Key) (w : Company) (events : List Event) → IsLawful keys → IsGoodCompany keys w → IsMirrored keys w.past → AllMayOccur keys events w
    → IsMirrored keys (after_events keys events w).past

-- A good company is safe, where its past is an image of the plan machine.
abbrev pub GoodIsSafe : Type 0
GoodIsSafe = (keys : List Key) (w : Company) → IsLawful keys → IsGoodCompany keys w → IsMirrored keys w.past → IsSafeCompany keys w

-- What anybody of a good company saved suits the plan.
abbrev pub WhatIsSavedSuits : Type 0
WhatIsSavedSuits = (keys : List Key) (w : Company) → IsLawful keys → IsGoodCompany keys w → All (Suits keys) w.saved

-- Whatever was asked by anybody of a good company may be asked still, or is outside the plan, as a look is.
abbrev pub WhatWasAskedMayBe : Type 0
WhatWasAskedMayBe = (keys : List Key) (w : Company) → IsGoodCompany keys w → All (IsHarmless keys w.past.objects) w.past.requests

-- In a company that nobody looks beside, whatever occurs, whatever was asked may be asked still.
abbrev pub WhatIsJustifiedStays : Type 0
WhatIsJustifiedStays =
    (keys : List Key) (w : Company) (events : List Event) → IsLawful keys → IsGoodCompany keys w → AreJustified keys w.past → AllMayOccur keys events w
    → AreJustified keys (after_events keys events w).past

-- With room for the objects that are missing, each client of a good company is ready to come to its end over a calm
-- link.
abbrev pub ClientsAreReady : Type 0
ClientsAreReady =
    (keys : List Key) (w : Company) → IsGoodCompany keys w → length w.past.objects + missing keys w.past.objects ≤ w.past.room
    → All (λ (c : ClientState). IsReady w.past.room keys w.past.objects c.knowns) w.clients

-- A turn of a client, which asks its message and learns from an answer, or that none came, is a list of events at
-- its place.
abbrev pub TurnsAreActs : Type 0
TurnsAreActs =
    (keys : List Key) (w : Company) (place : ℕ) (c : ClientState) (question : Question) (answer : Option (List ℕ)) → slice_get w.clients place ≡ Some c
    → after_events keys (acts place c question answer) w
    ≡ with_client place (taught question answer (after_ask c)) (record w { past = with_asked question.bytes w.past })

-- So is a run: the turns that `drive` promises of its client (*turned*). They are all at its place, they ask these
-- questions, and they change no other client.
abbrev pub RunsAreActs : Type 0
RunsAreActs =
    (keys : List Key) (w : Company) (place : ℕ) (old new : ClientState) (questions : List (List ℕ)) (answers : List (Option (List ℕ)))
    → slice_get w.clients place ≡ Some old → Turns questions answers old new
    → All (IsActAt place) (all_acts place old answers) × (asked_in (all_acts place old answers) ≡ questions)
    × ((after_events keys (all_acts place old answers) w).clients ≡ slice_set w.clients place new)

-- A turn over an honest link may occur: its message is about the keys that have the turn, and was exchanged for its
-- answer. Apart from what the network and the server do, the events are the acts of this turn. The company then has
-- the client that learnt from the answer, and the past after the exchange.
abbrev pub TurnsMayOccur : Type 0
TurnsMayOccur =
    (keys : List Key) (w : Company) (place : ℕ) (c : ClientState) (question : Question) (answer : Option (List ℕ)) (before after : Past)
    → slice_get w.clients place ≡ Some c → HasPast w before → IsAbout c.keys c.knowns (next_places c) question
    → HandsOver (is_planned keys) before question.bytes answer after
    → MayBecome keys w (acts place c question answer) (with_client place (taught question answer (after_ask c)) (with_past after w))

-- So may a run: the turns and the exchanges that `drive` promises over an honest link (*turned*).
abbrev pub RunsMayOccur : Type 0
RunsMayOccur =
    (keys : List Key) (w : Company) (place : ℕ) (old new : ClientState) (questions : List (List ℕ)) (answers : List (Option (List ℕ))) (before after : Past)
    → slice_get w.clients place ≡ Some old → HasPast w before → Turns questions answers old new
    → AreExchanged (is_planned keys) questions answers before after
    → MayBecome keys w (all_acts place old answers) (with_client place new (with_past after w))

-- Events that spare the client at a place leave it as it is. So its next question stays the same.
abbrev pub OthersSpareClients : Type 0
OthersSpareClients =
    (keys : List Key) (w : Company) (events : List Event) (place : ℕ) (c : ClientState) → slice_get w.clients place ≡ Some c
    → All (SparesClientAt place) events → slice_get (after_events keys events w).clients place ≡ Some c

-- What one client learns may come later than what another does, or than what the network or the server does.
abbrev pub LessonsMayComeLater : Type 0
LessonsMayComeLater =
    (keys : List Key) (w : Company) (place : ℕ) (lesson event : Event) → IsLessonAt place lesson → IsApartFrom place event
    → AllMayOccur keys (lesson ∷ event ∷ []) w → AllMayOccur keys (event ∷ lesson ∷ []) w

-- The company is the same in both orders.
abbrev pub LessonsCommute : Type 0
LessonsCommute =
    (keys : List Key) (w : Company) (place : ℕ) (lesson event : Event) → IsLessonAt place lesson → IsApartFrom place event
    → after_events keys (lesson ∷ event ∷ []) w ≡ after_events keys (event ∷ lesson ∷ []) w

-- What a good company does between two moments is what may pass over a link that is honest among others of the plan.
abbrev pub CompaniesPassAmid : Type 0
CompaniesPassAmid =
    (keys : List Key) (w : Company) (events : List Event) → IsLawful keys → IsGoodCompany keys w → AllMayOccur keys events w
    → PassedAmid keys w.past (after_events keys events w).past

-- A client amid others: its exchanges that go well and those that may be left are no more than were left before, and
-- what its other exchanges cost.
abbrev pub WhatIsLeftIsPaid : Type 0
WhatIsLeftIsPaid =
    (keys : List Key) (passings : List Passing) (s : Standing) → IsLawful keys → StandsWell keys s → AllMayPass keys passings s
    → went_well passings + left_amid keys (after_passings keys passings s) ≤ left_amid keys s + all_cost keys passings

-- Nobody is kept from its end, whatever the others do. From where nothing of the plan has happened a client makes at
-- most twice the plan's bound of exchanges that go well, and what its other exchanges cost.
abbrev pub NobodyIsKept : Type 0
NobodyIsKept =
    (keys : List Key) (p : Past) (passings : List Passing) → IsLawful keys → Opening keys p
    → AllMayPass keys passings (record { knowns = (fresh keys).knowns; past = p })
    → went_well passings ≤ 2 * bound keys + all_cost keys passings

-- Once nothing is left for a client, each of its keys is finished.
abbrev pub WhoHasNothingLeftIsFinished : Type 0
WhoHasNothingLeftIsFinished =
    (keys : List Key) (s : Standing) → StandsWell keys s → left_amid keys s ≡ 0
    → (place : ℕ) → place < length keys → verdict_at keys s.knowns place ≡ Finished

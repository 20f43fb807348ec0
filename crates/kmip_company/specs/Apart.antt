-- Events at different places of a company.
-- Source: own (view).
use Rattle.std.specs.Prelude.{◌<◌, ◌≡◌, ◌≢◌, ℕ, ⊤}
use Rattle.kmip_company.specs.Companies.{Asks, Event, Happens, Hears, Leaves, Loses, Reports, Saves, SetsBatch}

-- The event leaves the client at this place as it is, and at its place.
abbrev pub SparesClientAt : ℕ → Event → Type 0
SparesClientAt place (SetsBatch other most) = other ≢ place
SparesClientAt place (Asks other question) = other ≢ place
SparesClientAt place (Hears other bytes) = other ≢ place
SparesClientAt place (Loses other key) = other ≢ place
SparesClientAt place (Leaves other) = place < other
SparesClientAt place event = ⊤

-- The event changes the client at this place, and nothing else.
abbrev pub IsLessonAt : ℕ → Event → Type 0
IsLessonAt place (SetsBatch other most) = other ≡ place
IsLessonAt place (Hears other bytes) = other ≡ place
IsLessonAt place (Loses other key) = other ≡ place
IsLessonAt place event = ⊥

-- The client at another place does something and goes on, or the network or the server does.
abbrev pub IsApartFrom : ℕ → Event → Type 0
IsApartFrom place (SetsBatch other most) = other ≢ place
IsApartFrom place (Asks other question) = other ≢ place
IsApartFrom place (Hears other bytes) = other ≢ place
IsApartFrom place (Loses other key) = other ≢ place
IsApartFrom place (Saves other) = other ≢ place
IsApartFrom place (Reports other) = other ≢ place
IsApartFrom place (Happens move) = ⊤
IsApartFrom place event = ⊥

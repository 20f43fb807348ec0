-- When a progress is believed without asking the server.
-- Source: own (choice): docs/OPERATING.md says it to the operator.
use Rattle.std.specs.Prelude.{◌≡◌, ◌≤◌, ◌<◌, ◌⊎◌, ℕ, List, length, true, Option, Some, None}
use Rattle.kmip_client.specs.Clients.{ClientState, identifier_at}
use Rattle.kmip_belief.specs.Origins.{IsSavedFor}
use Rattle.kmip_belief.specs.declared.terms.Terms.{Terms}
use Rattle.kmip_plan.specs.declared.key.Key.{Key}

-- No object is known of the keys of the plan from this place on.
abbrev pub KnowsNoneFrom : ℕ → ClientState → Type 0
KnowsNoneFrom count client =
    (place : ℕ) → count ≤ place → place < length client.keys → identifier_at client.knowns place ≡ None

-- The text of the origin, if there is one, says that the progress was saved against this server for each key of which
-- an object is known. So it does if no object is known.
abbrev pub IsOfThisServer : List ℕ → Option (List ℕ) → ClientState → Type 0
IsOfThisServer server None client = KnowsNoneFrom 0 client
IsOfThisServer server (Some text) client =
    KnowsNoneFrom 0 client ⊎ ((count : ℕ) × IsSavedFor server client.keys count text × KnowsNoneFrom count client)

-- The progress may be believed: the run is a rehearsal, it may ask nothing, the user vouches for the progress, or it is
-- one of this server.
abbrev pub MayBelieve : Terms → Option (List ℕ) → ClientState → Type 0
MayBelieve terms origin client =
    (terms.is_rehearsal ≡ true) ⊎ ((terms.limit ≡ 0) ⊎ ((terms.is_vouched_for ≡ true) ⊎ IsOfThisServer terms.server.now origin client))

-- What holds of clients of several plans at once, where the newest plan prolongs each.
-- Source: own (law).
use Rattle.std.specs.Prelude.{List}
use Rattle.kmip_client.specs.Places.{Onward}
use Rattle.kmip_plan.specs.Plans.{IsLawful}
use Rattle.kmip_plan.specs.Prolonging.{Prolongs}
use Rattle.kmip_plan.specs.declared.key.Key.{Key}
use Rattle.kmip_protocol.specs.Amid.{PassedAmid}
use Rattle.kmip_protocol.specs.Machine.{IsMirrored}
use Rattle.kmip_protocol.specs.Past.{Past}
use Rattle.kmip_protocol.specs.Sound.{Opening, Sound}
use Rattle.kmip_company.specs.Companies.{Company, nobody}
use Rattle.kmip_company.specs.Mixed.{AllMayOccurAmong, IsGoodMixed, IsSafeMixed, PlannedEvent, after_all_of}
use Rattle.kmip_company.specs.Safety.{IsGoodCompany}

-- From where nothing of the newest plan has happened, whatever occurs, the company is safe.
abbrev pub MixedCompaniesAreSafe : Type 0
MixedCompaniesAreSafe =
    (keys : List Key) (p : Past) (events : List PlannedEvent) → IsLawful keys → Opening keys p
    → AllMayOccurAmong keys events (nobody p) → IsSafeMixed keys (after_all_of events (nobody p))

-- Where the past is sound, a company of nobody is good.
abbrev pub MixedNobodyIsGood : Type 0
MixedNobodyIsGood = (keys : List Key) (p : Past) → Sound keys p → IsGoodMixed keys (nobody p)

-- Where the past is sound for the newest plan, a good company of an older plan is good too.
abbrev pub MixedOlderAreGood : Type 0
MixedOlderAreGood =
    (keys old : List Key) (w : Company) → IsLawful keys → Prolongs keys old → Sound keys w.past
    → IsGoodCompany old w → IsGoodMixed keys w

-- Whatever occurs, a good company stays good, and the objects go onward.
abbrev pub MixedEventsKeepTheGood : Type 0
MixedEventsKeepTheGood =
    (keys : List Key) (w : Company) (events : List PlannedEvent) → IsLawful keys → IsGoodMixed keys w
    → AllMayOccurAmong keys events w
    → IsGoodMixed keys (after_all_of events w)
    × Onward keys w.past.objects (after_all_of events w).past.objects

-- Whatever occurs, the past of a good company stays an image of the plan machine.
abbrev pub MixedEventsKeepTheImage : Type 0
MixedEventsKeepTheImage =
    (keys : List Key) (w : Company) (events : List PlannedEvent) → IsLawful keys → IsGoodMixed keys w
    → IsMirrored keys w.past → AllMayOccurAmong keys events w
    → IsMirrored keys (after_all_of events w).past

-- A good company is safe, where its past is an image of the plan machine.
abbrev pub MixedGoodIsSafe : Type 0
MixedGoodIsSafe =
    (keys : List Key) (w : Company) → IsLawful keys → IsGoodMixed keys w → IsMirrored keys w.past
    → IsSafeMixed keys w

-- What a good company does between two moments is what others may do over a link of the newest plan.
abbrev pub MixedCompaniesPassAmid : Type 0
MixedCompaniesPassAmid =
    (keys : List Key) (w : Company) (events : List PlannedEvent) → IsLawful keys → IsGoodMixed keys w
    → AllMayOccurAmong keys events w → PassedAmid keys w.past (after_all_of events w).past

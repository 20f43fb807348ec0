-- What the clients of a company do between two moments is what may pass over a link that is honest among others.
use Rattle.std.proofs.Common.{◌∷◌, [], List, refl, slice_get}
use Rattle.kmip_messages.specs.Items.{requests_in}
use Rattle.kmip_plan.specs.Plans.{IsLawful}
use Rattle.kmip_plan.specs.declared.key.Key.{Key}
use Rattle.kmip_protocol.specs.Amid.{Occurs, OthersAsk, PassedAmid}
use Rattle.kmip_company.specs.Companies.{AllMayOccur, Asks, Company, Event, Happens, Hears, Leaves, Loses, MayOccur}
use Rattle.kmip_company.specs.Companies.{Reports, Resumes, Saves, SetsBatch, Starts, after_event, after_events}
use Rattle.kmip_company.specs.PrivateLawbook.{Lawbook}
use Rattle.kmip_company.specs.Safety.{IsGoodCompany, IsMember}
use Rattle.kmip_company.proofs.EventLemmas.{about_there, good_event, harmless_message, there}
use Rattle.kmip_company.proofs.ListLemmas.{all_at}

-- an event of whomever
passes_event : Lawbook → (keys : List Key) (event : Event) (w : Company) → IsLawful keys → MayOccur keys event w
    → IsGoodCompany keys w
    → PassedAmid keys w.past (after_event keys event w).past
passes_event l keys Starts w lawful may good = l.amid.nothing keys w.past
passes_event l keys (Resumes place) w lawful may good =
    there (λ v. PassedAmid keys w.past v.past) (slice_get w.saved place) _ w (l.amid.nothing keys w.past)
    (λ saved is. l.amid.nothing keys w.past)
passes_event l keys (SetsBatch place most) w lawful may good =
    there (λ v. PassedAmid keys w.past v.past) (slice_get w.clients place) _ w (l.amid.nothing keys w.past)
    (λ c is. l.amid.nothing keys w.past)
passes_event l keys (Asks place question) w lawful may good =
    there (λ v. PassedAmid keys w.past v.past) (slice_get w.clients place) _ w (l.amid.nothing keys w.past)
    (λ c is.
    let m = all_at (IsMember keys w.past.objects) w.clients place c good.members is in
    record {
      meanwhile = OthersAsk (requests_in question.bytes) ∷ [];
      may = (
        harmless_message l keys w.past.objects c question lawful m
            (about_there (slice_get w.clients place) question c may is),
        tt,
      );
      is = refl;
    })
passes_event l keys (Happens move) w lawful may good =
    record { meanwhile = Occurs move ∷ []; may = (may, tt); is = refl }
passes_event l keys (Hears place bytes) w lawful may good =
    there (λ v. PassedAmid keys w.past v.past) (slice_get w.clients place) _ w (l.amid.nothing keys w.past)
    (λ c is. l.amid.nothing keys w.past)
passes_event l keys (Loses place key) w lawful may good =
    there (λ v. PassedAmid keys w.past v.past) (slice_get w.clients place) _ w (l.amid.nothing keys w.past)
    (λ c is. l.amid.nothing keys w.past)
passes_event l keys (Saves place) w lawful may good =
    there (λ v. PassedAmid keys w.past v.past) (slice_get w.clients place) _ w (l.amid.nothing keys w.past)
    (λ c is. l.amid.nothing keys w.past)
passes_event l keys (Reports place) w lawful may good =
    there (λ v. PassedAmid keys w.past v.past) (slice_get w.clients place) _ w (l.amid.nothing keys w.past)
    (λ c is. l.amid.nothing keys w.past)
passes_event l keys (Leaves place) w lawful may good = l.amid.nothing keys w.past

-- events in turn
pub passes_events : Lawbook → (keys : List Key) (events : List Event) (w : Company) → IsLawful keys
    → IsGoodCompany keys w → AllMayOccur keys events w
    → PassedAmid keys w.past (after_events keys events w).past
passes_events l keys [] w lawful good may = l.amid.nothing keys w.past
passes_events l keys (event ∷ events) w lawful good may =
    let next = after_event keys event w in
    l.amid.joins keys w.past next.past (after_events keys events next).past
    (passes_event l keys event w lawful may.0 good)
    (passes_events l keys events next lawful (good_event l keys event w lawful may.0 good).0 may.1)

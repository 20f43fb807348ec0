-- From nobody, event by event.
use Rattle.kmip_company.specs.Companies.{after_events, nobody}
use Rattle.kmip_company.proofs.EventLemmas.{good_events, image_events, nobody_good, safe_company}
use Rattle.kmip_company.proofs.laws.any_company_is_safe.Goals as goal

pub returns : goal.returns
returns c = λ keys p events lawful opening may.
    let l = c.the_laws_below_hold.ensures in
    let good = nobody_good keys p (l.exchanges.begins keys p opening) in
    let image = l.exchanges.opening keys p opening in
    safe_company l keys (after_events keys events (nobody p)) lawful
    (good_events l keys events (nobody p) lawful good may).0
    (image_events l keys events (nobody p) lawful good image may)

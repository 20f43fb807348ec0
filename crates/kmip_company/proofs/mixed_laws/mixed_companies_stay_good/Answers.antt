-- Event by event.
use Rattle.kmip_company.proofs.MixedEventLemmas.{good_events, image_events, nobody_good, safe_mixed}
use Rattle.kmip_company.proofs.MixedOlderLemmas.{older_good}
use Rattle.kmip_company.proofs.mixed_laws.mixed_companies_stay_good.Goals as goal

pub returns-clause-begin : goal.returns-clause-begin
returns-clause-begin c = nobody_good

pub returns-clause-older : goal.returns-clause-older
returns-clause-older c =
    λ keys old w lawful on sound good. older_good c.the_laws_below_hold.ensures keys old w lawful on sound good

pub returns-clause-good : goal.returns-clause-good
returns-clause-good c =
    λ keys w events lawful good may. good_events c.the_laws_below_hold.ensures keys events w lawful good may

pub returns-clause-image : goal.returns-clause-image
returns-clause-image c =
    λ keys w events lawful good image may. image_events c.the_laws_below_hold.ensures keys events w lawful good image
    may

pub returns-clause-safe : goal.returns-clause-safe
returns-clause-safe c = λ keys w lawful good image. safe_mixed c.the_laws_below_hold.ensures keys w lawful good image

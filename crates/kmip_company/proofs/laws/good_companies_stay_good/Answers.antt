-- Event by event.
use Rattle.kmip_company.proofs.EventLemmas.{all_ready, good_events, image_events, just_events, nobody_good, safe_company}
use Rattle.kmip_company.proofs.SuitLemmas.{saved_suits}
use Rattle.kmip_company.proofs.laws.good_companies_stay_good.Goals as goal

pub returns-clause-begin : goal.returns-clause-begin
returns-clause-begin c = nobody_good

pub returns-clause-good : goal.returns-clause-good
returns-clause-good c =
    λ keys w events lawful good may. good_events c.the_laws_below_hold.ensures keys events w lawful good may

pub returns-clause-image : goal.returns-clause-image
returns-clause-image c =
    λ keys w events lawful good image may. image_events c.the_laws_below_hold.ensures keys events w lawful good image
    may

pub returns-clause-safe : goal.returns-clause-safe
returns-clause-safe c = λ keys w lawful good image. safe_company c.the_laws_below_hold.ensures keys w lawful good image

pub returns-clause-suits : goal.returns-clause-suits
returns-clause-suits c = λ keys w lawful good. saved_suits c.the_laws_below_hold.ensures keys w lawful good

pub returns-clause-justified : goal.returns-clause-justified
returns-clause-justified c = λ keys w good. good.sound.requests

pub returns-clause-unlooked : goal.returns-clause-unlooked
returns-clause-unlooked c =
    λ keys w events lawful good just may. just_events c.the_laws_below_hold.ensures keys events w lawful good just may

pub returns-clause-ready : goal.returns-clause-ready
returns-clause-ready c = λ keys w good roomy. all_ready c.the_laws_below_hold.ensures keys w good roomy

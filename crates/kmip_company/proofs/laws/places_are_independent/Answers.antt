-- Event by event.
use Rattle.kmip_company.proofs.ApartLemmas.{commute, may_come_later, spared}
use Rattle.kmip_company.proofs.laws.places_are_independent.Goals as goal

pub returns-clause-spared : goal.returns-clause-spared
returns-clause-spared c = spared

pub returns-clause-later : goal.returns-clause-later
returns-clause-later c = may_come_later

pub returns-clause-same : goal.returns-clause-same
returns-clause-same c = commute

-- Event by event.
use Rattle.kmip_company.proofs.AmongLemmas.{passes_events}
use Rattle.kmip_company.proofs.laws.companies_pass_amid.Goals as goal

pub returns : goal.returns
returns c = λ keys w events lawful good may. passes_events c.the_laws_below_hold.ensures keys events w lawful good may

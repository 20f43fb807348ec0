-- Pair by pair.
use Rattle.kmip_progress.proofs.TellingLemmas.{leads_is}
use Rattle.kmip_progress.proofs.words.leads_on.Goals as goal

pub returns : goal.returns
returns c = leads_is c.args.target c.args.further c.leads_on.result c.leads_on.ensures

-- No rule for a look changes an object.
use Rattle.kmip_look.proofs.ServedLemmas.{same_objects}
use Rattle.kmip_look.proofs.laws.looks_change_nothing.Goals as goal

pub returns : goal.returns
returns c = same_objects

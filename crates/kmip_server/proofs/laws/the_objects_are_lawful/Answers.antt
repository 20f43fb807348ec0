use Rattle.kmip_server.proofs.ObjectLemmas.{kept_objects}
use Rattle.kmip_server.proofs.laws.the_objects_are_lawful.Goals as goal

pub returns : goal.returns
returns c = λ s kept. kept_objects s kept

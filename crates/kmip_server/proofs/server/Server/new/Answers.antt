use Rattle.kmip_server.proofs.ObjectLemmas.{kept_objects}
use Rattle.kmip_server.proofs.server.Server.new.Goals as goal

pub returns-clause-objects : goal.returns-clause-objects
returns-clause-objects g c = kept_objects _ c.the_records_are_kept.ensures

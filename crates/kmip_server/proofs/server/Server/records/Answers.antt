use Rattle.std.proofs.Common.{subst}
use Rattle.kmip_server.specs.Shown.{HasLawfulObjects}
use Rattle.kmip_server.proofs.ObjectLemmas.{kept_objects}
use Rattle.kmip_server.proofs.server.Server.records.Goals as goal

pub returns-clause-objects : goal.returns-clause-objects
returns-clause-objects g c = subst HasLawfulObjects c.self.view_is (kept_objects _ c.the_records_are_kept.ensures)

-- Private: the laws of the crates below, on which the laws here rest.
-- Source: own (law).
use Rattle.kmip_objects.specs.ObjectLaws.{ObjectLaws}
use Rattle.kmip_plan.specs.Laws.{PlanLaws}
use Rattle.kmip_client.specs.Laws.{ClientLaws}
use Rattle.kmip_server.specs.Laws.{ServerLaws}

-- They all hold.
pub record Lawbook : Type 0 where
  pub objects : ObjectLaws
  pub plan : PlanLaws
  pub client : ClientLaws
  pub server : ServerLaws

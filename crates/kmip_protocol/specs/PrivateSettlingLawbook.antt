-- Private: the laws on which those of clients that settle rest.
-- Source: own (law).
use Rattle.kmip_objects.specs.ObjectLaws.{ObjectLaws}
use Rattle.kmip_plan.specs.Laws.{PlanLaws}
use Rattle.kmip_messages.specs.Laws.{MessageLaws}
use Rattle.kmip_client.specs.Laws.{ClientLaws}
use Rattle.kmip_server.specs.Laws.{ServerLaws}
use Rattle.kmip_protocol.specs.Laws.{ExchangeLaws}

-- They all hold.
pub record Lawbook : Type 0 where
  pub objects : ObjectLaws
  pub plan : PlanLaws
  pub messages : MessageLaws
  pub client : ClientLaws
  pub server : ServerLaws
  pub exchanges : ExchangeLaws

-- Private: the laws of the crates below, on which the proofs here rest.
-- Source: own (law).
use Rattle.kmip_plan.specs.Laws.{PlanLaws}
use Rattle.kmip_client.specs.Laws.{ClientLaws}
use Rattle.kmip_protocol.specs.Laws.{ExchangeLaws}
use Rattle.kmip_protocol.specs.AmidLaws.{AmidLaws}
use Rattle.kmip_protocol.specs.SettlingLaws.{SettlingLaws}
use Rattle.kmip_protocol.specs.LosingLaws.{LosingLaws}

-- They all hold.
pub record Lawbook : Type 0 where
  pub plan : PlanLaws
  pub client : ClientLaws
  pub exchanges : ExchangeLaws
  pub amid : AmidLaws
  pub settling : SettlingLaws
  pub losing : LosingLaws

-- Private: the laws of the crates below that the arrival of a message rests on, in one record.
-- Source: own (law).
use Rattle.std.specs.Prelude.{List}
use Rattle.kmip_messages.specs.Laws.{MessageLaws}
use Rattle.kmip_objects.specs.ObjectLaws.{ObjectLaws}
use Rattle.kmip_protocol.specs.Laws.{ExchangeLaws}

-- The laws of the crates below hold.
pub record ArrivalLaws : Type 0 where
  pub messages : MessageLaws
  pub objects : ObjectLaws
  pub exchanges : ExchangeLaws

-- The parts that both kinds of message have, as they stand in an item.
-- Source: KMIP 2.1, Message Structure, Unique Identifier and Unique Batch Item ID.
use Rattle.std.specs.Prelude.{ℕ, List, Option, IsTrue, true}
use Rattle.std.specs.Option.{option_map, option_map_or}
use Rattle.kmip_ttlv.specs.Node.{Node, text_string, byte_string}
use Rattle.kmip_batch_items.specs.declared.standard.TheConstants.{TAG_UNIQUE_BATCH_ITEM_ID, TAG_UNIQUE_IDENTIFIER}
use Rattle.kmip_batch_items.specs.Ranges.{is_batch_id}
use Rattle.kmip_batch_items.specs.Occurrences.{Once, AtMostOnce}
use Rattle.kmip_objects.specs.Ranges.{is_identifier}

-- The Batch Item has this Unique Batch Item ID, in its range, or has none.
pub record IsMarked (batch : List Node) (id : Option (List ℕ)) : Type 0 where
  pub stands : AtMostOnce TAG_UNIQUE_BATCH_ITEM_ID (option_map byte_string id) batch
  pub in_range : IsTrue (option_map_or is_batch_id id true)

-- The payload has this one Unique Identifier, in its range.
pub record IsIdentifier (payload : List Node) (uid : List ℕ) : Type 0 where
  pub stands : Once TAG_UNIQUE_IDENTIFIER (text_string uid) payload
  pub in_range : IsTrue (is_identifier uid)

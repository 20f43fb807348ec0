-- Questions in turn: which may change the records, and which were refused.
-- Source: KMIP 2.1, Operations.
use Rattle.std.specs.Prelude.{Bool, true, false, List, [], ◌∷◌}
use Rattle.kmip_batch_items.specs.declared.outcome.Outcome.{Outcome}
use Rattle.kmip_batch_items.specs.declared.outcome.Outcome.TheVariants.{Failed}
use Rattle.kmip_batch_items.specs.declared.ask.Ask.{Ask}
use Rattle.kmip_batch_items.specs.declared.ask.Ask.TheVariants.{Create, Activate, Revoke, Destroy}
use Rattle.kmip_store.specs.Stock.{Stock}
use Rattle.kmip_server.specs.Serving.{answer}

-- the operation may change the records
abbrev pub changes : Ask → Bool
changes (Create attrs) = true
changes (Activate uid) = true
changes (Revoke uid code) = true
changes (Destroy uid) = true
changes ask = false

-- the outcome is a failure, whatever its reason
abbrev pub has_failed : Outcome → Bool
has_failed (Failed reason) = true
has_failed outcome = false

-- the records after some questions in turn
abbrev pub stock_after_asks : List Ask → Stock → Stock
stock_after_asks [] s = s
stock_after_asks (ask ∷ asks) s = stock_after_asks asks (answer s ask).1

-- What holds of all records.
-- Source: own (law): each is proved of all records.
use Rattle.std.specs.Prelude.{◌≡◌, ℕ, ◌<◌, List, length, None, Ok, IsTrue}
use Rattle.kmip_objects.specs.Ranges.{attrs_fit, is_identifier}
use Rattle.kmip_objects.specs.declared.key_attrs.KeyAttrs.{KeyAttrs}
use Rattle.kmip_objects.specs.declared.step.Step.{Step}
use Rattle.kmip_store.specs.Stepping.{row_with, take_step}
use Rattle.kmip_store.specs.Stock.{IsKept, Stock, create, identifier_at}

-- While there is room in records that are kept, the identifier of the next object is in its range, and no row
-- has it.
abbrev pub NextIdentifierIsFree : Type 0
NextIdentifierIsFree =
    (s : Stock) → IsKept s.rows s.room → length s.rows < s.room
    → IsTrue (is_identifier (identifier_at (length s.rows))) × (row_with (identifier_at (length s.rows)) s.rows ≡ None)

-- Records that are kept are kept after a Create whose attributes are in their ranges, and which is not
-- refused.
abbrev pub CreateKeeps : Type 0
CreateKeeps =
    (s new : Stock) (attrs : KeyAttrs) → IsKept s.rows s.room → IsTrue (attrs_fit attrs) → create attrs s ≡ Ok new
    → IsKept new.rows new.room

-- Records that are kept are kept after a step that is not refused.
abbrev pub StepsKeep : Type 0
StepsKeep =
    (s new : Stock) (step : Step) (uid : List ℕ) → IsKept s.rows s.room → take_step step uid s ≡ Ok new
    → IsKept new.rows new.room

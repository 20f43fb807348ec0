-- The records as the crates above know them: the objects, and how many there may be. They name no rows.
-- Source: KMIP 2.1, Object Attributes, Name and Unique Identifier; the ranges are own (choice), and the room
-- is own (limit).
use Rattle.std.specs.Prelude.{◌≡◌, ℕ, ◌≤◌, Bool, true, ◌&&◌, List, length}
use Rattle.std.specs.List.{list_all}
use Rattle.kmip_objects.specs.Objects.{Object, DistinctNames, DistinctUids}
use Rattle.kmip_objects.specs.Ranges.{attrs_fit, is_identifier}
use Rattle.kmip_store.specs.Stock.{Stock, objects_of}

-- the objects, in the order in which they were made
abbrev pub objects_in : Stock → List Object
objects_in s = objects_of s.rows

-- how many objects there may be. Own (limit).
abbrev pub room_in : Stock → ℕ
room_in s = s.room

-- an object's identifier and attributes are in their ranges
abbrev pub object_fits : Object → Bool
object_fits o = is_identifier o.uid && attrs_fit o.attrs

-- What holds of the objects of every server at all times: names and identifiers are distinct, there are at
-- most as many as the room, and each is in its ranges.
pub record HasLawfulObjects (s : Stock) : Type 0 where
  pub names : DistinctNames (objects_in s)
  pub identifiers : DistinctUids (objects_in s)
  pub within : length (objects_in s) ≤ room_in s
  pub fit : list_all object_fits (objects_in s) ≡ true

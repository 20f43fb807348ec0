-- How far each key of a plan has come on the server. All that follows looks at the objects by these two
-- alone: the identifier of the object with the key's name, and its position.
-- Source: own (view, law).
use Rattle.std.specs.Prelude.{◌≡◌, ◌≤◌, ℕ, List, Option, Some}
use Rattle.std.specs.Option.{option_map, option_map_or}
use Rattle.kmip_objects.specs.Objects.{Object, object_named}
use Rattle.kmip_plan.specs.Chains.{place_reached}
use Rattle.kmip_plan.specs.Plans.{IsPlanned}
use Rattle.kmip_plan.specs.declared.key.Key.{Key}

-- The identifier of the object with the key's name; none without an object.
abbrev pub uid_of : Key → List Object → Option (List ℕ)
uid_of key objects = option_map (λ o. o.uid) (object_named key.attrs.name objects)

-- How many steps of the key's chain that object has had: 0 without an object.
abbrev pub position : Key → List Object → ℕ
position key objects = option_map_or (λ o. place_reached key.target o.state) (object_named key.attrs.name objects) 0

-- Objects go onward for a key: the identifier of its object stays, and its position does not fall.
pub record GoesOnward (key : Key) (old new : List Object) : Type 0 where
  pub uid_stays : (uid : List ℕ) → uid_of key old ≡ Some uid → uid_of key new ≡ Some uid
  pub never_falls : position key old ≤ position key new

-- Objects go onward for each key of a plan. Own (law).
abbrev pub Onward : List Key → List Object → List Object → Type 0
Onward keys old new = (key : Key) → IsPlanned keys key → GoesOnward key old new

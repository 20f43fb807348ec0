-- A new server has room for the keys of any plan.
use Rattle.std.proofs.Common.{◌≡◌, ◌+◌, ◌≤◌, List, [], ◌∷◌, length, arith}
use Rattle.kmip_plan.specs.declared.key.Key.{Key}
use Rattle.kmip_plan.specs.Plans.{IsLawful}
use Rattle.kmip_protocol.specs.Past.{Past}
use Rattle.kmip_protocol.specs.Needs.{missing}
use Rattle.kmip_store.specs.Stock.{most_room}

-- no more objects are missing than there are keys
missing_few : (keys : List Key) → missing keys [] ≤ length keys
missing_few [] = omega arith
missing_few (key ∷ keys) = omega (arith, missing_few keys)

pub has_room : (keys : List Key) (p : Past) → IsLawful keys → p.objects ≡ [] → p.room ≡ most_room
    → length p.objects + missing keys p.objects ≤ p.room
has_room keys p lawful none room = rw (none, room) omega (arith, missing_few keys, lawful.few)

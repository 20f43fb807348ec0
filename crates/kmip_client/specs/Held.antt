-- What a client knows is true of the objects, and no key is in conflict.
-- Source: own (law).
use Rattle.std.specs.Prelude.{◌≡◌, ◌≢◌, ◌≤◌, ℕ, List, Some, None}
use Rattle.std.specs.List.{AllZip}
use Rattle.kmip_objects.specs.Objects.{Object}
use Rattle.kmip_plan.specs.declared.key.Key.{Key}
use Rattle.kmip_progress.specs.declared.known.Known.{Known}
use Rattle.kmip_client.specs.declared.knowledge.Knowledge.{Knowledge}
use Rattle.kmip_client.specs.Places.{uid_of, position}
use Rattle.kmip_client.specs.Saving.{known_of}
use Rattle.kmip_client.specs.Shapes.{PhaseSuits}

-- A known identifier is that of the object with the key's name, and that object has had as many steps as are
-- counted, or more. None is counted without an identifier.
pub record TrueOf (objects : List Object) (key : Key) (known : Known) : Type 0 where
  pub uid_true : (uid : List ℕ) → known.identifier ≡ Some uid → uid_of key objects ≡ Some uid
  pub done_true : known.done ≤ position key objects
  pub has_identifier : 1 ≤ known.done → known.identifier ≢ None

-- What was kept of each key of a plan is true of these objects.
abbrev pub TrueProgress : List Object → List Key → List Known → Type 0
TrueProgress objects keys saved = AllZip (TrueOf objects) keys saved

-- What a client knows of a key is true of these objects, the key is not in conflict, and its phase suits.
pub record IsHeld (objects : List Object) (key : Key) (known : Knowledge) : Type 0 where
  pub holds : TrueOf objects key (known_of known)
  pub no_clash : known.clash ≡ None
  pub suits : PhaseSuits known.phase known.identifier known.done

-- What a client knows of each key of a plan is true of these objects, and no key is in conflict.
abbrev pub Held : List Object → List Key → List Knowledge → Type 0
Held objects keys knowns = AllZip (IsHeld objects) keys knowns

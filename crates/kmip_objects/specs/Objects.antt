-- What the records of a server say of its objects, without their key material. So the client does not stand
-- on the store.
-- Source: KMIP 2.1, Object Attributes, Unique Identifier, Name and State.
use Rattle.std.specs.Prelude.{◌≡◌, ℕ, List, [], ◌∷◌, map, nat_eq, Option, None, if◌then◌else◌}
use Rattle.std.specs.Cmp.Lexicographic.{pointwise}
use Rattle.std.specs.List.{find}
use Rattle.kmip_objects.specs.declared.key_attrs.KeyAttrs.{KeyAttrs}
use Rattle.kmip_objects.specs.declared.key_state.KeyState.{KeyState}

-- What a client may know of a server's object: its identifier, the attributes that it was made with, and its
-- state.
pub record Object : Type 0 where
  pub uid : List ℕ
  pub attrs : KeyAttrs
  pub state : KeyState

-- the first object with the name, where there is one
abbrev pub object_named : List ℕ → List Object → Option Object
object_named name objects = find (λ o. pointwise nat_eq name o.attrs.name) objects

-- the first object with the identifier, where there is one
abbrev pub object_with : List ℕ → List Object → Option Object
object_with uid objects = find (λ o. pointwise nat_eq uid o.uid) objects

-- the object in this state, where it has the identifier; else as it is
abbrev pub restated : List ℕ → KeyState → Object → Object
restated uid state o = if pointwise nat_eq uid o.uid then record o { state = state } else o

-- the objects, with the one that has the identifier in this state
abbrev pub all_restated : List ℕ → KeyState → List Object → List Object
all_restated uid state objects = map (restated uid state) objects

-- No two elements of the list have the same value by f.
abbrev pub DistinctBy : {T : Type 0} → (T → List ℕ) → List T → Type 0
DistinctBy f [] = Unit {0}
DistinctBy f (x ∷ xs) = (find (λ y. pointwise nat_eq (f x) (f y)) xs ≡ None) × DistinctBy f xs

-- No two objects have the same name.
abbrev pub DistinctNames : List Object → Type 0
DistinctNames objects = DistinctBy (λ o. o.attrs.name) objects

-- No two objects have the same identifier.
abbrev pub DistinctUids : List Object → Type 0
DistinctUids objects = DistinctBy (λ o. o.uid) objects

-- What holds of objects that are found, that come, and that change their state.
-- Source: own (law): what the laws of objects say.
use Rattle.std.specs.Prelude.{◌≡◌, ◌≢◌, ℕ, List, [], ◌∷◌, ◌++◌, map, nat_eq, Option, Some, None}
use Rattle.std.specs.Cmp.Lexicographic.{pointwise}
use Rattle.std.specs.List.{Contains, filter}
use Rattle.std.specs.Option.{option_map, option_to_list}
use Rattle.kmip_objects.specs.declared.key_state.KeyState.{KeyState}
use Rattle.kmip_objects.specs.Objects.{
  Object,
  object_named,
  object_with,
  restated,
  all_restated,
  DistinctNames,
  DistinctUids,
}

-- What is found by a name has it, and is one of the objects.
abbrev pub NamedIsOne : Type 0
NamedIsOne =
    (name : List ℕ) (objects : List Object) (o : Object) → object_named name objects ≡ Some o
    → (o.attrs.name ≡ name) × Contains objects o

-- What is found by an identifier has it, and is one of the objects.
abbrev pub IdentifiedIsOne : Type 0
IdentifiedIsOne =
    (uid : List ℕ) (objects : List Object) (o : Object) → object_with uid objects ≡ Some o
    → (o.uid ≡ uid) × Contains objects o

-- Where none is found by a name, no object has the name.
abbrev pub NoneIsNamed : Type 0
NoneIsNamed =
    (name : List ℕ) (objects : List Object) (o : Object) → object_named name objects ≡ None
    → Contains objects o → o.attrs.name ≢ name

-- Where none is found by an identifier, no object has the identifier.
abbrev pub NoneIsIdentified : Type 0
NoneIsIdentified =
    (uid : List ℕ) (objects : List Object) (o : Object) → object_with uid objects ≡ None
    → Contains objects o → o.uid ≢ uid

-- Where names are distinct, each object is the one that is found by its name.
abbrev pub OneIsNamed : Type 0
OneIsNamed =
    (objects : List Object) (o : Object) → DistinctNames objects → Contains objects o
    → object_named o.attrs.name objects ≡ Some o

-- Where identifiers are distinct, each object is the one that is found by its identifier.
abbrev pub OneIsIdentified : Type 0
OneIsIdentified =
    (objects : List Object) (o : Object) → DistinctUids objects → Contains objects o
    → object_with o.uid objects ≡ Some o

-- Where identifiers are distinct, the object of a name is found by its identifier.
abbrev pub NamedIsIdentified : Type 0
NamedIsIdentified =
    (name : List ℕ) (objects : List Object) (o : Object) → DistinctUids objects
    → object_named name objects ≡ Some o → object_with o.uid objects ≡ Some o

-- Where names are distinct, the object of an identifier is found by its name.
abbrev pub IdentifiedIsNamed : Type 0
IdentifiedIsNamed =
    (uid : List ℕ) (objects : List Object) (o : Object) → DistinctNames objects
    → object_with uid objects ≡ Some o → object_named o.attrs.name objects ≡ Some o

-- Where names are distinct, the objects with a name are the one that is found by it, or none.
abbrev pub NamedIsAll : Type 0
NamedIsAll =
    (name : List ℕ) (objects : List Object) → DistinctNames objects
    → filter (λ o. pointwise nat_eq name o.attrs.name) objects
    ≡ option_to_list (object_named name objects)

-- Where identifiers are distinct, the objects with an identifier are the one that is found by it, or none.
abbrev pub IdentifiedIsAll : Type 0
IdentifiedIsAll =
    (uid : List ℕ) (objects : List Object) → DistinctUids objects
    → filter (λ o. pointwise nat_eq uid o.uid) objects ≡ option_to_list (object_with uid objects)

-- An object that is found by a name is found with more objects after these, too.
abbrev pub NamedBeforeMore : Type 0
NamedBeforeMore =
    (name : List ℕ) (objects more : List Object) (o : Object) → object_named name objects ≡ Some o
    → object_named name (objects ++ more) ≡ Some o

-- Where none is found by a name, the one that is found with more objects after these is found among those.
abbrev pub NamedAmongMore : Type 0
NamedAmongMore =
    (name : List ℕ) (objects more : List Object) → object_named name objects ≡ None
    → object_named name (objects ++ more) ≡ object_named name more

-- An object that is found by an identifier is found with more objects after these, too.
abbrev pub IdentifiedBeforeMore : Type 0
IdentifiedBeforeMore =
    (uid : List ℕ) (objects more : List Object) (o : Object) → object_with uid objects ≡ Some o
    → object_with uid (objects ++ more) ≡ Some o

-- Where none is found by an identifier, the one that is found with more objects is found among those.
abbrev pub IdentifiedAmongMore : Type 0
IdentifiedAmongMore =
    (uid : List ℕ) (objects more : List Object) → object_with uid objects ≡ None
    → object_with uid (objects ++ more) ≡ object_with uid more

-- Objects that are distinct stay so with one more at the end, where none of them has what that one has. In
-- what they are distinct, names or identifiers, and how that is looked for, is given.
abbrev pub OneMore : (List Object → Type 0) → (Object → List Object → Option Object) → Type 0
OneMore Distinct same =
    (objects : List Object) (o : Object) → Distinct objects → same o objects ≡ None
    → Distinct (objects ++ o ∷ [])

-- The object that has the identifier is in the new state, and is else as it was.
abbrev pub OwnIsRestated : Type 0
OwnIsRestated =
    (uid : List ℕ) (state : KeyState) (o : Object) → o.uid ≡ uid
    → restated uid state o ≡ record o { state = state }

-- An object with another identifier is as it was.
abbrev pub OtherIsKept : Type 0
OtherIsKept = (uid : List ℕ) (state : KeyState) (o : Object) → o.uid ≢ uid → restated uid state o ≡ o

-- No object's identifier changes, and no attribute.
abbrev pub RestatedKeeps : Type 0
RestatedKeeps =
    (uid : List ℕ) (state : KeyState) (o : Object)
    → ((restated uid state o).uid ≡ o.uid) × ((restated uid state o).attrs ≡ o.attrs)

-- The objects have the names that they had, in their order.
abbrev pub NamesAreKept : Type 0
NamesAreKept =
    (uid : List ℕ) (state : KeyState) (objects : List Object)
    → map (λ o. o.attrs.name) (all_restated uid state objects) ≡ map (λ o. o.attrs.name) objects

-- The objects have the identifiers that they had, in their order.
abbrev pub UidsAreKept : Type 0
UidsAreKept =
    (uid : List ℕ) (state : KeyState) (objects : List Object)
    → map (λ o. o.uid) (all_restated uid state objects) ≡ map (λ o. o.uid) objects

-- What is found by a name is what was found, in its new state.
abbrev pub NamedIsRestated : Type 0
NamedIsRestated =
    (name uid : List ℕ) (state : KeyState) (objects : List Object)
    → object_named name (all_restated uid state objects)
    ≡ option_map (restated uid state) (object_named name objects)

-- What is found by an identifier is what was found, in its new state.
abbrev pub IdentifiedIsRestated : Type 0
IdentifiedIsRestated =
    (own uid : List ℕ) (state : KeyState) (objects : List Object)
    → object_with own (all_restated uid state objects)
    ≡ option_map (restated uid state) (object_with own objects)

-- Objects that are distinct stay so. In what they are, names or identifiers, is given.
abbrev pub StaysDistinct : (List Object → Type 0) → Type 0
StaysDistinct Distinct =
    (uid : List ℕ) (state : KeyState) (objects : List Object) → Distinct objects
    → Distinct (all_restated uid state objects)

-- What holds of all objects.
pub record ObjectLaws : Type 0 where
  pub named : NamedIsOne
  pub identified : IdentifiedIsOne
  pub none_named : NoneIsNamed
  pub none_identified : NoneIsIdentified
  pub one_named : OneIsNamed
  pub one_identified : OneIsIdentified
  pub by_identifier : NamedIsIdentified
  pub by_name : IdentifiedIsNamed
  pub all_named : NamedIsAll
  pub all_identified : IdentifiedIsAll
  pub named_before : NamedBeforeMore
  pub named_among : NamedAmongMore
  pub identified_before : IdentifiedBeforeMore
  pub identified_among : IdentifiedAmongMore
  pub one_more_name : OneMore DistinctNames (λ o. object_named o.attrs.name)
  pub one_more_identifier : OneMore DistinctUids (λ o. object_with o.uid)
  pub own_restated : OwnIsRestated
  pub other_kept : OtherIsKept
  pub restated_keeps : RestatedKeeps
  pub names_kept : NamesAreKept
  pub identifiers_kept : UidsAreKept
  pub named_restated : NamedIsRestated
  pub identified_restated : IdentifiedIsRestated
  pub names_stay : StaysDistinct DistinctNames
  pub identifiers_stay : StaysDistinct DistinctUids

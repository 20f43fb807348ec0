-- What holds of every server, in the words of its laws.
-- Source: own (law).
use Rattle.std.specs.Prelude.{◌≡◌, ℕ, nat_eq, List, map, filter, Some, option_to_list}
use Rattle.std.specs.Cmp.Lexicographic.{pointwise}
use Rattle.std.specs.Option.{option_map}
use Rattle.kmip_objects.specs.Objects.{DistinctNames, Object, object_named}
use Rattle.kmip_objects.specs.Attributes.{by_name}
use Rattle.kmip_objects.specs.Searching.{every_state}
use Rattle.kmip_batch_items.specs.declared.outcome.Outcome.{Outcome}
use Rattle.kmip_batch_items.specs.declared.outcome.Outcome.TheVariants.{Located}
use Rattle.kmip_batch_items.specs.declared.ask.Ask.TheVariants.{Locate}
use Rattle.kmip_server.specs.ServerStep.{ServerStep}

-- A Locate by a name alone, under the mask that searches the objects in every state, answers the identifier
-- of the object with the name, where there is one, and nothing else. No object changes. Names have to be
-- distinct.
abbrev pub LocateFindsTheName : Type 0
LocateFindsTheName =
    (room : ℕ) (objects after : List Object) (name : List ℕ) (outcome : Outcome) → DistinctNames objects
    → ServerStep room objects (Locate (Some every_state) (by_name name)) outcome after
    → (after ≡ objects) × (outcome ≡ Located (option_to_list (option_map (λ o. o.uid) (object_named name objects))))

-- Whether names are distinct or not, a Locate by a name alone, under that mask, answers the identifiers of
-- the objects with the name, in their order. No object changes.
abbrev pub LocateFindsAllNamed : Type 0
LocateFindsAllNamed =
    (room : ℕ) (objects after : List Object) (name : List ℕ) (outcome : Outcome)
    → ServerStep room objects (Locate (Some every_state) (by_name name)) outcome after
    → (after ≡ objects)
    × (outcome ≡ Located (map (λ o. o.uid) (filter (λ o. pointwise nat_eq name o.attrs.name) objects)))

-- What holds of every server that is asked for a name.
pub record ServerLaws : Type 0 where
  pub located : LocateFindsTheName
  pub all_located : LocateFindsAllNamed

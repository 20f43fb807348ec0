-- What Activate, Revoke and Destroy do to the records.
-- Source: KMIP 2.1, Operations, Activate, Revoke and Destroy; Object Attributes, State.
use Rattle.std.specs.Prelude.{◌≡◌, ℕ, List, [], map, nat_eq, Option, Some, None, Result, Ok, Err, if◌then◌else◌}
use Rattle.std.specs.Cmp.Lexicographic.{pointwise}
use Rattle.std.specs.List.{find}
use Rattle.kmip_objects.specs.Lifecycle.{after}
use Rattle.kmip_objects.specs.declared.key_state.KeyState.{KeyState}
use Rattle.kmip_objects.specs.declared.key_state.KeyState.TheVariants.{Destroyed}
use Rattle.kmip_objects.specs.declared.step.Step.{Step}
use Rattle.kmip_store.specs.declared.row.Row.{Row}
use Rattle.kmip_store.specs.declared.store_fault.StoreFault.{StoreFault}
use Rattle.kmip_store.specs.declared.store_fault.StoreFault.TheVariants.{NotFound, WrongState}
use Rattle.kmip_store.specs.Stock.{Stock}

-- The first row with the identifier.
abbrev pub row_with : List ℕ → List Row → Option Row
row_with uid rows = find (λ r. pointwise nat_eq uid r.uid) rows

-- The material of an object in a state: none once it is destroyed.
abbrev pub material_in : KeyState → List ℕ → List ℕ
material_in Destroyed material = []
material_in state material = material

-- The row in this state; its material is gone once it is destroyed.
abbrev pub enter : KeyState → Row → Row
enter state r = record r { state = state; material = material_in state r.material }

-- The row in this state, where it has the identifier.
abbrev pub row_in_state : List ℕ → KeyState → Row → Row
row_in_state uid state r = if pointwise nat_eq uid r.uid then enter state r else r

-- The rows, with the one that has the identifier in this state.
abbrev pub rows_in_state : List ℕ → KeyState → List Row → List Row
rows_in_state uid state rows = map (row_in_state uid state) rows

-- The records once the object with the identifier is in the state that a step led to; refused where there is
-- no such step.
abbrev pub enter_state : List ℕ → Stock → Option KeyState → Result Stock StoreFault
enter_state uid s None = Err WrongState
enter_state uid s (Some state) = Ok (record s { rows = rows_in_state uid state s.rows })

-- The records after a step of the row that was found; refused where none was found.
abbrev pub take_step_from : Step → List ℕ → Stock → Option Row → Result Stock StoreFault
take_step_from step uid s None = Err NotFound
take_step_from step uid s (Some row) = enter_state uid s (after row.state step)

-- The records after a step of the object with the identifier, or why it is refused: it is unknown, or its
-- state has no such step.
abbrev pub take_step : Step → List ℕ → Stock → Result Stock StoreFault
take_step step uid s = take_step_from step uid s (row_with uid s.rows)

-- A call did what it says of the records before it, or was refused for the fault that it says and left them
-- as they were.
abbrev pub Becomes : {A : Type 0} → Result A StoreFault → Stock → Stock → Result Stock StoreFault → Type 0
Becomes (Ok a) old new wanted = wanted ≡ Ok new
Becomes (Err fault) old new wanted = (wanted ≡ Err fault) × (new ≡ old)

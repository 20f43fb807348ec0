-- What the records hold, what a Create adds, and what holds of them at all times.
-- Source: KMIP 2.1, Object Attributes, Name, State and Unique Identifier; Operations, Create. The stream of
-- key material is the ChaCha20 of RFC 8439, as `rand_chacha` states it. That keys are made of it, and the
-- identifiers, are own (choice); the room is own (limit).
use Rattle.std.specs.Prelude.{◌≡◌, ℕ, ◌+◌, ◌/◌, ◌≤◌, ◌<◌, ℤ, pos, negsuc, Bool, true, false, List, [], ◌∷◌, ◌++◌, length, map, nat_eq, nat_lt, Result, Ok, Err, if◌then◌else◌}
use Rattle.std.specs.Cmp.Lexicographic.{pointwise}
use Rattle.std.specs.Fmt.{decimal}
use Rattle.std.specs.List.{list_any, list_all}
use Rattle.rand_core.specs.Steps.{fill_via_u32}
use Rattle.rand_chacha.specs.ChaCha.{ChaCha, next_word, of_seed}
use Rattle.kmip_objects.specs.Objects.{Object}
use Rattle.kmip_objects.specs.Ranges.{attrs_fit}
use Rattle.kmip_objects.specs.declared.key_attrs.KeyAttrs.{KeyAttrs}
use Rattle.kmip_objects.specs.declared.key_state.KeyState.TheVariants.{PreActive}
use Rattle.kmip_store.specs.declared.row.Row.{Row}
use Rattle.kmip_store.specs.declared.store_fault.StoreFault.{StoreFault}
use Rattle.kmip_store.specs.declared.store_fault.StoreFault.TheVariants.{NotFound, SameName, WrongState, Full, NoMemory}

-- What the records hold: the rows in the order in which they were made, how many there may be, and how far
-- the stream of key material has come. Own (view).
pub record Stock : Type 0 where
  pub rows : List Row
  pub room : ℕ
  pub stream : ChaCha

-- The records of a new store: no row, and the stream of ChaCha20 that the seed begins. Own (view).
abbrev pub empty_stock : List ℕ → ℕ → Stock
empty_stock seed room = record { rows = []; room = room; stream = of_seed seed }

-- A row as a client may know it: without its key material.
abbrev pub object_of : Row → Object
object_of r = record { uid = r.uid; attrs = r.attrs; state = r.state }

-- The rows as a client may know them.
abbrev pub objects_of : List Row → List Object
objects_of rows = map object_of rows

-- A row has the name.
abbrev pub has_row_named : List ℕ → List Row → Bool
has_row_named name rows = list_any (λ r. pointwise nat_eq name r.attrs.name) rows

-- How many bytes a key of this many bits has: an eighth of them.
abbrev pub material_size : ℤ → ℕ
material_size (pos bits) = bits / 8
material_size (negsuc n) = 0

-- The next bytes of the stream, as many as this, and the stream after them.
abbrev pub draw : ℕ → ChaCha → List ℕ × ChaCha
draw size stream = fill_via_u32 (next_word 10) size stream

-- The Unique Identifier of the object that is made at a place, from 0: the decimal number of the place, from
-- 1. Own (choice).
abbrev pub identifier_at : ℕ → List ℕ
identifier_at place = decimal (place + 1)

-- The row of a new object at a place from 0: it is Pre-Active.
abbrev pub new_row : ℕ → KeyAttrs → List ℕ → Row
new_row place attrs material = record { uid = identifier_at place; attrs = attrs; state = PreActive; material = material }

-- The records with one object more, whose material is what was drawn for it.
abbrev pub stock_with_drawn : KeyAttrs → Stock → List ℕ × ChaCha → Stock
stock_with_drawn attrs s next = record { rows = s.rows ++ new_row (length s.rows) attrs next.0 ∷ []; room = s.room; stream = next.1 }

-- The records with one object more, whose material is the next bytes of the stream.
abbrev pub stock_with : KeyAttrs → Stock → Stock
stock_with attrs s = stock_with_drawn attrs s (draw (material_size attrs.length) s.stream)

-- The records with one object more, or why there is none: its name is used, or else the room is used up. Own
-- (order, limit).
abbrev pub create : KeyAttrs → Stock → Result Stock StoreFault
create attrs s =
    if has_row_named attrs.name s.rows then Err SameName else (if nat_lt (length s.rows) s.room then Ok (stock_with attrs s) else Err Full)

-- When a Create is refused, and why: first for its name, then for want of room, then of memory. Own (order,
-- limit).
abbrev pub MayRefuse : {A : Type 0} → List ℕ → Stock → Result A StoreFault → Type 0
MayRefuse name s (Ok a) = (has_row_named name s.rows ≡ false) × (length s.rows < s.room)
MayRefuse name s (Err SameName) = has_row_named name s.rows ≡ true
MayRefuse name s (Err Full) = (has_row_named name s.rows ≡ false) × (s.room ≤ length s.rows)
MayRefuse name s (Err NoMemory) = (has_row_named name s.rows ≡ false) × (length s.rows < s.room)
MayRefuse name s (Err NotFound) = ⊥
MayRefuse name s (Err WrongState) = ⊥

-- The identifiers of the rows are those of their places, from this place on.
abbrev pub AreNumbered : ℕ → List Row → Type 0
AreNumbered place [] = Unit {0}
AreNumbered place (r ∷ rows) = (r.uid ≡ identifier_at place) × AreNumbered (place + 1) rows

-- No two rows have one name.
abbrev pub HaveOwnNames : List Row → Type 0
HaveOwnNames [] = Unit {0}
HaveOwnNames (r ∷ rows) = (has_row_named r.attrs.name rows ≡ false) × HaveOwnNames rows

-- The most objects that there may be room for. Own (limit).
abbrev pub most_room : ℕ
most_room = 10000

-- What holds of the records at all times: there are no more rows than there is room for, and room for at most
-- 10,000. Identifiers are numbered by place, names are distinct, and attributes are in their ranges.
pub record IsKept (rows : List Row) (room : ℕ) : Type 0 where
  -- There are no more rows than there is room for.
  pub within : length rows ≤ room
  -- There is room for at most 10,000.
  pub small : room ≤ most_room
  -- Identifiers are numbered by place.
  pub numbered : AreNumbered 0 rows
  -- Names are distinct.
  pub named : HaveOwnNames rows
  -- Attributes are in their ranges.
  pub fit : list_all (λ r. attrs_fit r.attrs) rows ≡ true

-- Rows in which an object has entered a state keep their identifiers and names. kmip_server's laws of questions that come
-- again are inductions over rows, where no call stands whose clause could say it.
use Rattle.std.proofs.Common.{◌≡◌, ℕ, Bool, true, false, cond, nat_eq, List, [], ◌∷◌, refl}
use Rattle.std.specs.Cmp.Lexicographic.{pointwise}
use Rattle.kmip_objects.specs.declared.key_state.KeyState.{KeyState}
use Rattle.kmip_store.specs.declared.row.Row.{Row}
use Rattle.kmip_store.specs.Stock.{has_row_named}
use Rattle.kmip_store.specs.Stepping.{enter, row_in_state, rows_in_state}

-- another state changes neither the identifier nor the attributes
same_columns : (b : Bool) (state : KeyState) (r : Row)
    → ((cond b (enter state r) r).uid ≡ r.uid) × ((cond b (enter state r) r).attrs ≡ r.attrs)
same_columns true state r = (refl, refl)
same_columns false state r = (refl, refl)

pub moved_uid : (uid : List ℕ) (state : KeyState) (r : Row) → (row_in_state uid state r).uid ≡ r.uid
moved_uid uid state r = (same_columns (pointwise nat_eq uid r.uid) state r).0

pub moved_attrs : (uid : List ℕ) (state : KeyState) (r : Row) → (row_in_state uid state r).attrs ≡ r.attrs
moved_attrs uid state r = (same_columns (pointwise nat_eq uid r.uid) state r).1

pub has_name_moved : (uid : List ℕ) (state : KeyState) (name : List ℕ) (rows : List Row)
    → has_row_named name (rows_in_state uid state rows) ≡ has_row_named name rows
has_name_moved uid state name [] = refl
has_name_moved uid state name (r ∷ rows) = rw (moved_attrs uid state r, has_name_moved uid state name rows) refl

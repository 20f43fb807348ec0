-- One row in another state.
use Rattle.std.proofs.Common.{◌≡◌, ℕ, ◌+◌, ◌<◌, ◌≤◌, zero, suc, Bool, true, false, nat_eq, List, [], ◌∷◌, length, get_or, ltb, set, Option, Some, refl, sym, ap, ◌∙◌, arith}
use Rattle.std.specs.Cmp.Lexicographic.{pointwise}
use Rattle.std.specs.Fmt.{decimal}
use Rattle.std.specs.List.{find, position, position_or_len, slice_get}
use Rattle.std.proofs.lemmas.Bool.{false_from_ne_true, cond-true, cond-false, ltb-true}
use Rattle.std.proofs.lemmas.List.Folds.{find_at}
use Rattle.std.proofs.lemmas.List.Quantifiers.{position-Some}
use Rattle.std.proofs.lemmas.Option.{none-some, same_Some, cond_some, slice_get_within, slice_get-get_or}
use Rattle.std.proofs.lemmas.Fmt.{decimal_injective}
use Rattle.std.proofs.lemmas.Slice.Eq.{bytes_eq-Decides}
use Rattle.kmip_objects.specs.Lifecycle.{after}
use Rattle.kmip_objects.specs.declared.key_state.KeyState.{KeyState}
use Rattle.kmip_objects.specs.declared.step.Step.{Step}
use Rattle.kmip_store.specs.declared.row.Row.{Row}
use Rattle.kmip_store.specs.Stock.{Stock, AreNumbered}
use Rattle.kmip_store.specs.PrivateIndexing.{names_of, uids_of}
use Rattle.kmip_store.proofs.ForCallers.{moved_attrs, moved_uid}
use Rattle.kmip_store.specs.Stepping.{row_with, enter, row_in_state, rows_in_state, enter_state, take_step_from, take_step}

-- the test of a row by its identifier
abbrev pub has_uid : List ℕ → Row → Bool
has_uid uid r = pointwise nat_eq uid r.uid

-- the identifiers of two places are apart
apart : (uid own : List ℕ) (place start : ℕ) → uid ≡ decimal (place + 1) → own ≡ decimal (start + 1) → place < 10000 → start < 10000
    → (place ≡ start → ⊥) → pointwise nat_eq uid own ≡ false
apart uid own place start is own_is small start_small other =
    false_from_ne_true (pointwise nat_eq uid own)
    (λ same.
    let equal = decimal_injective (place + 1) (start + 1) (omega arith) (omega arith) (sym is ∙ (bytes_eq-Decides uid own).0 same ∙ own_is) in
    other (omega (arith, equal)))

moved_other : (uid : List ℕ) (state : KeyState) (r : Row) → pointwise nat_eq uid r.uid ≡ false → row_in_state uid state r ≡ r
moved_other uid state r other = cond-false (pointwise nat_eq uid r.uid) (enter state r) r other

-- no row behind a place has that place's identifier
moved_behind : (uid : List ℕ) (state : KeyState) (place start : ℕ) (rows : List Row) → uid ≡ decimal (place + 1) → place < start
    → start + length rows ≤ 10000 → AreNumbered start rows → rows_in_state uid state rows ≡ rows
moved_behind uid state place start [] is behind small numbered = refl
moved_behind uid state place start (r ∷ rows) is behind small numbered =
    let other = apart uid r.uid place start is numbered.0 (omega (arith, small)) (omega (arith, small)) (λ e. omega (arith, e, behind)) in
    rw (
      moved_other uid state r other,
      moved_behind uid state place (start + 1) rows is (omega (arith, behind)) (omega (arith, small)) numbered.1,
    ) refl

-- the row at a place has that place's identifier
pub numbered_at : (start i : ℕ) (rows : List Row) (row : Row) → AreNumbered start rows → slice_get rows i ≡ Some row
    → row.uid ≡ decimal (start + i + 1)
numbered_at start i [] row numbered at = absurd (none-some row at)
numbered_at start zero (r ∷ rows) row numbered at =
    let here : start + 1 ≡ start + 0 + 1 = omega arith in
    ap (λ x. x.uid) (sym (same_Some r row at)) ∙ numbered.0 ∙ ap decimal here
numbered_at start (suc i) (r ∷ rows) row numbered at =
    let next : start + 1 + i + 1 ≡ start + suc i + 1 = omega arith in
    numbered_at (start + 1) i rows row numbered.1 at ∙ ap decimal next

-- the one row that has an identifier
moved_at : (uid : List ℕ) (state : KeyState) (start i : ℕ) (rows : List Row) (row : Row) → uid ≡ decimal (start + i + 1)
    → start + length rows ≤ 10000 → AreNumbered start rows → slice_get rows i ≡ Some row
    → rows_in_state uid state rows ≡ set rows i (enter state row)
moved_at uid state start i [] row is small numbered at = absurd (none-some row at)
moved_at uid state start zero (r ∷ rows) row is small numbered at =
    let here : start + 0 + 1 ≡ start + 1 = omega arith in
    let same : pointwise nat_eq uid r.uid ≡ true = (bytes_eq-Decides uid r.uid).1 (is ∙ ap decimal here ∙ sym numbered.0) in
    rw (
      cond-true (pointwise nat_eq uid r.uid) (enter state r) r same,
      moved_behind uid state start (start + 1) rows (is ∙ ap decimal here) (omega arith) (omega (arith, small)) numbered.1,
    ) (ap (λ x. enter state x ∷ rows) (same_Some r row at))
moved_at uid state start (suc i) (r ∷ rows) row is small numbered at =
    let next : start + suc i + 1 ≡ start + 1 + i + 1 = omega arith in
    let here : start + suc i + 1 ≡ start + (i + 1) + 1 = omega arith in
    let within = slice_get_within rows i row at in
    let other = apart uid r.uid (start + (i + 1)) start (is ∙ ap decimal here) numbered.0 (omega (arith, small, within)) (omega (arith, small)) (λ e. omega (arith, e)) in
    rw (
      moved_other uid state r other,
      moved_at uid state (start + 1) i rows row (is ∙ ap decimal next) (omega (arith, small)) numbered.1 at,
    ) refl

-- the row at the first place that passes a test is the first row that does
pub found_row : (test : Row → Bool) (rows : List Row) (place : ℕ) (row : Row) → position test rows ≡ Some place → row ≡ get_or rows place row
    → find test rows ≡ Some row
found_row test rows place row at is =
    let parts = cond_some (ltb (position_or_len test rows) (length rows)) (position_or_len test rows) place at in
    let here = slice_get-get_or rows place row (omega (arith, ltb-true _ _ parts.0, parts.1)) in
    find_at test rows ∙ ap (slice_get rows) parts.1 ∙ here ∙ ap Some (sym is)

-- the row at a place in another state, its identifier being the only one
pub stepped_is : (rows new : List Row) (state : KeyState) (place : ℕ) (row : Row) → AreNumbered 0 rows → length rows ≤ 10000
    → slice_get rows place ≡ Some row → new ≡ set rows place (enter state row)
    → new ≡ rows_in_state row.uid state rows
stepped_is rows new state place row numbered small here becomes =
    becomes ∙ sym (moved_at row.uid state 0 place rows row (numbered_at 0 place rows row numbered here) (omega (arith, small)) numbered here)

-- the identifier that a place was found by is that of its row
pub own_uid : (rows : List Row) (uid : List ℕ) (place : ℕ) (row : Row) → position (has_uid uid) rows ≡ Some place
    → row ≡ get_or rows place row → uid ≡ row.uid
own_uid rows uid place row at is =
    let found = position-Some (has_uid uid) rows place row at in
    (bytes_eq-Decides uid row.uid).0 (ap (has_uid uid) is ∙ found.1)

-- a step changes no names
pub names_moved : (uid : List ℕ) (state : KeyState) (rows : List Row) → names_of (rows_in_state uid state rows) ≡ names_of rows
names_moved uid state [] = refl
names_moved uid state (r ∷ rows) = rw (moved_attrs uid state r, names_moved uid state rows) refl

-- nor identifiers
pub uids_moved : (uid : List ℕ) (state : KeyState) (rows : List Row) → uids_of (rows_in_state uid state rows) ≡ uids_of rows
uids_moved uid state [] = refl
uids_moved uid state (r ∷ rows) = rw (moved_uid uid state r, uids_moved uid state rows) refl

pub step_found : (step : Step) (uid : List ℕ) (s : Stock) (row : Row) (next : Option KeyState) → row_with uid s.rows ≡ Some row
    → next ≡ after row.state step → take_step step uid s ≡ enter_state uid s next
step_found step uid s row next found is = ap (take_step_from step uid s) found ∙ ap (enter_state uid s) (sym is)

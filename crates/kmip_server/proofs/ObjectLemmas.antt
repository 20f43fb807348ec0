-- Objects and the rows that they show: found by name and by identifier, and in another state.
use Rattle.std.proofs.Common.{◌≡◌, ℕ, ◌+◌, ◌<◌, ◌≤◌, Bool, true, false, cond, nat_eq, List, [], ◌∷◌, length, map, Option, Some, None, is_some, refl, ap, ◌∙◌, inl, inr, arith}
use Rattle.std.specs.Cmp.Lexicographic.{pointwise}
use Rattle.std.specs.List.{find, list_all, list_any}
use Rattle.std.specs.Option.{option_map}
use Rattle.std.proofs.lemmas.Bool.{and_parts, cases_Bool, false_from_ne_true}
use Rattle.std.proofs.lemmas.Fmt.{decimal_injective}
use Rattle.std.proofs.lemmas.List.{length-map}
use Rattle.std.proofs.lemmas.Slice.Eq.{bytes_eq-Decides}
use Rattle.kmip_objects.specs.Objects.{DistinctNames, DistinctUids, object_named, object_with, restated, all_restated}
use Rattle.kmip_objects.specs.Ranges.{attrs_fit, is_identifier}
use Rattle.kmip_objects.proofs.ForCallers.{decimal_identifier}
use Rattle.kmip_objects.specs.declared.key_state.KeyState.{KeyState}
use Rattle.kmip_store.specs.declared.row.Row.{Row}
use Rattle.kmip_store.specs.Stock.{AreNumbered, HaveOwnNames, IsKept, Stock, has_row_named, identifier_at, object_of, objects_of}
use Rattle.kmip_server.specs.Shown.{HasLawfulObjects, object_fits}
use Rattle.kmip_store.specs.Stepping.{enter, row_in_state, rows_in_state, row_with}

-- the first image that passes a test is that of the first element whose image does
pub find-map : {A B : Type 0} (test : B → Bool) (f : A → B) (xs : List A) → find test (map f xs) ≡ option_map f (find (λ x. test (f x)) xs)
find-map test f [] = refl
find-map test f (x ∷ xs) = elim (cases_Bool (test (f x))) [
  | inl passes ↦ rw passes refl
  | inr fails ↦ rw fails (find-map test f xs)
]

-- an element passes a test where one is found
pub is_some-find : {A : Type 0} (test : A → Bool) (xs : List A) → is_some (find test xs) ≡ list_any test xs
is_some-find test [] = refl
is_some-find test (x ∷ xs) = elim (cases_Bool (test x)) [
  | inl passes ↦ rw passes refl
  | inr fails ↦ rw fails (is_some-find test xs)
]

is_some-map : {A B : Type 0} (f : A → B) (o : Option A) → is_some (option_map f o) ≡ is_some o
is_some-map f None = refl
is_some-map f (Some a) = refl

none_from : {A : Type 0} (o : Option A) → is_some o ≡ false → o ≡ None
none_from None is = refl
none_from (Some a) is = cc

-- an object has the name where a row has it
pub some_named : (name : List ℕ) (rows : List Row) → is_some (object_named name (objects_of rows)) ≡ has_row_named name rows
some_named name rows =
    ap is_some (find-map (λ o. pointwise nat_eq name o.attrs.name) object_of rows)
    ∙ is_some-map object_of (find (λ r. pointwise nat_eq name r.attrs.name) rows)
    ∙ is_some-find (λ r. pointwise nat_eq name r.attrs.name) rows

pub none_named : (name : List ℕ) (rows : List Row) → has_row_named name rows ≡ false → object_named name (objects_of rows) ≡ None
none_named name rows free = none_from (object_named name (objects_of rows)) (some_named name rows ∙ free)

-- the object with an identifier is what the row with it shows
pub object_of_row : (uid : List ℕ) (rows : List Row) → object_with uid (objects_of rows) ≡ option_map object_of (row_with uid rows)
object_of_row uid rows = find-map (λ o. pointwise nat_eq uid o.uid) object_of rows

-- what a row shows in another state
restated_if : (b : Bool) (state : KeyState) (r : Row)
    → object_of (cond b (enter state r) r) ≡ cond b (record { uid = r.uid; attrs = r.attrs; state = state }) (object_of r)
restated_if true state r = refl
restated_if false state r = refl

pub object_moved : (uid : List ℕ) (state : KeyState) (r : Row) → object_of (row_in_state uid state r) ≡ restated uid state (object_of r)
object_moved uid state r = restated_if (pointwise nat_eq uid r.uid) state r

pub objects_moved : (uid : List ℕ) (state : KeyState) (rows : List Row)
    → objects_of (rows_in_state uid state rows) ≡ all_restated uid state (objects_of rows)
objects_moved uid state [] = refl
objects_moved uid state (r ∷ rows) = rw (object_moved uid state r, objects_moved uid state rows) refl

-- ---- the objects of records that are kept

own_names : (rows : List Row) → HaveOwnNames rows → DistinctNames (objects_of rows)
own_names [] named = tt
own_names (r ∷ rows) named = (none_named r.attrs.name rows named.0, own_names rows named.1)

-- the identifier of a place before those of some rows is on none of them
before_all : (place n : ℕ) (rows : List Row) → AreNumbered place rows → n < place → place + length rows ≤ 10000
    → row_with (identifier_at n) rows ≡ None
before_all place n [] numbered before small = refl
before_all place n (r ∷ rows) numbered before small =
    let other : pointwise nat_eq (identifier_at n) r.uid ≡ false =
    false_from_ne_true (pointwise nat_eq (identifier_at n) r.uid)
    (λ same.
    let equal = decimal_injective (n + 1) (place + 1) (omega (arith, before, small)) (omega (arith, small)) ((bytes_eq-Decides (identifier_at n) r.uid).0 same ∙ numbered.0) in
    omega (arith, equal, before)) in
    rw other (before_all (place + 1) n rows numbered.1 (omega (arith, before)) (omega (arith, small)))

own_identifiers : (place : ℕ) (rows : List Row) → AreNumbered place rows → place + length rows ≤ 10000 → DistinctUids (objects_of rows)
own_identifiers place [] numbered small = tt
own_identifiers place (r ∷ rows) numbered small =
    let free : row_with r.uid rows ≡ None =
    ap (λ uid. row_with uid rows) numbered.0 ∙ before_all (place + 1) place rows numbered.1 (omega arith) (omega (arith, small)) in
    (object_of_row r.uid rows ∙ ap (option_map object_of) free, own_identifiers (place + 1) rows numbered.1 (omega (arith, small)))

fit_objects : (place : ℕ) (rows : List Row) → AreNumbered place rows → place + length rows ≤ 10000 → list_all (λ r. attrs_fit r.attrs) rows ≡ true
    → list_all object_fits (objects_of rows) ≡ true
fit_objects place [] numbered small fit = refl
fit_objects place (r ∷ rows) numbered small fit =
    let parts = and_parts (attrs_fit r.attrs) (list_all (λ r. attrs_fit r.attrs) rows) fit in
    let identified : is_identifier r.uid ≡ true = ap is_identifier numbered.0 ∙ decimal_identifier (place + 1) (omega (arith, small)) in
    rw (identified, parts.0, fit_objects (place + 1) rows numbered.1 (omega (arith, small)) parts.1) refl

pub kept_objects : (s : Stock) → IsKept s.rows s.room → HasLawfulObjects s
kept_objects s kept =
    let small : 0 + length s.rows ≤ 10000 = omega (arith, kept.within, kept.small) in
    record {
      names = own_names s.rows kept.named;
      identifiers = own_identifiers 0 s.rows kept.numbered small;
      within = omega (arith, kept.within, length-map s.rows object_of);
      fit = fit_objects 0 s.rows kept.numbered small kept.fit;
    }

-- What holds of the records at all times: with one object more, and of each object that is found.
use Rattle.std.proofs.Common.{◌≡◌, ℕ, ◌+◌, ◌<◌, ◌≤◌, Bool, true, false, nat_eq, List, [], ◌∷◌, ◌++◌, length, Option, Some, None, Bor, IfSome, subst, refl, sym, ap, ◌∙◌, inl, inr, arith}
use Rattle.std.specs.Cmp.Lexicographic.{pointwise}
use Rattle.std.specs.Fmt.{decimal}
use Rattle.std.specs.List.{list_all, find}
use Rattle.std.specs.Option.{option_copied}
use Rattle.std.proofs.lemmas.Fmt.{decimal_injective}
use Rattle.std.proofs.lemmas.Bool.{and_parts, or_parts, or_from, cases_Bool, false_from_ne_true, both_ways}
use Rattle.std.proofs.lemmas.List.{length-append, length-map}
use Rattle.std.proofs.lemmas.List.Folds.{list_all-append}
use Rattle.std.proofs.lemmas.Slice.Eq.{bytes_eq-Decides}
use Rattle.kmip_objects.specs.Ranges.{is_identifier, attrs_fit}
use Rattle.kmip_objects.specs.declared.key_attrs.KeyAttrs.{KeyAttrs}
use Rattle.kmip_objects.proofs.ForCallers.{decimal_identifier}
use Rattle.kmip_objects.specs.declared.key_state.KeyState.{KeyState}
use Rattle.kmip_store.specs.declared.row.Row.{Row}
use Rattle.kmip_store.specs.Stock.{Stock, has_row_named, identifier_at, new_row, AreNumbered, HaveOwnNames, IsKept}
use Rattle.kmip_store.specs.Stepping.{row_in_state, rows_in_state, row_with}
use Rattle.kmip_store.proofs.ForCallers.{moved_uid, moved_attrs, has_name_moved}

-- two texts that are apart one way are apart the other way
pub apart_back : (a b : List ℕ) → pointwise nat_eq a b ≡ false → pointwise nat_eq b a ≡ false
apart_back a b apart =
    false_from_ne_true (pointwise nat_eq b a) (λ same. both_ways _ apart ((bytes_eq-Decides a b).1 (sym ((bytes_eq-Decides b a).0 same))))

numbered_more : (place : ℕ) (rows : List Row) (row : Row) → AreNumbered place rows → row.uid ≡ decimal (place + length rows + 1)
    → AreNumbered place (rows ++ row ∷ [])
numbered_more place [] row numbered is =
    let here : place + 0 + 1 ≡ place + 1 = omega arith in
    (is ∙ ap decimal here, tt)
numbered_more place (r ∷ rows) row numbered is =
    let more : place + length (r ∷ rows) + 1 ≡ (place + 1) + length rows + 1 = omega arith in
    (numbered.0, numbered_more (place + 1) rows row numbered.1 (is ∙ ap decimal more))

other_name : (name : List ℕ) (rows : List Row) (row : Row) → has_row_named name rows ≡ false → pointwise nat_eq name row.attrs.name ≡ false
    → has_row_named name (rows ++ row ∷ []) ≡ false
other_name name [] row free apart = or_from _ _ apart refl
other_name name (r ∷ rows) row free apart =
    let parts = or_parts _ (has_row_named name rows) free in
    or_from _ _ parts.0 (other_name name rows row parts.1 apart)

named_more : (rows : List Row) (row : Row) → HaveOwnNames rows → has_row_named row.attrs.name rows ≡ false → HaveOwnNames (rows ++ row ∷ [])
named_more [] row named free = (refl, tt)
named_more (r ∷ rows) row named free =
    let parts = or_parts _ (has_row_named row.attrs.name rows) free in
    (other_name r.attrs.name rows row named.0 (apart_back row.attrs.name r.attrs.name parts.0), named_more rows row named.1 parts.1)

pub kept_more : (rows : List Row) (room : ℕ) (attrs : KeyAttrs) (row : Row) (material : List ℕ) → IsKept rows room → length rows < room
    → has_row_named attrs.name rows ≡ false → attrs_fit attrs ≡ true → row ≡ new_row (length rows) attrs material
    → IsKept (rows ++ row ∷ []) room
kept_more rows room attrs row material kept free new fits is = record {
  within = omega (arith, kept.within, free, length-append rows (row ∷ []));
  small = kept.small;
  numbered =
      let last : length rows + 1 ≡ 0 + length rows + 1 = omega arith in
      numbered_more 0 rows row kept.numbered (ap (λ r. r.uid) is ∙ ap decimal last);
  named = named_more rows row kept.named (ap (λ r. has_row_named r.attrs.name rows) is ∙ new);
  fit =
      rw (
        list_all-append (λ r. attrs_fit r.attrs) rows (row ∷ []),
        kept.fit,
        is,
        fits,
      ) refl;
}

-- what the server may say of a row fits into a message
abbrev pub IsLawful : Row → Type 0
IsLawful r = (is_identifier r.uid ≡ true) × (attrs_fit r.attrs ≡ true)

-- the first row that passes a test is lawful
found_fits : (test : Row → Bool) (place : ℕ) (rows : List Row) → AreNumbered place rows → place + length rows ≤ 10000
    → list_all (λ r. attrs_fit r.attrs) rows ≡ true
    → IfSome (find test rows) IsLawful
found_fits test place [] numbered small fit = tt
found_fits test place (r ∷ rows) numbered small fit =
    let parts = and_parts (attrs_fit r.attrs) (list_all (λ r. attrs_fit r.attrs) rows) fit in
    elim (cases_Bool (test r)) [
      | inl passes ↦
          rw passes
          (ap is_identifier numbered.0 ∙ decimal_identifier (place + 1) (omega (arith, small)), parts.0)
      | inr fails ↦ rw fails (found_fits test (place + 1) rows numbered.1 (omega (arith, small)) parts.1)
    ]

pub kept_fits : (test : Row → Bool) (rows : List Row) (room : ℕ) (found : Option (Bor Row)) → IsKept rows room
    → option_copied found ≡ find test rows
    → IfSome found (λ r. IsLawful r.now)
kept_fits test rows room None kept is = tt
kept_fits test rows room (Some r) kept is =
    subst (λ o. IfSome o IsLawful) (sym is)
    (found_fits test 0 rows kept.numbered (omega (arith, kept.within, kept.small)) kept.fit)

numbered_moved : (uid : List ℕ) (state : KeyState) (place : ℕ) (rows : List Row) → AreNumbered place rows
    → AreNumbered place (rows_in_state uid state rows)
numbered_moved uid state place [] numbered = tt
numbered_moved uid state place (r ∷ rows) numbered =
    (moved_uid uid state r ∙ numbered.0, numbered_moved uid state (place + 1) rows numbered.1)

named_moved : (uid : List ℕ) (state : KeyState) (rows : List Row) → HaveOwnNames rows → HaveOwnNames (rows_in_state uid state rows)
named_moved uid state [] named = tt
named_moved uid state (r ∷ rows) named = (
  ap (λ a. has_row_named a.name (rows_in_state uid state rows)) (moved_attrs uid state r)
      ∙ has_name_moved uid state r.attrs.name rows
      ∙ named.0,
  named_moved uid state rows named.1,
)

fit_moved : (uid : List ℕ) (state : KeyState) (rows : List Row)
    → list_all (λ r. attrs_fit r.attrs) (rows_in_state uid state rows) ≡ list_all (λ r. attrs_fit r.attrs) rows
fit_moved uid state [] = refl
fit_moved uid state (r ∷ rows) = rw (moved_attrs uid state r, fit_moved uid state rows) refl

pub kept_moved : (uid : List ℕ) (state : KeyState) (rows : List Row) (room : ℕ) → IsKept rows room → IsKept (rows_in_state uid state rows) room
kept_moved uid state rows room kept = record {
  within = omega (arith, kept.within, length-map rows (row_in_state uid state));
  small = kept.small;
  numbered = numbered_moved uid state 0 rows kept.numbered;
  named = named_moved uid state rows kept.named;
  fit = fit_moved uid state rows ∙ kept.fit;
}

-- the identifier of a place behind those of some rows is on none of them
free_identifier : (place n : ℕ) (rows : List Row) → AreNumbered place rows → place + length rows ≤ n → n ≤ 10000
    → row_with (identifier_at n) rows ≡ None
free_identifier place n [] numbered within small = refl
free_identifier place n (r ∷ rows) numbered within small =
    let other : pointwise nat_eq (identifier_at n) r.uid ≡ false =
    false_from_ne_true (pointwise nat_eq (identifier_at n) r.uid)
    (λ same.
    let equal = decimal_injective (n + 1) (place + 1) (omega (arith, small)) (omega (arith, within, small)) ((bytes_eq-Decides (identifier_at n) r.uid).0 same ∙ numbered.0) in
    omega (arith, equal, within)) in
    rw other (free_identifier (place + 1) n rows numbered.1 (omega (arith, within)) small)

pub next_free : (rows : List Row) (room : ℕ) → IsKept rows room → length rows < room → row_with (identifier_at (length rows)) rows ≡ None
next_free rows room kept roomy =
    free_identifier 0 (length rows) rows kept.numbered (omega arith) (omega (arith, kept.small, roomy))

-- the identifier of the next object
pub next_identifier : (s : Stock) → IsKept s.rows s.room → length s.rows < s.room
    → (is_identifier (identifier_at (length s.rows)) ≡ true) × (row_with (identifier_at (length s.rows)) s.rows ≡ None)
next_identifier s kept roomy = (decimal_identifier (length s.rows + 1) (omega (arith, kept.small, roomy)), next_free s.rows s.room kept roomy)

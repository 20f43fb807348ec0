-- At most one row has the name that a Locate gives.
use Rattle.std.proofs.Common.{if◌then◌else◌, ◌≡◌, ℕ, Bool, true, false, nat_eq, ℤ, List, [], ◌∷◌, Option, Some, None, Bor, IfSome, subst, refl, sym, ap, ◌∙◌, inl, inr}
use Rattle.std.specs.Cmp.Lexicographic.{pointwise}
use Rattle.std.specs.List.{find, position}
use Rattle.std.specs.Option.{option_copied, option_map, option_to_list, is_some, IsSome}
use Rattle.std.specs.declared.string.String.{String}
use Rattle.indexmap.specs.IndexMap.{IndexMap, get_by_text}
use Rattle.std.proofs.lemmas.Bool.{and_right, or_parts, cases_Bool, both_ways, false≢true, cond-true, cond-false}
use Rattle.std.proofs.lemmas.Option.{none-some, same_Some}
use Rattle.std.proofs.lemmas.Slice.Eq.{bytes_eq-Decides}
use Rattle.kmip_objects.specs.Objects.{Object}
use Rattle.kmip_objects.specs.declared.attrs.Attrs.{Attrs}
use Rattle.kmip_store.specs.declared.row.Row.{Row}
use Rattle.kmip_objects.specs.Ranges.{is_identifier}
use Rattle.kmip_store.specs.Stock.{object_of, objects_of, has_row_named, HaveOwnNames, IsKept}
use Rattle.kmip_store.proofs.KeptLemmas.{IsLawful, kept_fits}
use Rattle.kmip_store.proofs.PlaceLemmas.{none_passes, any_map, found_any}
use Rattle.kmip_store.specs.PrivateIndexing.{LeadsTo, names_of}
use Rattle.kmip_objects.specs.Attributes.{has_given}
use Rattle.kmip_store.specs.Locating.{is_searched, is_wanted, locate}

-- the test of a row by what a Locate gives
abbrev pub wants : Option ℤ → Attrs → Row → Bool
wants mask given r = is_wanted mask given (object_of r)

-- an object with another name is not wanted
unwanted : (mask : Option ℤ) (given : Attrs) (name : List ℕ) (o : Object) → given.name ≡ Some name
    → pointwise nat_eq name o.attrs.name ≡ false → is_wanted mask given o ≡ false
unwanted mask given name o is other = and_right (is_searched mask o.state) (has_given given o.attrs o.state) (rw (is, other) refl)

none_named : (mask : Option ℤ) (given : Attrs) (name : List ℕ) (rows : List Row) → given.name ≡ Some name
    → has_row_named name rows ≡ false → locate mask given (objects_of rows) ≡ []
none_named mask given name [] is free = refl
none_named mask given name (r ∷ rows) is free =
    let parts = or_parts _ (has_row_named name rows) free in
    rw (unwanted mask given name (object_of r) is parts.0) (none_named mask given name rows is parts.1)

-- the rows that are wanted are the first of them alone
first_located : (mask : Option ℤ) (given : Attrs) (name : List ℕ) (rows : List Row) → given.name ≡ Some name → HaveOwnNames rows
    → locate mask given (objects_of rows) ≡ option_to_list (option_map (λ r. r.uid) (find (wants mask given) rows))
first_located mask given name [] is named = refl
first_located mask given name (r ∷ rows) is named = elim (cases_Bool (is_wanted mask given (object_of r))) [
  | inl wanted ↦
      elim (cases_Bool (pointwise nat_eq name r.attrs.name)) [
        | inl same ↦
            let free : has_row_named name rows ≡ false = ap (λ n. has_row_named n rows) ((bytes_eq-Decides name r.attrs.name).0 same) ∙ named.0 in
            rw wanted (ap (λ uids. r.uid ∷ uids) (none_named mask given name rows is free))
        | inr other ↦ absurd (both_ways _ (unwanted mask given name (object_of r) is other) wanted)
      ]
  | inr unfit ↦ rw unfit (first_located mask given name rows is named.1)
]

-- a name that is given
name_of : (name : Option (List ℕ)) → IsSome name → (own : List ℕ) × (name ≡ Some own)
name_of None some = absurd (false≢true some)
name_of (Some own) some = (own, refl)

located_is : (mask : Option ℤ) (given : Attrs) (rows : List Row) (found : Option Row) → IsSome given.name → HaveOwnNames rows
    → found ≡ find (wants mask given) rows
    → locate mask given (objects_of rows) ≡ option_to_list (option_map (λ r. r.uid) found)
located_is mask given rows found some named is =
    let name = name_of given.name some in
    first_located mask given name.0 rows name.1 named ∙ ap (λ o. option_to_list (option_map (λ r. r.uid) o)) (sym is)

uid_fits : (found : Option (Bor Row)) → IfSome found (λ r. IsLawful r.now)
    → IfSome (option_map (λ r. r.uid) (option_copied found)) (λ u. is_identifier u ≡ true)
uid_fits None lawful = tt
uid_fits (Some r) lawful = lawful.0

-- the identifier of the row that was found is what a Locate answers, and is in its range
pub located : (mask : Option ℤ) (given : Attrs) (rows : List Row) (room : ℕ) (found : Option (Bor Row)) (uid : Option (List ℕ))
    → IsSome given.name → IsKept rows room → option_copied found ≡ find (wants mask given) rows
    → uid ≡ option_map (λ r. r.uid) (option_copied found)
    → (locate mask given (objects_of rows) ≡ option_to_list uid) × IfSome uid (λ u. is_identifier u ≡ true)
located mask given rows room found uid some kept first is =
    let lawful = kept_fits (wants mask given) rows room found kept first in (
      located_is mask given rows (option_copied found) some kept.named first ∙ ap option_to_list (sym is),
      subst (λ u. IfSome u (λ u. is_identifier u ≡ true)) (sym is) (uid_fits found lawful),
    )

-- the test of a row by its name
abbrev pub has_name : List ℕ → Row → Bool
has_name name r = pointwise nat_eq name r.attrs.name

none_wanted : (mask : Option ℤ) (given : Attrs) (name : List ℕ) (rows : List Row) → given.name ≡ Some name
    → has_row_named name rows ≡ false → find (wants mask given) rows ≡ None
none_wanted mask given name [] is free = refl
none_wanted mask given name (r ∷ rows) is free =
    let parts = or_parts _ (has_row_named name rows) free in
    rw (unwanted mask given name (object_of r) is parts.0) (none_wanted mask given name rows is parts.1)

-- where no row has the name, none is wanted
pub unnamed_unwanted : (mask : Option ℤ) (given : Attrs) (name : List ℕ) (rows : List Row) → given.name ≡ Some name
    → position (has_name name) rows ≡ None → find (wants mask given) rows ≡ None
unnamed_unwanted mask given name rows is nowhere = none_wanted mask given name rows is (none_passes (has_name name) rows nowhere)

-- the row with the name is the only one that may be wanted
pub named_wanted : (mask : Option ℤ) (given : Attrs) (name : List ℕ) (rows : List Row) (row : Row) → given.name ≡ Some name → HaveOwnNames rows
    → find (has_name name) rows ≡ Some row → find (wants mask given) rows ≡ (if wants mask given row then Some row else None)
named_wanted mask given name [] row is own found = absurd (none-some row found)
named_wanted mask given name (r ∷ rows) row is own found = elim (cases_Bool (pointwise nat_eq name r.attrs.name)) [
  | inl same ↦
      let first : r ≡ row = same_Some r row (sym (cond-true _ (Some r) (find (has_name name) rows) same) ∙ found) in
      let free : has_row_named name rows ≡ false = ap (λ n. has_row_named n rows) ((bytes_eq-Decides name r.attrs.name).0 same) ∙ own.0 in
      rw (← first, none_wanted mask given name rows is free) refl
  | inr other ↦
      rw (unwanted mask given name (object_of r) is other)
      (named_wanted mask given name rows row is own.1 (sym (cond-false _ (Some r) (find (has_name name) rows) other) ∙ found))
]

-- the map from the names knows which names are used
pub has_named : {A S : Type 0} (rows : List Row) (names : IndexMap (String A) ℕ S) (name : List ℕ) → LeadsTo names (names_of rows)
    → is_some (get_by_text names name) ≡ has_row_named name rows
has_named rows names name leads =
    ap is_some (leads name)
    ∙ sym (found_any (pointwise nat_eq name) (names_of rows) [] (position (pointwise nat_eq name) (names_of rows)) refl)
    ∙ any_map (λ r. r.attrs.name) (pointwise nat_eq name) rows

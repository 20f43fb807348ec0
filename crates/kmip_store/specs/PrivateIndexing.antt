-- Private: where the maps of an `IndexedStore` lead.
-- Source: own (view).
use Rattle.std.specs.Prelude.{◌≡◌, ℕ, List, map, Some, nat_eq, if◌then◌else◌}
use Rattle.std.specs.Cmp.Lexicographic.{pointwise}
use Rattle.std.specs.List.{position}
use Rattle.std.specs.declared.string.String.{String}
use Rattle.indexmap.specs.IndexMap.{IndexMap, get_by_text}
use Rattle.kmip_store.specs.declared.row.Row.{Row}

-- The names of the rows, in their order.
abbrev pub names_of : List Row → List (List ℕ)
names_of rows = map (λ r. r.attrs.name) rows

-- The identifiers of the rows, in their order.
abbrev pub uids_of : List Row → List (List ℕ)
uids_of rows = map (λ r. r.uid) rows

-- The map leads from each of the texts to its place among them, and from no other text.
abbrev pub LeadsTo : {A S : Type 0} → IndexMap (String A) ℕ S → List (List ℕ) → Type 0
LeadsTo places texts = (text : List ℕ) → get_by_text places text ≡ position (pointwise nat_eq text) texts

-- A text was noted: the map leads from it to the place, and from each other text where it led.
abbrev pub Notes : {A S : Type 0} → IndexMap (String A) ℕ S → IndexMap (String A) ℕ S → List ℕ → ℕ → Type 0
Notes old new text place =
    (other : List ℕ) → get_by_text new other ≡ (if pointwise nat_eq text other then Some place else get_by_text old other)

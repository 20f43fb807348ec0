-- The maps with one row more, and with the entry that was added last taken back.
use Rattle.std.proofs.Common.{◌≡◌, ℕ, ◌+◌, ◌-◌, ◌<◌, Bool, true, false, nat_eq, List, [], ◌∷◌, ◌++◌, length, take, map, Option, Some, None, ltb, cond, refl, sym, ap, subst, ◌∙◌, inl, inr, arith, length-append, append-nil, take_all, le_refl, not}
use Rattle.std.specs.Cmp.Lexicographic.{pointwise}
use Rattle.std.specs.List.{list_any, position, position_or_len}
use Rattle.std.specs.Option.{option_to_list, IsSome}
use Rattle.std.specs.declared.string.String.{String}
use Rattle.std.proofs.lemmas.Bool.{cases_Bool, false≢true, cond-true, cond-false, or_parts}
use Rattle.std.proofs.lemmas.Bool.Decides.{nat_tests}
use Rattle.std.proofs.lemmas.List.{length-map, map-append, take-append-le}
use Rattle.std.proofs.lemmas.List.Folds.{position_or_len_push}
use Rattle.std.proofs.lemmas.List.Sums.{prefix_len-le-length}
use Rattle.std.proofs.lemmas.Slice.Eq.{bytes_eq-Decides}
use Rattle.indexmap.specs.IndexMap.{IndexMap, get_by_text}
use Rattle.kmip_store.specs.declared.row.Row.{Row}
use Rattle.kmip_store.specs.PrivateIndexing.{Notes, LeadsTo}
use Rattle.kmip_store.specs.Stock.{IsKept, identifier_at}
use Rattle.kmip_store.proofs.KeptLemmas.{apart_back, next_free}
use Rattle.kmip_store.proofs.PlaceLemmas.{any_map, any_none}
use Rattle.kmip_store.proofs.SteppingLemmas.{has_uid}

-- where no item passes, the first that does is behind all
none_first : {X : Type 0} (test : X → Bool) (xs : List X) → list_any test xs ≡ false → position_or_len test xs ≡ length xs
none_first test [] none = refl
none_first test (x ∷ xs) none =
    let parts = or_parts (test x) (list_any test xs) none in
    rw parts.0 (omega (arith, none_first test xs parts.1))

-- the last item is the first that passes, where none before it does
position_last : {X : Type 0} (test : X → Bool) (xs : List X) (x : X) → list_any test xs ≡ false → test x ≡ true
    → position test (xs ++ x ∷ []) ≡ Some (length xs)
position_last test xs x none passes =
    let first = none_first test xs none in
    let all = length-append xs (x ∷ []) in
    let push = position_or_len_push test xs x in
    let at : position_or_len test (xs ++ x ∷ []) ≡ length xs = grind (arith, nat_tests) in
    let within : ltb (position_or_len test (xs ++ x ∷ [])) (length (xs ++ x ∷ [])) ≡ true = grind (arith, nat_tests) in
    ap (λ b. cond b (Some (position_or_len test (xs ++ x ∷ []))) None) within ∙ ap Some at

-- an item behind all that does not pass changes no place
position_before : {X : Type 0} (test : X → Bool) (xs : List X) (x : X) → test x ≡ false → position test (xs ++ x ∷ []) ≡ position test xs
position_before test xs x fails =
    let all = length-append xs (x ∷ []) in
    let push = position_or_len_push test xs x in
    let most : position_or_len test xs < length xs + 1 = omega (arith, prefix_len-le-length (λ y. not (test y)) xs) in
    elim (cases_Bool (ltb (position_or_len test xs) (length xs))) [
      | inl inside ↦
          let at : position_or_len test (xs ++ x ∷ []) ≡ position_or_len test xs = grind (arith, nat_tests) in
          let within : ltb (position_or_len test (xs ++ x ∷ [])) (length (xs ++ x ∷ [])) ≡ true = grind (arith, nat_tests) in
          ap (λ b. cond b (Some (position_or_len test (xs ++ x ∷ []))) None) within ∙ ap Some at
          ∙ sym (ap (λ b. cond b (Some (position_or_len test xs)) None) inside)
      | inr outside ↦
          let beyond : ltb (position_or_len test (xs ++ x ∷ [])) (length (xs ++ x ∷ [])) ≡ false = grind (arith, nat_tests) in
          ap (λ b. cond b (Some (position_or_len test (xs ++ x ∷ []))) None) beyond
          ∙ sym (ap (λ b. cond b (Some (position_or_len test xs)) None) outside)
    ]

-- a map with one text more leads to it behind all others
pub leads_more : {A S : Type 0} (old new : IndexMap (String A) ℕ S) (texts : List (List ℕ)) (text : List ℕ) (place : ℕ) → LeadsTo old texts
    → list_any (pointwise nat_eq text) texts ≡ false → place ≡ length texts → Notes old new text place
    → LeadsTo new (texts ++ text ∷ [])
leads_more old new texts text place leads free is on other = elim (cases_Bool (pointwise nat_eq text other)) [
  | inl same ↦
      let equal : text ≡ other = (bytes_eq-Decides text other).0 same in
      let none : list_any (pointwise nat_eq other) texts ≡ false = ap (λ t. list_any (pointwise nat_eq t) texts) (sym equal) ∙ free in
      let passes : pointwise nat_eq other text ≡ true = (bytes_eq-Decides other text).1 (sym equal) in
      on other ∙ cond-true (pointwise nat_eq text other) (Some place) (get_by_text old other) same ∙ ap Some is
      ∙ sym (position_last (pointwise nat_eq other) texts text none passes)
  | inr apart ↦
      on other ∙ cond-false (pointwise nat_eq text other) (Some place) (get_by_text old other) apart ∙ leads other
      ∙ sym (position_before (pointwise nat_eq other) texts text (apart_back text other apart))
]

-- and to the row that is added, by its text
pub leads_row : {A S : Type 0} (own : Row → List ℕ) (old new : IndexMap (String A) ℕ S) (rows more : List Row) (row : Row) (text : List ℕ) (place : ℕ)
    → LeadsTo old (map own rows) → list_any (λ r. pointwise nat_eq text (own r)) rows ≡ false → place ≡ length rows → Notes old new text place
    → text ≡ own row → more ≡ rows ++ row ∷ []
    → LeadsTo new (map own more)
leads_row own old new rows more row text place leads free is on same pushed =
    let texts : map own more ≡ map own rows ++ text ∷ [] =
    ap (map own) pushed ∙ map-append own rows (row ∷ []) ∙ ap (λ t. map own rows ++ t ∷ []) (sym same) in
    subst (LeadsTo new) (sym texts)
    (leads_more old new (map own rows) text place leads (any_map own (pointwise nat_eq text) rows ∙ free) (is ∙ sym (length-map rows own)) on)

-- a text that no row has leads nowhere
pub leads_nowhere : {A S : Type 0} (own : Row → List ℕ) (places : IndexMap (String A) ℕ S) (rows : List Row) (text : List ℕ)
    → LeadsTo places (map own rows) → list_any (λ r. pointwise nat_eq text (own r)) rows ≡ false → get_by_text places text ≡ None
leads_nowhere own places rows text leads free =
    let texts = map own rows in
    let test : List ℕ → Bool = pointwise nat_eq text in
    let first = none_first test texts (any_map own test rows ∙ free) in
    let beyond : ltb (position_or_len test texts) (length texts) ≡ false = grind (arith, nat_tests) in
    leads text ∙ ap (λ b. cond b (Some (position_or_len test texts)) None) beyond

-- no row has the next identifier
pub free_uid : (rows : List Row) (uid : List ℕ) (room : ℕ) → IsKept rows room → length rows < room → uid ≡ identifier_at (length rows)
    → list_any (has_uid uid) rows ≡ false
free_uid rows uid room kept roomy is =
    ap (λ u. list_any (has_uid u) rows) is
    ∙ any_none (has_uid (identifier_at (length rows))) rows (next_free rows room kept roomy)

-- what stands before the last entry
pub before_last : {X : Type 0} (xs : List X) (x : X) → take (length (xs ++ x ∷ []) - 1) (xs ++ x ∷ []) ≡ xs
before_last xs x =
    let all : length (xs ++ x ∷ []) - 1 ≡ length xs = omega (arith, length-append xs (x ∷ [])) in
    ap (λ n. take n (xs ++ x ∷ [])) all ∙ take-append-le (length xs) xs (x ∷ []) (le_refl _) ∙ take_all (length xs) xs (le_refl _)

-- what is left where the last entry, if any, is gone
pub popped_front : {X : Type 0} (old new : List X) (popped : Option X) → old ≡ new ++ option_to_list popped
    → (IsSome popped → 0 < length old) × (0 < length old → IsSome popped) → new ≡ take (length old - 1) old
popped_front [] new None is found = sym (append-nil new) ∙ sym is
popped_front (x ∷ xs) new None is found = absurd (false≢true (found.1 (omega arith)))
popped_front old new (Some x) is found = sym (ap (λ xs. take (length xs - 1) xs) is ∙ before_last new x)
